-- How long a change takes, and which messages are of one transaction (Mesh Model 1.0.1). Section numbers are that document's. Time is in
-- ticks of 10 ms.
use Rattle.std.specs.Prelude.{ℕ, ◌+◌, ◌-◌, ◌*◌, ◌/◌, ◌%◌, ◌==◌, ◌&&◌, nat_lt, nat_le, min, Bool, true, false, if◌then◌else◌, List, [], ◌∷◌, Option, Some, None}
use Rattle.mesh_base.specs.declared.address.Address.{Address}
use Rattle.model_states.specs.declared.models.Timing.{Timing}
use Rattle.model_states.specs.declared.models.Transaction.{Transaction}

-- Transition time and delay (3.1.3).

-- the ticks of one step, by the Default Transition Step Resolution: 100 ms, 1 s, 10 s, 10 min (3.1.3.2)
abbrev pub step_ticks : ℕ → ℕ
step_ticks resolution =
    if resolution == 0 then 10 else if resolution == 1 then 100 else if resolution == 2 then 1000 else 60000

-- A transition time has the number of its steps in the low 6 bits and their resolution in the high 2. 3f steps are a time that isn't known.
abbrev pub is_known_time : ℕ → Bool
is_known_time octet = nat_lt (octet % 64) 0x3f

abbrev pub duration_of : ℕ → ℕ
duration_of octet = octet % 64 * step_ticks (octet / 64)

-- a delay has steps of 5 ms; an odd one is taken for the next even one
abbrev pub delay_of : ℕ → ℕ
delay_of octet = (octet + 1) / 2

-- what stands at the end of a set message: a known transition time and a delay, or nothing
abbrev pub timing_of : List ℕ → Option Timing
timing_of [] = Some (record { delay = 0; duration = 0 })
timing_of (time ∷ delay ∷ []) =
    if is_known_time time then Some (record { delay = delay_of delay; duration = duration_of time }) else None
timing_of _ = None

-- Where a change is, so many ticks after it was taken.

abbrev pub is_delayed : Timing → ℕ → Bool
is_delayed t elapsed = nat_lt elapsed t.delay

abbrev pub is_over : Timing → ℕ → Bool
is_over t elapsed = nat_le (t.delay + t.duration) elapsed

-- so many ticks of it are left, the delay included
abbrev pub ticks_left : Timing → ℕ → ℕ
ticks_left t elapsed = t.delay + t.duration - elapsed

-- Remaining Time, the octet for so many ticks: in the smallest step of which at most 3e suffice, rounded up, and at most 3e of the largest.
abbrev pub steps_for : ℕ → ℕ → ℕ
steps_for ticks step = (ticks + (step - 1)) / step

unfoldable pub remaining_time : ℕ → ℕ
remaining_time ticks =
    if nat_le (steps_for ticks 10) 0x3e then steps_for ticks 10
    else if nat_le (steps_for ticks 100) 0x3e then 0x40 + steps_for ticks 100
    else if nat_le (steps_for ticks 1000) 0x3e then 0x80 + steps_for ticks 1000
    else 0xc0 + min 0x3e (steps_for ticks 60000)

-- Transactions: set messages with the SRC, DST and TID of the last one, each less than 6 s after the one before (3.3.1.2.2, 3.3.2.2.2).

abbrev pub is_of : Transaction → ℕ → Address → Address → ℕ → Bool
is_of t now src dst tid = t.src.0 == src.0 && t.dst.0 == dst.0 && t.tid == tid && nat_lt (now - t.renewed) 600

abbrev pub is_repeated : Option Transaction → ℕ → Address → Address → ℕ → Bool
is_repeated None now src dst tid = false
is_repeated (Some t) now src dst tid = is_of t now src dst tid

-- the transaction of a message that is taken now
abbrev pub transaction : ℕ → Address → Address → ℕ → Transaction
transaction now src dst tid = record { src = src; dst = dst; tid = tid; renewed = now }
