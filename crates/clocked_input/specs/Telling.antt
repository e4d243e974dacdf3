-- What is told to whoever waits: that something is ready, or time; and how long is waited for it.
use Rattle.std.specs.Prelude.{◌≡◌, ℕ, ◌+◌, ◌-◌, ◌*◌, ◌/◌, ◌^◌, ◌==◌, ◌&&◌, ◌||◌, nat_le, min, max, if◌then◌else◌, All, Bool, true, false, List, ◌∷◌, ◌++◌, Option, Some, None, ⊤}
use Rattle.live_lines.specs.declared.clock.Awaited.{Awaited}
use Rattle.live_lines.specs.declared.clock.Awaited.TheVariants as A

-- How many ticks passed that weren't told, so many nanoseconds behind the beginning, where these were told: at most as many as a line says.
abbrev pub passed_at : ℕ → ℕ → ℕ
passed_at told nanos = min (nanos / 10000000 - told) 100000000

-- the ticks that are told where nothing comes before: those that are due, at least one and at most as many as a line says
abbrev pub awaited_ticks : ℕ → ℕ
awaited_ticks due = min (max due 1) 100000000

-- What is ready comes behind time that was told, and where less than a tick passed. Else a tick or more is told before it; and where nothing
-- is ready, as many as are due.
abbrev pub told_now : Bool → Bool → ℕ → ℕ → Option Awaited
told_now ready told_time passed due =
    if ready && (told_time || (passed == 0)) then Some A.Input
    else if ready || nat_le (awaited_ticks due) passed then Some (A.Passed passed)
    else None

-- the moment until which is waited at most, in nanoseconds behind the beginning: that at which what is due comes
abbrev pub end_of : ℕ → ℕ → ℕ
end_of told due = min ((told + awaited_ticks due) * 10000000) (2 ^ 64 - 1)

-- What is known of a watch: the moment of the last look and what was ready then, and until which moments was waited at most, the last first.
pub record WatchView : Type 0 where
  pub moment : ℕ
  pub ready : Bool
  pub ends : List ℕ

-- a look at it
abbrev pub WasLookedAt : Bool → ℕ → Option WatchView → Option WatchView → Type 0
WasLookedAt ready nanos None new = new ≡ None
WasLookedAt ready nanos (Some old) new = new ≡ Some (record old { moment = nanos; ready = ready })

-- it was waited for, so many nanoseconds behind the last look at most
abbrev pub WasWaitedFor : ℕ → Option WatchView → Option WatchView → Type 0
WasWaitedFor nanos None new = new ≡ None
WasWaitedFor nanos (Some old) new = new ≡ Some (record old { ends = (old.moment + nanos) ∷ old.ends })

-- Where it is known: each wait was to end when what is due comes, and what is told is what passed at the last look, or what is ready.
pub record IsToldOf (at_hand told_time : Bool) (told due : ℕ) (awaited : Awaited) (old new : WatchView) : Type 0 where
  pub is : told_now (at_hand || new.ready) told_time (passed_at told new.moment) due ≡ Some awaited
  pub waits : List ℕ
  pub ends : new.ends ≡ waits ++ old.ends
  pub until : All (λ end. end ≡ end_of told due) waits

abbrev pub IsToldBy : Bool → Bool → ℕ → ℕ → Awaited → Option WatchView → Option WatchView → Type 0
IsToldBy at_hand told_time told due awaited None new = new ≡ None
IsToldBy at_hand told_time told due awaited (Some old) None = ⊥
IsToldBy at_hand told_time told due awaited (Some old) (Some new) = IsToldOf at_hand told_time told due awaited old new

-- it is what is told of something that was ready or not, where so many ticks had passed
pub record IsTold (at_hand told_time : Bool) (due : ℕ) (awaited : Awaited) : Type 0 where
  pub ready : Bool
  pub passed : ℕ
  pub is : told_now (at_hand || ready) told_time passed due ≡ Some awaited

-- whether it was time
abbrev pub is_time : Awaited → Bool
is_time A.Input = false
is_time (A.Passed ticks) = true
