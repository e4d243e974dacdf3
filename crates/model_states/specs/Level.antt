-- The Generic Level Server (Mesh Model 1.0.1, sections 3.1.2, 3.2.2 and 3.3.2). Levels and deltas are signed. Time is in ticks of 10 ms.
use Rattle.std.specs.Prelude.{ℕ, ◌+◌, ◌-◌, ◌*◌, ◌/◌, ◌%◌, ◌==◌, ◌||◌, nat_lt, nat_le, not, Bool, true, false, if◌then◌else◌, List, [], ◌∷◌, ◌++◌, Option, Some, None, ℤ, pos, negsuc, ◌+ℤ◌, ◌-ℤ◌, ◌*ℤ◌, int_div, int_lt}
use Rattle.std.specs.Option.{option_map}
use Rattle.std.specs.Ordering.{int_eq}
use Rattle.std.specs.Int.{w16, w32, int_min, int_max, cast_signed, cast_unsigned, from_le_bytes}
use Rattle.mesh_base.specs.declared.address.Address.{Address}
use Rattle.model_states.specs.declared.models.Goal.{Goal}
use Rattle.model_states.specs.declared.models.Goal.TheVariants.{To, Along}
use Rattle.model_states.specs.declared.models.LevelChange.{LevelChange}
use Rattle.model_states.specs.declared.models.LevelChange.TheVariants.{Level, Delta, Move}
use Rattle.model_states.specs.declared.models.LevelMessage.{LevelMessage}
use Rattle.model_states.specs.declared.models.LevelMessage.TheVariants.{Get, Set}
use Rattle.model_states.specs.declared.models.LevelSet.{LevelSet}
use Rattle.model_states.specs.declared.models.LevelState.{LevelState}
use Rattle.model_states.specs.declared.models.Timing.{Timing}
use Rattle.model_states.specs.Access.{two_low_first}
use Rattle.model_states.specs.Timing.{timing_of, is_delayed, is_over, ticks_left, remaining_time, is_repeated, transaction}

-- Messages (3.2.2).

-- signed numbers of two and of four octets, the low octet first
abbrev pub signed_two : ℕ → ℕ → ℤ
signed_two a b = cast_signed w16 (from_le_bytes w16 (a ∷ b ∷ []))

abbrev pub signed_four : ℕ → ℕ → ℕ → ℕ → ℤ
signed_four a b c d = cast_signed w32 (from_le_bytes w32 (a ∷ b ∷ c ∷ d ∷ []))

-- what stands behind the number of a set: TID, then transition time and delay or nothing
abbrev pub level_set : Bool → LevelChange → List ℕ → Option LevelMessage
level_set acknowledged change (tid ∷ rest) =
    option_map (λ t. Set (record { acknowledged = acknowledged; change = change; tid = tid; timing = t }))
    (timing_of rest)
level_set acknowledged change [] = None

-- Level has two octets (3.2.2.2), Delta Level four (3.2.2.4), and the Delta Level of a Move two (3.2.2.6)
abbrev pub set_params : Bool → List ℕ → Option LevelMessage
set_params acknowledged (a ∷ b ∷ rest) = level_set acknowledged (Level (signed_two a b)) rest
set_params acknowledged _ = None

abbrev pub delta_params : Bool → List ℕ → Option LevelMessage
delta_params acknowledged (a ∷ b ∷ c ∷ d ∷ rest) = level_set acknowledged (Delta (signed_four a b c d)) rest
delta_params acknowledged _ = None

abbrev pub move_params : Bool → List ℕ → Option LevelMessage
move_params acknowledged (a ∷ b ∷ rest) = level_set acknowledged (Move (signed_two a b)) rest
move_params acknowledged _ = None

abbrev pub level_get : List ℕ → Option LevelMessage
level_get [] = Some Get
level_get _ = None

-- the message of an access payload: Get 8205, Set 8206, Delta Set 8209, Move Set 820b, and 8207, 820a, 820c, which are Unacknowledged
unfoldable pub level_message : List ℕ → Option LevelMessage
level_message (high ∷ low ∷ params) =
    let opcode = high * 256 + low in
    if opcode == 0x8205 then level_get params
    else if opcode == 0x8206 then set_params true params
    else if opcode == 0x8207 then set_params false params
    else if opcode == 0x8209 then delta_params true params
    else if opcode == 0x820a then delta_params false params
    else if opcode == 0x820b then move_params true params
    else if opcode == 0x820c then move_params false params
    else None
level_message _ = None

-- The state (3.1.2).

-- the lowest and the highest level there is, and the nearest level to a number
abbrev pub lowest : ℤ
lowest = negsuc 32767

abbrev pub highest : ℤ
highest = pos 32767

abbrev pub in_range : ℤ → ℤ
in_range z = int_max lowest (int_min highest z)

-- the last level in the direction of a Move
abbrev pub limit : ℤ → ℤ
limit delta = if int_lt delta (pos 0) then lowest else highest

-- a node opens with a value, and no message was taken
abbrev pub level_opened : ℤ → LevelState
level_opened value =
    record {
      start = value;
      goal = To value;
      taken = 0;
      timing = record { delay = 0; duration = 0 };
      last = None;
      first = value;
    }

-- the part of a way that is gone after so many of the ticks of a transition, rounded toward zero
abbrev pub way_gone : ℤ → ℕ → ℕ → ℤ
way_gone way ticks duration = int_div (way *ℤ pos ticks) (pos duration)

-- the level so many ticks after the delay: at the target when the transition is over; a Move goes on to the limit
abbrev pub level_after : ℤ → Goal → ℕ → ℕ → ℤ
level_after start (To target) duration ticks =
    if nat_le duration ticks then target else start +ℤ way_gone (target -ℤ start) ticks duration
level_after start (Along delta) duration ticks = in_range (start +ℤ way_gone delta ticks duration)

-- Present Level: it stands until the delay is over
abbrev pub level_present : LevelState → ℕ → ℤ
level_present s now =
    let elapsed = now - s.taken in
    if is_delayed s.timing elapsed then s.start
    else level_after s.start s.goal s.timing.duration (elapsed - s.timing.delay)

-- whether the last change is over: its time is, or a Move is at its limit when the delay is over
abbrev pub is_level_over : LevelState → ℕ → Bool
is_level_over s now = is_goal_over s.goal
  where
    is_goal_over : Goal → Bool
    is_goal_over (To target) = is_over s.timing (now - s.taken)
    is_goal_over (Along delta) =
        not (is_delayed s.timing (now - s.taken) || not (int_eq (level_present s now) (limit delta)))

-- what a power cycle keeps: the target of the last change, and of a Move the level at which it was taken
abbrev pub level_kept : LevelState → ℤ
level_kept s = kept_by s.goal
  where
    kept_by : Goal → ℤ
    kept_by (To target) = target
    kept_by (Along delta) = s.start

-- The state with a change that is taken now from the present level; `first` is the level at which its transaction began. A Move by 0 or
-- without a transition time stops the level where it is (3.3.2.2.4).
abbrev pub level_changed : LevelState → ℕ → LevelSet → ℤ → LevelState
level_changed s now m first = changed_to m.change
  where
    to : ℤ → Timing → LevelState
    to target t =
        record { start = level_present s now; goal = To target; taken = now; timing = t; last = s.last; first = first }

    changed_to : LevelChange → LevelState
    changed_to (Level target) = to target m.timing
    changed_to (Delta delta) = to (in_range (first +ℤ delta)) m.timing
    changed_to (Move delta) =
        if int_eq delta (pos 0) || m.timing.duration == 0
        then to (level_present s now) (record { delay = 0; duration = 0 })
        else record {
          start = level_present s now;
          goal = Along delta;
          taken = now;
          timing = m.timing;
          last = s.last;
          first = first;
        }

-- A message of the transaction of the last one only renews it; but a Delta counts anew from the level at which the transaction began
-- (3.3.2.2.3).
abbrev pub level_repeated : LevelState → ℕ → LevelSet → LevelState
level_repeated s now m = repeated_by m.change
  where
    repeated_by : LevelChange → LevelState
    repeated_by (Delta delta) = level_changed s now m s.first
    repeated_by (Level target) = s
    repeated_by (Move delta) = s

abbrev pub level_taken : LevelState → ℕ → Address → Address → LevelMessage → LevelState
level_taken s now src dst Get = s
level_taken s now src dst (Set m) =
    record
    (if is_repeated s.last now src dst m.tid then level_repeated s now m else level_changed s now m
    (level_present s now)) {
      last = Some (transaction now src dst m.tid);
    }

-- Status (3.2.2.8).

-- Target Level and Remaining Time: a Move leads to its limit, in a time that isn't told
abbrev pub level_ahead : LevelState → ℕ → List ℕ
level_ahead s now = ahead s.goal
  where
    ahead : Goal → List ℕ
    ahead (To target) =
        two_low_first (cast_unsigned w16 target) ++ remaining_time (ticks_left s.timing (now - s.taken)) ∷ []
    ahead (Along delta) = two_low_first (cast_unsigned w16 (limit delta)) ++ 0x3f ∷ []

-- Status 8208: Present Level, and until the change is over Target Level and Remaining Time
abbrev pub level_status : LevelState → ℕ → List ℕ
level_status s now =
    0x82 ∷ 0x08 ∷ two_low_first (cast_unsigned w16 (level_present s now))
    ++ (if is_level_over s now then [] else level_ahead s now)

-- Get and the acknowledged sets ask for the Status (3.3.2.2.1 to 3.3.2.2.4)
abbrev pub level_asks : LevelMessage → Bool
level_asks Get = true
level_asks (Set m) = m.acknowledged

-- An access payload from SRC to DST: what the state is after it, and the reply. What is no message of this model changes nothing and has none.
abbrev pub level_after_payload : LevelState → ℕ → Address → Address → List ℕ → LevelState
level_after_payload s now src dst payload = after_message (level_message payload)
  where
    after_message : Option LevelMessage → LevelState
    after_message None = s
    after_message (Some m) = level_taken s now src dst m

abbrev pub level_reply : LevelState → ℕ → Address → Address → List ℕ → Option (List ℕ)
level_reply s now src dst payload = reply_to (level_message payload)
  where
    reply_to : Option LevelMessage → Option (List ℕ)
    reply_to None = None
    reply_to (Some m) = if level_asks m then Some (level_status (level_taken s now src dst m) now) else None
