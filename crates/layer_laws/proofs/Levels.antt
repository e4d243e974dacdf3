-- A level that is kept has 16 bits.
use Rattle.std.proofs.Common.{◌≡◌, ℕ, ◌+◌, ◌-◌, ◌*◌, ◌^◌, ◌<◌, ◌≤◌, ℤ, pos, negsuc, ◌+ℤ◌, Bool, true, false, cond, ◌||◌, eqb, ltb, leb, List, [], ◌∷◌, arith, subst, Option, Some, None, w16, FitsSigned}
use Rattle.std.specs.Bool.{⊤}
use Rattle.std.specs.Prelude.{slice_index}
use Rattle.std.specs.Int.{cast_signed, cast_unsigned, from_le_bytes}
use Rattle.std.specs.List.{fold}
use Rattle.std.specs.Option.{option_map}
use Rattle.std.specs.Ordering.{int_eq}
use Rattle.std.proofs.lemmas.Bool.Decides.{nat_tests}
use Rattle.std.proofs.lemmas.Int.{ints, clamps}
use Rattle.mesh_base.specs.declared.address.Address.{Address}
use Rattle.model_states.specs.Level.{delta_params, in_range, level_after, level_after_payload, level_changed, level_get, level_kept, level_message, level_present, level_repeated, level_set, level_taken, move_params, set_params, way_gone}
use Rattle.model_states.specs.Timing.{is_delayed, is_repeated, timing_of}
use Rattle.model_states.specs.declared.models.Goal.{Goal}
use Rattle.model_states.specs.declared.models.Goal.TheVariants.{To, Along}
use Rattle.model_states.specs.declared.models.LevelChange.{LevelChange}
use Rattle.model_states.specs.declared.models.LevelChange.TheVariants.{Level, Delta, Move}
use Rattle.model_states.specs.declared.models.LevelMessage.{LevelMessage}
use Rattle.model_states.specs.declared.models.LevelMessage.TheVariants.{Get, Set}
use Rattle.model_states.specs.declared.models.LevelSet.{LevelSet}
use Rattle.model_states.specs.declared.models.LevelState.{LevelState}
use Rattle.model_states.specs.declared.models.Timing.{Timing}
use Rattle.node_layers.specs.Models.{TakenMessage, level_first, level_server, level_state, level_with, taken_from, first_records}
use Rattle.onoff_level_models.proofs.Ways.{part-fits}
use Rattle.event_definitions.specs.History.{Past}
use Rattle.store_definitions.specs.Config.{config_of}
use Rattle.layer_laws.proofs.Lists.{Inside, by_test, option_cases, when}

abbrev pub Fit : ℤ → Type 0
Fit z = FitsSigned w16 z

cast_fits : (n : ℕ) → Fit (cast_signed w16 n)
cast_fits n = when _ (ltb n (2 ^ 15)) (λ e. rw e (omega (arith, ints, (let low : n < 2 ^ 15 = grind (arith, nat_tests, e) in low)))) (λ e. rw e (omega (arith, ints, (let high : 2 ^ 15 ≤ n = grind (arith, nat_tests, e) in high))))

range_fits : (z : ℤ) → Fit (in_range z)
range_fits z = omega (arith, ints, clamps)

-- a goal that is a level
abbrev IsGoal : Goal → Type 0
IsGoal (To target) = Fit target
IsGoal (Along delta) = ⊤

pub record LevelFits (s : LevelState) : Type 0 where
  pub start : Fit s.start
  pub goal : IsGoal s.goal

after_fits : (start : ℤ) (goal : Goal) (duration ticks : ℕ) → Fit start → IsGoal goal → Fit (level_after start goal duration ticks)
after_fits start (To target) duration ticks s g =
    by_test Fit (leb duration ticks) target _ (λ e. g) (λ e. part-fits start target ticks duration s g (grind (arith, nat_tests, e)))
after_fits start (Along delta) duration ticks s g = range_fits (start +ℤ way_gone delta ticks duration)

present_fits : (s : LevelState) (now : ℕ) → LevelFits s → Fit (level_present s now)
present_fits s now h =
    by_test Fit (is_delayed s.timing (now - s.taken)) s.start _ (λ e. h.start)
    (λ e. after_fits s.start s.goal s.timing.duration (now - s.taken - s.timing.delay) h.start h.goal)

pub kept_fits : (s : LevelState) → LevelFits s → Fit (level_kept s)
kept_fits s h = by_goal s.goal h.goal
  where
    by_goal : (goal : Goal) → IsGoal goal → Fit (level_kept (record s { goal = goal }))
    by_goal (To target) g = g
    by_goal (Along delta) g = h.start

-- A message's level.

abbrev IsChangeFit : LevelChange → Type 0
IsChangeFit (Level target) = Fit target
IsChangeFit _ = ⊤

changed_fits : (s : LevelState) (now : ℕ) (m : LevelSet) (first : ℤ) → LevelFits s → IsChangeFit m.change → LevelFits (level_changed s now m first)
changed_fits s now m first h g = by_change m.change g
  where
    by_change : (change : LevelChange) → IsChangeFit change → LevelFits (level_changed s now (record m { change = change }) first)
    by_change (Level target) g = record { start = present_fits s now h; goal = g }
    by_change (Delta delta) g = record { start = present_fits s now h; goal = range_fits (first +ℤ delta) }
    by_change (Move delta) g =
        when _ (int_eq delta (pos 0) || eqb m.timing.duration 0)
        (λ e. rw e (record { start = present_fits s now h; goal = present_fits s now h }))
        (λ e. rw e (record { start = present_fits s now h; goal = tt }))

repeated_fits : (s : LevelState) (now : ℕ) (m : LevelSet) → LevelFits s → LevelFits (level_repeated s now m)
repeated_fits s now m h = by_change m.change
  where
    by_change : (change : LevelChange) → LevelFits (level_repeated s now (record m { change = change }))
    by_change (Level target) = h
    by_change (Delta delta) = changed_fits s now (record m { change = Delta delta }) s.first h tt
    by_change (Move delta) = h

abbrev IsMessageFit : LevelMessage → Type 0
IsMessageFit Get = ⊤
IsMessageFit (Set m) = IsChangeFit m.change

taken_fits : (s : LevelState) (now : ℕ) (src dst : Address) (m : LevelMessage) → LevelFits s → IsMessageFit m → LevelFits (level_taken s now src dst m)
taken_fits s now src dst Get h g = h
taken_fits s now src dst (Set m) h g =
    let next : LevelState = cond (is_repeated s.last now src dst m.tid) (level_repeated s now m) (level_changed s now m (level_present s now)) in
    let fits : LevelFits next =
    when _ (is_repeated s.last now src dst m.tid) (λ e. rw e (repeated_fits s now m h)) (λ e. rw e (changed_fits s now m (level_present s now) h g)) in
    record { start = fits.start; goal = fits.goal }

-- the message of a payload
set_inside : (acknowledged : Bool) (change : LevelChange) (rest : List ℕ) → IsChangeFit change → Inside IsMessageFit (level_set acknowledged change rest)
set_inside acknowledged change [] g = tt
set_inside acknowledged change (tid ∷ rest) g = made (timing_of rest)
  where
    made : (o : Option Timing) → Inside IsMessageFit (option_map (λ (t : Timing). Set (record { acknowledged = acknowledged; change = change; tid = tid; timing = t })) o)
    made None = tt
    made (Some t) = g

params_inside : (acknowledged : Bool) (params : List ℕ) → Inside IsMessageFit (set_params acknowledged params)
params_inside acknowledged [] = tt
params_inside acknowledged (a ∷ []) = tt
params_inside acknowledged (a ∷ b ∷ rest) = set_inside acknowledged _ rest (cast_fits (from_le_bytes w16 (a ∷ b ∷ [])))

delta_inside : (acknowledged : Bool) (params : List ℕ) → Inside IsMessageFit (delta_params acknowledged params)
delta_inside acknowledged [] = tt
delta_inside acknowledged (a ∷ []) = tt
delta_inside acknowledged (a ∷ b ∷ []) = tt
delta_inside acknowledged (a ∷ b ∷ c ∷ []) = tt
delta_inside acknowledged (a ∷ b ∷ c ∷ d ∷ rest) = set_inside acknowledged _ rest tt

move_inside : (acknowledged : Bool) (params : List ℕ) → Inside IsMessageFit (move_params acknowledged params)
move_inside acknowledged [] = tt
move_inside acknowledged (a ∷ []) = tt
move_inside acknowledged (a ∷ b ∷ rest) = set_inside acknowledged _ rest tt

get_inside : (params : List ℕ) → Inside IsMessageFit (level_get params)
get_inside [] = tt
get_inside (x ∷ xs) = tt

message_inside : (payload : List ℕ) → Inside IsMessageFit (level_message payload)
unfolding level_message
message_inside [] = tt
message_inside (high ∷ []) = tt
message_inside (high ∷ low ∷ params) =
    let opcode : ℕ = high * 256 + low in
    when _ (eqb opcode 0x8205) (λ e. rw e (get_inside params)) (λ e. rw e
    (when _ (eqb opcode 0x8206) (λ f. rw f (params_inside true params)) (λ f. rw f
    (when _ (eqb opcode 0x8207) (λ g. rw g (params_inside false params)) (λ g. rw g
    (when _ (eqb opcode 0x8209) (λ h. rw h (delta_inside true params)) (λ h. rw h
    (when _ (eqb opcode 0x820a) (λ i. rw i (delta_inside false params)) (λ i. rw i
    (when _ (eqb opcode 0x820b) (λ j. rw j (move_inside true params)) (λ j. rw j
    (when _ (eqb opcode 0x820c) (λ k. rw k (move_inside false params)) (λ k. rw k tt)))))))))))))

pub payload_fits : (s : LevelState) (now : ℕ) (src dst : Address) (payload : List ℕ) → LevelFits s → LevelFits (level_after_payload s now src dst payload)
payload_fits s now src dst payload h =
    option_cases _ (level_message payload) (λ e. rw e h)
    (λ m e. rw e (taken_fits s now src dst m h (inside_is e (message_inside payload))))
  where
    inside_is : {m : LevelMessage} → level_message payload ≡ Some m → Inside IsMessageFit (level_message payload) → IsMessageFit m
    inside_is {m} e h = subst (Inside IsMessageFit) e h

-- So of the states of a life.
states_fit : (ts : List TakenMessage) (s : LevelState) → LevelFits s → LevelFits (fold level_with s ts)
states_fit [] s h = h
states_fit (t ∷ ts) s h = states_fit ts (level_with s t) (payload_fits s t.now t.message.name.src t.message.dst t.message.payload h)

pub state_fits : (past : Past) (element : ℕ) → LevelFits (level_state past element)
state_fits past element =
    states_fit (taken_from element level_server 0 past.told) (level_first (config_of (first_records past)) element)
    (record { start = cast_fits (slice_index (config_of (first_records past)).levels element); goal = cast_fits (slice_index (config_of (first_records past)).levels element) })

-- the octets of a level have 16 bits
pub unsigned_small : (z : ℤ) → Fit z → cast_unsigned w16 z < 2 ^ 16
unsigned_small (pos n) h = omega (arith, ints, h)
unsigned_small (negsuc n) h = omega (arith, ints, h)
