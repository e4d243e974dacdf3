-- Lists of jobs and of records that are empty, and what a tick event does by its answer.
use Rattle.std.proofs.Common.{◌≡◌, ℕ, ◌-◌, ◌/◌, ◌<◌, ◌≤◌, ◌↔◌, inl, inr, Bool, true, false, cond, not, List, [], ◌∷◌, ◌++◌, map, refl, arith}
use Rattle.std.specs.Prelude.{◌==◌, ◌||◌, nat_lt, if◌then◌else◌}
use Rattle.std.proofs.lemmas.Bool.Decides.{nat_tests}
use Rattle.mesh_base.specs.declared.iv_state.IvState.{IvState}
use Rattle.layer_definitions.specs.KeyRefresh.{own_beacon}
use Rattle.mesh_base.specs.declared.keys.NetKeyRow.{NetKeyRow}
use Rattle.mesh_types.specs.declared.answers.Answer.TheVariants as A
use Rattle.mesh_types.specs.declared.events.Event.TheVariants as E
use Rattle.mesh_types.specs.declared.jobs.Job.{Job}
use Rattle.mesh_types.specs.declared.jobs.Job.TheVariants as J
use Rattle.node_layers.specs.BuiltLayers.{built_layers}
use Rattle.node_layers.specs.ConfiguredLayers.{configured_layers}
use Rattle.node_layers.specs.NodeLayers.{node_layers, published_at}
use Rattle.node_layers.specs.Reassembly.{acks_at}
use Rattle.node_layers.specs.Sending.{segments_at}
use Rattle.event_definitions.specs.Answers.{answer_of, config_before, later}
use Rattle.event_definitions.specs.History.{OfNothing, Past, now_of}
use Rattle.event_definitions.specs.Jobs.{beacon_jobs, beacons_due, is_moved, jobs_of}
use Rattle.event_definitions.specs.Stores.{hours_passed, stores, tick_records}
use Rattle.next_due.specs.Quiet.{tick_answer}
use Rattle.next_due.specs.Still.{AreNoBeacons, IsNoHour}
use Rattle.store_definitions.specs.Config.{Config}

pub told : (past : Past) (ticks : ℕ) → tick_answer past ticks ≡ cond (config_before past).reset A.Reset (A.Ticked (later past ticks))
unfolding answer_of
told past ticks = refl

pub stores_are : (past : Past) (ticks now : ℕ) → stores node_layers past (E.Tick ticks) OfNothing (A.Ticked now) ≡ tick_records node_layers past ticks
unfolding stores
stores_are past ticks now = refl

pub reset_stores : (past : Past) (ticks : ℕ) → stores node_layers past (E.Tick ticks) OfNothing A.Reset ≡ []
unfolding stores
reset_stores past ticks = refl

pub jobs_are : (past : Past) (c : Config) (ticks now : ℕ)
    → jobs_of node_layers past c (E.Tick ticks) OfNothing (A.Ticked now)
    ≡ acks_at past c ticks ++ segments_at past c ticks ++ beacons_due past c ticks ++ published_at past c ticks
unfolding built_layers configured_layers node_layers jobs_of
jobs_are past c ticks now = refl

pub reset_jobs : (past : Past) (c : Config) (ticks : ℕ) → jobs_of node_layers past c (E.Tick ticks) OfNothing A.Reset ≡ []
unfolding jobs_of
reset_jobs past c ticks = refl

-- what is empty as a whole is so in each part
pub empty_parts : {A : Type 0} (xs ys : List A) → xs ++ ys ≡ [] → (xs ≡ []) × (ys ≡ [])
empty_parts [] ys h = (refl, h)
empty_parts (x ∷ xs) ys h = absurd cc

-- Records: none exactly where no hour ended.

pub no_records : (past : Past) (ticks : ℕ) → IsNoHour (now_of past.told) (later past ticks) → tick_records node_layers past ticks ≡ []
no_records past ticks h =
    let none : (hours_passed past ticks == 0) ≡ true = grind (arith, nat_tests, h) in
    rw none refl

some_record : (past : Past) (ticks : ℕ) → (hours_passed past ticks == 0) ≡ false → tick_records node_layers past ticks ≡ [] → ⊥
some_record past ticks e h = let one = rw e at h in cc

pub no_hour : (past : Past) (ticks : ℕ) → tick_records node_layers past ticks ≡ [] → IsNoHour (now_of past.told) (later past ticks)
no_hour past ticks h = by_test (hours_passed past ticks == 0) refl
  where
    by_test : (b : Bool) → (hours_passed past ticks == 0) ≡ b → IsNoHour (now_of past.told) (later past ticks)
    by_test true e = grind (arith, nat_tests, e)
    by_test false e = absurd (some_record past ticks e h)

-- Beacons, where the IV state stays.

same_bits : (b : Bool) → (if b then not b else b) ≡ false
same_bits true = refl
same_bits false = refl

stays : (s : IvState) → is_moved s s ≡ false
stays s = let same : (s.current == s.current) ≡ true = grind (arith, nat_tests) in rw (same, same_bits s.progress) refl

abbrev beacons_if : Bool → Bool → Config → List Job
beacons_if passed moved c = if passed || moved then beacon_jobs c else []

pub no_beacons : (past : Past) (ticks : ℕ) → AreNoBeacons (config_before past) (now_of past.told) (later past ticks) → beacons_due past (config_before past) ticks ≡ []
no_beacons past ticks (inl e) = by_test (nat_lt (now_of past.told / 1000) (later past ticks / 1000) || is_moved (config_before past).iv (config_before past).iv)
  where
    by_test : (b : Bool) → (if b then beacon_jobs (config_before past) else []) ≡ []
    by_test true = e
    by_test false = refl
no_beacons past ticks (inr h) =
    let passed : nat_lt (now_of past.told / 1000) (later past ticks / 1000) ≡ false = grind (arith, nat_tests, h) in
    rw (passed, stays (config_before past).iv) refl

pub beacons_none : (past : Past) (ticks : ℕ) → beacons_due past (config_before past) ticks ≡ [] → AreNoBeacons (config_before past) (now_of past.told) (later past ticks)
beacons_none past ticks h = by_test (nat_lt (now_of past.told / 1000) (later past ticks / 1000)) refl
  where
    by_test : (b : Bool) → nat_lt (now_of past.told / 1000) (later past ticks / 1000) ≡ b
        → AreNoBeacons (config_before past) (now_of past.told) (later past ticks)
    by_test true e = inl (rw e at h)
    by_test false e = inr (grind (arith, nat_tests, e))

-- where beacons are sent there is one for each network key
pub some_beacon : (c : Config) → c.beacon ≡ 1 → beacon_jobs c ≡ [] → c.nets ≡ []
some_beacon c on h =
    let sends : (c.beacon == 1) ≡ true = grind (arith, nat_tests, on) in
    by_keys c.nets (rw sends at h)
  where
    by_keys : (rows : List NetKeyRow) → map (λ r. J.Beacon (own_beacon c.iv r)) rows ≡ [] → rows ≡ []
    by_keys [] e = refl
    by_keys (r ∷ rows) e = absurd cc

-- periods that follow one another from 0 on
pub from_zero : (now moment period end : ℕ) → ((moment - 0) / period ≤ (now - 0) / period) ↔ moment < end
    → (moment / period ≤ now / period) ↔ moment < end
from_zero now moment period end h =
    let a : moment - 0 ≡ moment = omega arith in
    let b : now - 0 ≡ now = omega arith in
    rw (a, b) at h
