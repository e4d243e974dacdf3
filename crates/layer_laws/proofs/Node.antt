-- A life keeps its elements: no event stores an identity.
use Rattle.std.proofs.Common.{◌≡◌, ℕ, zero, suc, List, [], ◌∷◌, ◌++◌, refl, sym, subst, ◌∙◌, Option, Some, None}
use Rattle.std.specs.Bool.{⊤}
use Rattle.std.specs.List.{AllByRecursion as Every, fold}
use Rattle.std.proofs.lemmas.Grind.{fold-append}
use Rattle.std.proofs.lemmas.List.Elements.{recursion_from_All}
use Rattle.mesh_base.specs.declared.iv_state.IvStep.{IvStep}
use Rattle.mesh_base.specs.declared.iv_state.IvStep.TheVariants as I
use Rattle.mesh_types.specs.declared.answers.Answer.{Answer}
use Rattle.mesh_types.specs.declared.answers.Answer.TheVariants as A
use Rattle.mesh_types.specs.declared.answers.KeyStep.{KeyStep}
use Rattle.mesh_types.specs.declared.answers.KeyStep.TheVariants as S
use Rattle.mesh_types.specs.declared.events.Event.{Event}
use Rattle.mesh_types.specs.declared.events.Event.TheVariants as E
use Rattle.record_types.specs.declared.records.StoreRecord.{StoreRecord}
use Rattle.record_types.specs.declared.records.StoreRecord.TheVariants as R
use Rattle.event_definitions.specs.Role.{node_role}
use Rattle.event_definitions.specs.Handling.{AreHandled, Handles, IsPast, past_of, records_after, records_left}
use Rattle.event_definitions.specs.History.{Insight, Past, Told}
use Rattle.event_definitions.specs.Layers.{AccessMessage, Layers}
use Rattle.event_definitions.specs.Stores.{asked, hours_step, message_of, phase_records, step_records, stores, tick_records}
use Rattle.event_definitions.proofs.Each.{every_append, every_map}
use Rattle.event_definitions.specs.Safe.{AreSafe, IsChange}
use Rattle.store_definitions.specs.Config.{Config, changed, config_of, is_element, no_config}
use Rattle.store_definitions.specs.Numbers.{fill_of, filled}
use Rattle.layer_laws.proofs.Lists.{every_pick}

-- the same elements
pub record IsSameNode (c d : Config) : Type 0 where
  pub unicast : d.unicast ≡ c.unicast
  pub elements : d.elements ≡ c.elements

pub same_node : (c : Config) → IsSameNode c c
same_node c = record { unicast = refl; elements = refl }

pub then_same : (c d e : Config) → IsSameNode c d → IsSameNode d e → IsSameNode c e
then_same c d e h k = record { unicast = k.unicast ∙ h.unicast; elements = k.elements ∙ h.elements }

pub back_same : (c d : Config) → IsSameNode c d → IsSameNode d c
back_same c d h = record { unicast = sym h.unicast; elements = sym h.elements }

pub same_element : (c d : Config) (a : ℕ) → IsSameNode c d → is_element c a ≡ is_element d a
same_element c d a h = rw (h.unicast, h.elements) refl

-- records that are no identity
abbrev pub IsNoIdentity : StoreRecord → Type 0
IsNoIdentity (R.Identity unicast elements dev_key) = ⊥
IsNoIdentity _ = ⊤

pub same_changed : (c : Config) (r : StoreRecord) → IsNoIdentity r → IsSameNode c (changed c r)
unfolding changed
same_changed c (R.Identity unicast elements dev_key) h = absurd h
same_changed c _ h = record { unicast = refl; elements = refl }

same_all : (c : Config) (rs : List StoreRecord) → Every IsNoIdentity rs → IsSameNode c (fold changed c rs)
same_all c [] h = same_node c
same_all c (r ∷ rs) h = then_same c (changed c r) (fold changed (changed c r) rs) (same_changed c r h.0) (same_all (changed c r) rs h.1)

pub same_behind : (records more : List StoreRecord) → Every IsNoIdentity more → IsSameNode (config_of records) (config_of (records ++ more))
same_behind records more h = subst (IsSameNode (config_of records)) (sym (fold-append changed no_config records more)) (same_all (config_of records) more h)

pub same_filled : (n : ℕ) (records : List StoreRecord) → IsSameNode (config_of records) (config_of (filled n records))
same_filled zero records = same_node (config_of records)
same_filled (suc n) records =
    let more : List StoreRecord = records ++ fill_of (config_of records) ∷ [] in
    then_same (config_of records) (config_of more) (config_of (filled n more)) (same_behind records (fill_of (config_of records) ∷ []) (tt, tt)) (same_filled n more)

-- What an event stores.

step_none : (c : Config) (step : IvStep) → Every IsNoIdentity (step_records c step)
step_none c (I.Ignore rule) = tt
step_none c (I.Begin s) = (tt, tt)
step_none c (I.Finish s) = (tt, tt)
step_none c (I.Recover s) = (tt, tt)
step_none c I.Wait = tt

phase_none : (index : ℕ) (key : KeyStep) → Every IsNoIdentity (phase_records index key)
phase_none index S.Same = tt
phase_none index S.Phase2 = (tt, tt)
phase_none index S.Phase0 = (tt, tt)

pub change_none : (r : StoreRecord) → IsChange r → IsNoIdentity r
change_none (R.Identity unicast elements dev_key) h = h
change_none _ h = tt

asked_none : (layers : Layers) → AreSafe layers → (past : Past) (m : Option AccessMessage) → Every IsNoIdentity (asked layers past m)
asked_none layers safe past None = tt
asked_none layers safe past (Some m) =
    every_map IsChange IsNoIdentity change_none (layers.changes past m) (recursion_from_All IsChange (layers.changes past m) (safe.changes past m))

tick_none : (layers : Layers) (past : Past) (ticks : ℕ) → Every IsNoIdentity (tick_records layers past ticks)
tick_none layers past ticks =
    every_pick IsNoIdentity _ [] (R.Hour (hours_step layers past ticks).0.hours (hours_step layers past ticks).0.since ∷ step_records (config_of past.records) (hours_step layers past ticks).1)
    tt (tt, step_none (config_of past.records) (hours_step layers past ticks).1)

pub stores_none : (layers : Layers) → AreSafe layers → (past : Past) (event : Event) (insight : Insight) (answer : Answer) → Every IsNoIdentity (stores layers past event insight answer)
unfolding stores
stores_none layers safe past (E.Net octets) insight (A.Delivered name dst key payload) = (tt, asked_none layers safe past (message_of insight name dst))
stores_none layers safe past (E.Net octets) insight (A.Control name dst opcode params) = (tt, tt)
stores_none layers safe past (E.Net octets) insight _ = tt
stores_none layers safe past (E.Bcn octets) insight (A.Beacon index key iv) = every_append IsNoIdentity (phase_records index key) (step_records (config_of past.records) iv) (phase_none index key) (step_none (config_of past.records) iv)
stores_none layers safe past (E.Bcn octets) insight _ = tt
stores_none layers safe past (E.Tick ticks) insight (A.Ticked now) = tick_none layers past ticks
stores_none layers safe past (E.Tick ticks) insight _ = tt
stores_none layers safe past _ insight _ = tt

-- Each entry of a life, with what stands before it.

pub record IsEntry (layers : Layers) (base : Config) (t : Told) : Type 0 where
  pub before : List Told
  pub handles : Handles (node_role layers) (past_of before t) t
  pub node : IsSameNode base (config_of t.records)

pub entries_same : (layers : Layers) → AreSafe layers → (base : Config) (records : List StoreRecord) (before ts : List Told)
    → AreHandled (node_role layers) records before ts → IsSameNode base (config_of records)
    → Every (IsEntry layers base) ts × IsSameNode base (config_of (records_left (node_role layers) records before ts))
entries_same layers safe base records before [] h s = (tt, s)
entries_same layers safe base records before (t ∷ ts) h s =
    let opened : IsSameNode base (config_of t.records) =
    subst (λ (l : List StoreRecord). IsSameNode base (config_of l)) (sym h.0)
    (then_same base (config_of records) (config_of (filled t.entry.fills records)) s (same_filled t.entry.fills records)) in
    let left : IsSameNode base (config_of (records_after (node_role layers) (past_of before t) t)) =
    then_same base (config_of t.records) (config_of (records_after (node_role layers) (past_of before t) t)) opened
    (same_behind t.records _ (stores_none layers safe (past_of before t) t.entry.event t.insight t.entry.answer)) in
    let (rest, last) = entries_same layers safe base (records_after (node_role layers) (past_of before t) t) (before ++ t ∷ []) ts h.2 left in
    ((record { before = before; handles = h.1; node = opened }, rest), last)

pub entries_of : (layers : Layers) → AreSafe layers → (past : Past) → IsPast (node_role layers) past → Every (IsEntry layers (config_of past.records)) past.told
entries_of layers safe past h =
    let (all, left) = entries_same layers safe (config_of h.over) h.over [] past.told h.handled (same_node (config_of h.over)) in
    let last : IsSameNode (config_of h.over) (config_of past.records) =
    subst (λ (l : List StoreRecord). IsSameNode (config_of h.over) (config_of l)) (sym h.records)
    (then_same (config_of h.over) _ _ left (same_filled h.fills (records_left (node_role layers) h.over [] past.told))) in
    every_map (IsEntry layers (config_of h.over)) (IsEntry layers (config_of past.records))
    (λ t e. record { before = e.before; handles = e.handles; node = then_same (config_of past.records) (config_of h.over) (config_of t.records) (back_same (config_of h.over) (config_of past.records) last) e.node })
    past.told all
