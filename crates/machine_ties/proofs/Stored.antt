-- What an event stores keeps the node whole.
use Rattle.std.proofs.Common.{◌≡◌, ℕ, ◌<◌, suc, Bool, true, false, cond, eqb, leb, ◌&&◌, not, List, [], ◌∷◌, ◌++◌, refl, ap, subst, ◌∙◌, arith, Option, Some, None}
use Rattle.std.specs.Bool.{⊤}
use Rattle.std.specs.Prelude.{All}
use Rattle.std.specs.List.{AllByRecursion as Every}
use Rattle.std.proofs.lemmas.Bool.Decides.{nat_tests}
use Rattle.std.proofs.lemmas.List.Elements.{All-from_recursion, recursion_from_All}
use Rattle.layer_definitions.specs.KeyRefresh.{net_index, net_row}
use Rattle.layer_laws.specs.Laws.{IsWithinLimits, StoreFitting}
use Rattle.machine_standing.specs.Kept.{IsNoIdentity, KeepWhole}
use Rattle.machine_ties.specs.Kept.{AreKeeping, HasOctets}
use Rattle.mesh_base.specs.declared.address.Address.{Address}
use Rattle.mesh_base.specs.declared.beacon.Beacon.{Beacon}
use Rattle.mesh_base.specs.declared.iv_state.IvStep.{IvStep}
use Rattle.mesh_base.specs.declared.iv_state.IvStep.TheVariants as I
use Rattle.mesh_base.specs.declared.keys.NetKeyRow.{NetKeyRow}
use Rattle.mesh_base.specs.declared.pair.Name.{Name}
use Rattle.mesh_types.specs.declared.answers.Answer.{Answer}
use Rattle.mesh_types.specs.declared.answers.Answer.TheVariants as A
use Rattle.mesh_types.specs.declared.answers.KeyStep.{KeyStep}
use Rattle.mesh_types.specs.declared.answers.KeyStep.TheVariants as S
use Rattle.mesh_types.specs.declared.events.Event.{Event}
use Rattle.mesh_types.specs.declared.events.Event.TheVariants as E
use Rattle.node_layers.specs.NodeLayers.{node_layers}
use Rattle.store_definitions.proofs.Pushes.{config_push}
use Rattle.node_records.proofs.Rising.{RisesFrom, keyed_of}
use Rattle.record_types.specs.declared.records.StoreRecord.{StoreRecord}
use Rattle.record_types.specs.declared.records.StoreRecord.TheVariants as R
use Rattle.event_definitions.specs.Answers.{answer_of, beacon_answer, config_before, key_step}
use Rattle.event_definitions.specs.Fit.{AreStorable}
use Rattle.event_definitions.specs.History.{Insight, OfBeacon, OfNothing, OfPdu, Past}
use Rattle.event_definitions.specs.Layers.{AccessMessage}
use Rattle.event_definitions.specs.Stores.{asked, hours_passed, hours_step, message_of, phase_records, step_records, stores}
use Rattle.event_definitions.specs.Safe.{AreSafe, IsChange}
use Rattle.store_definitions.specs.Config.{Config, changed, config_of}
use Rattle.store_definitions.specs.Node.{HasNext, IsPhased, IsWhole, KeepsWhole}

-- Changes that may be stored keep the node whole, and say no identity.

no_identity : (item : StoreRecord) → IsChange item → IsNoIdentity item
no_identity (R.Identity unicast elements dev_key) h = absurd h
no_identity _ h = tt

changes_keep : (c : Config) (before changes : List StoreRecord) → config_of before ≡ c → Every IsChange changes → AreStorable before changes → KeepWhole c changes
changes_keep c before [] e k s = tt
changes_keep c before (item ∷ changes) e k s = (
  subst (λ d. KeepsWhole d item) e s.2,
  no_identity item k.0,
  changes_keep (changed c item) (before ++ item ∷ []) changes (config_push before item ∙ ap (λ (d : Config). changed d item) e) k.1 s.3,
)

asked_are : AreSafe node_layers → (past : Past) (o : Option AccessMessage) → Every IsChange (asked node_layers past o)
asked_are safe past None = tt
asked_are safe past (Some m) = recursion_from_All IsChange (node_layers.changes past m) (safe.changes past m)

asked_storable : StoreFitting node_layers → (past : Past) (i : Insight) (name : Name) (dst : Address) → IsWhole (config_before past) → IsWithinLimits (config_before past) → HasOctets i
    → AreStorable (past.records ++ R.Replay name None ∷ []) (asked node_layers past (message_of i name dst))
asked_storable fits past (OfPdu (Some r) low (Some o)) name dst whole limits octets =
    fits past (record { name = name; dst = dst; net = r.by.index; ttl = r.fields.ttl; key = o.key; label = o.label; payload = o.payload }) whole limits octets
asked_storable fits past (OfPdu (Some r) low None) name dst whole limits octets = tt
asked_storable fits past (OfPdu None low opening) name dst whole limits octets = tt
asked_storable fits past (OfBeacon b) name dst whole limits octets = tt
asked_storable fits past OfNothing name dst whole limits octets = tt

net_keep : AreKeeping → (past : Past) (octets : List ℕ) (i : Insight) (a : Answer) → IsWhole (config_of past.records) → IsWithinLimits (config_of past.records) → HasOctets i
    → KeepWhole (config_of past.records) (stores node_layers past (E.Net octets) i a)
unfolding changed stores
net_keep laws past octets i (A.Delivered name dst key payload) whole limits h = (
  tt,
  tt,
  changes_keep (config_of past.records) (past.records ++ R.Replay name None ∷ []) (asked node_layers past (message_of i name dst)) (config_push past.records (R.Replay name None))
      (asked_are laws.safe past (message_of i name dst)) (asked_storable laws.storable past i name dst whole limits h),
)
net_keep laws past octets i (A.Control name dst opcode params) whole limits h = (tt, tt, tt)
net_keep laws past octets i _ whole limits h = tt

-- Steps of the IV state.

steps_keep : (c d : Config) (step : IvStep) → KeepWhole c (step_records d step)
steps_keep c d (I.Ignore rule) = tt
steps_keep c d (I.Begin s) = (tt, tt, tt)
steps_keep c d (I.Finish s) = (tt, tt, tt)
steps_keep c d (I.Recover s) = (tt, tt, tt)
steps_keep c d I.Wait = tt

-- Phase 2 comes where there is a next key.

others_next : (index n : ℕ) (rows : List NetKeyRow) → index < n → RisesFrom net_index n rows → Every (HasNext index) rows
others_next index n [] less h = tt
others_next index n (x ∷ xs) less h =
    ((λ e. absurd (omega (arith, e, h.0))), others_next index (suc x.index) xs (omega (arith, h.0)) h.1)

same_row : {a b : NetKeyRow} → Some a ≡ Some b → a ≡ b
same_row e = cc

next_all : (rows : List NetKeyRow) (n index : ℕ) (r : NetKeyRow) → RisesFrom net_index n rows → Every IsPhased rows → net_row rows index ≡ Some r → r.phase ≡ 1
    → Every (HasNext index) rows
next_all [] n index r h k e phase = tt
next_all (x ∷ xs) n index r h k e phase = pick (eqb x.index index) refl e (λ g. next_all xs (suc x.index) index r h.1 k.1 g phase)
  where
    is_index : eqb x.index index ≡ true → x.index ≡ index
    is_index f = grind (arith, nat_tests)

    isnt_index : eqb x.index index ≡ false → x.index ≡ index → ⊥
    isnt_index f g = grind (arith, nat_tests)

    pick : (b : Bool) → eqb x.index index ≡ b → cond b (Some x) (net_row xs index) ≡ Some r → (net_row xs index ≡ Some r → Every (HasNext index) xs) → Every (HasNext index) (x ∷ xs)
    pick true f g rest = (
      (λ same. k.0.next ∙ ap (λ n. leb 1 n) (ap (λ (row : NetKeyRow). row.phase) (same_row g) ∙ phase)),
      others_next index (suc x.index) xs (omega (arith, is_index f)) h.1,
    )
    pick false f g rest = ((λ same. absurd (isnt_index f same)), rest g)

phase_is : (o : Option NetKeyRow) (b : Beacon) → key_step o b ≡ S.Phase2 → (r : NetKeyRow) × ((o ≡ Some r) × (r.phase ≡ 1))
phase_is None b e = absurd cc
phase_is (Some r) b e = (r, (refl, pick b.fresh b.refresh (eqb r.phase 1) (b.fresh && not b.refresh && leb 1 r.phase) refl e))
  where
    is_one : eqb r.phase 1 ≡ true → r.phase ≡ 1
    is_one f = grind (arith, nat_tests)

    pick : (x y z w : Bool) → eqb r.phase 1 ≡ z → cond (x && y && z) S.Phase2 (cond w S.Phase0 S.Same) ≡ S.Phase2 → r.phase ≡ 1
    pick true true true w f g = is_one f
    pick true true false true f g = absurd cc
    pick true true false false f g = absurd cc
    pick true false z true f g = absurd cc
    pick true false z false f g = absurd cc
    pick false y z true f g = absurd cc
    pick false y z false f g = absurd cc

phase_next : (records : List StoreRecord) (b : Beacon) → IsWhole (config_of records) → key_step (net_row (config_of records).nets b.index) b ≡ S.Phase2
    → All (HasNext b.index) (config_of records).nets
phase_next records b whole e =
    let nets = (config_of records).nets in
    let (r, (is, phase)) = phase_is (net_row nets b.index) b e in
    All-from_recursion (HasNext b.index) nets (next_all nets 0 b.index r (keyed_of records).nets (recursion_from_All IsPhased nets whole.phased) is phase)

phases_keep : (c d : Config) (index : ℕ) (k : KeyStep) (iv : IvStep) → (k ≡ S.Phase2 → All (HasNext index) c.nets) → KeepWhole c (phase_records index k ++ step_records d iv)
phases_keep c d index S.Same iv h = steps_keep c d iv
phases_keep c d index S.Phase2 iv h = (((λ e. h refl), (λ e. absurd (omega (arith, e)))), tt, steps_keep _ d iv)
phases_keep c d index S.Phase0 iv h = (((λ e. absurd (omega (arith, e))), (λ e. absurd (omega (arith, e)))), tt, steps_keep _ d iv)

-- Events.

bcn_keep : (past : Past) (octets : List ℕ) (i : Insight) → IsWhole (config_of past.records)
    → KeepWhole (config_of past.records) (stores node_layers past (E.Bcn octets) i (answer_of node_layers past (E.Bcn octets) i))
unfolding answer_of stores
bcn_keep past octets i whole = pick (config_before past).reset i
  where
    pick : (reset : Bool) (i : Insight) → KeepWhole (config_of past.records) (stores node_layers past (E.Bcn octets) i (cond reset A.Reset (beacon_answer node_layers past i)))
    pick true i = tt
    pick false (OfBeacon (Some b)) = phases_keep (config_of past.records) (config_of past.records) b.index (key_step (net_row (config_of past.records).nets b.index) b) _ (phase_next past.records b whole)
    pick false (OfBeacon None) = tt
    pick false (OfPdu r low opening) = tt
    pick false OfNothing = tt

tick_keep : (past : Past) (ticks : ℕ) (i : Insight) (a : Answer) → KeepWhole (config_of past.records) (stores node_layers past (E.Tick ticks) i a)
unfolding stores
tick_keep past ticks i (A.Ticked now) = pick (eqb (hours_passed past ticks) 0)
  where
    pick : (b : Bool) → KeepWhole (config_of past.records) (cond b [] (R.Hour (hours_step node_layers past ticks).0.hours (hours_step node_layers past ticks).0.since ∷ step_records (config_before past) (hours_step node_layers past ticks).1))
    pick true = tt
    pick false = (tt, tt, steps_keep _ (config_before past) (hours_step node_layers past ticks).1)
tick_keep past ticks i _ = tt

-- an event that brings no octets and no time
abbrev IsOwn : Event → Type 0
IsOwn (E.Net octets) = ⊥
IsOwn (E.Bcn octets) = ⊥
IsOwn (E.Tick ticks) = ⊥
IsOwn _ = ⊤

other_keep : (past : Past) (event : Event) (i : Insight) → IsOwn event → KeepWhole (config_of past.records) (stores node_layers past event i (answer_of node_layers past event i))
unfolding stores
other_keep past (E.Net octets) i h = absurd h
other_keep past (E.Bcn octets) i h = absurd h
other_keep past (E.Tick ticks) i h = absurd h
other_keep past (E.Send element dst ttl key payload) i h = tt
other_keep past (E.Raw dst ttl tpdu) i h = tt
other_keep past (E.Begin m) i h = tt
other_keep past (E.Kept lpn fsn name pdu) i h = tt
other_keep past (E.LowPower event) i h = tt

pub stores_keep : AreKeeping → (past : Past) (event : Event) (i : Insight) → IsWhole (config_of past.records) → IsWithinLimits (config_of past.records) → HasOctets i
    → KeepWhole (config_of past.records) (stores node_layers past event i (answer_of node_layers past event i))
stores_keep laws past (E.Net octets) i whole limits h = net_keep laws past octets i (answer_of node_layers past (E.Net octets) i) whole limits h
stores_keep laws past (E.Bcn octets) i whole limits h = bcn_keep past octets i whole
stores_keep laws past (E.Tick ticks) i whole limits h = tick_keep past ticks i (answer_of node_layers past (E.Tick ticks) i)
stores_keep laws past (E.Send element dst ttl key payload) i whole limits h = other_keep past (E.Send element dst ttl key payload) i tt
stores_keep laws past (E.Raw dst ttl tpdu) i whole limits h = other_keep past (E.Raw dst ttl tpdu) i tt
stores_keep laws past (E.Begin m) i whole limits h = other_keep past (E.Begin m) i tt
stores_keep laws past (E.Kept lpn fsn name pdu) i whole limits h = other_keep past (E.Kept lpn fsn name pdu) i tt
stores_keep laws past (E.LowPower event) i whole limits h = other_keep past (E.LowPower event) i tt
