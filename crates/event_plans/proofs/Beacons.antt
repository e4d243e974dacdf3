-- What is stored for a beacon: its index has 12 bits, and its step is one of the table.
use Rattle.std.proofs.Common.{◌≡◌, ℕ, ◌≤◌, Bool, true, false, cond, List, [], ◌∷◌, ap, sym, subst, Option, Some, None}
use Rattle.std.specs.Prelude.{All, is_some}
use Rattle.std.specs.List.{AllByRecursion as Every}
use Rattle.event_plans.proofs.Narrow.{IsIndexed, narrow_of}
use Rattle.event_records.specs.Steps.{IsStepFrom}
use Rattle.mesh_base.proofs.Every.{every_at}
use Rattle.iv_update.specs.Steps.{IsLater, state_after}
use Rattle.layer_definitions.specs.Beacon.{BeaconSource}
use Rattle.layer_definitions.specs.IvIndex.{iv_next}
use Rattle.layer_definitions.specs.KeyRefresh.{beacon_keys, keys_of, net_row}
use Rattle.mesh_base.proofs.Every.{every_append}
use Rattle.mesh_base.specs.IvState.{HasTransmit}
use Rattle.mesh_base.specs.declared.beacon.Beacon.{Beacon}
use Rattle.mesh_base.specs.declared.iv_state.IvState.{IvState}
use Rattle.mesh_base.specs.declared.keys.NetKeyRow.{NetKeyRow}
use Rattle.mesh_types.specs.declared.answers.Answer.{Answer}
use Rattle.mesh_types.specs.declared.answers.Answer.TheVariants as A
use Rattle.mesh_types.specs.declared.events.Event.TheVariants as E
use Rattle.node_layers.specs.NodeLayers.{node_layers}
use Rattle.node_records.specs.Meaning.{IsMeaningOf}
use Rattle.node_records.specs.declared.persist.Persist.{Persist}
use Rattle.event_definitions.specs.Answers.{answer_of, beacon_answer, config_before, is_busy}
use Rattle.event_definitions.specs.History.{Insight, OfBeacon, OfNothing, OfPdu, Past}
use Rattle.event_definitions.specs.Readings.{Sees, sees_beacon}
use Rattle.store_definitions.specs.Config.{Config}
use Rattle.store_definitions.specs.Ranges.{IsInRange}

abbrev IsSmall : BeaconSource → Type 0
IsSmall s = s.index ≤ 0xfff

sources_small : (rows : List NetKeyRow) → Every IsIndexed rows → Every IsSmall (beacon_keys rows)
sources_small [] h = tt
sources_small (r ∷ rows) h = every_append IsSmall _ (beacon_keys rows) (of_row r.next) (sources_small rows h.1)
  where
    of_row : (next : Option (List ℕ)) → Every IsSmall (keys_of (λ fresh key. let s : BeaconSource = record { index = r.index; fresh = fresh; key = key } in s) r.key next)
    of_row None = (h.0, tt)
    of_row (Some key) = (h.0, (h.0, tt))

-- the laws of the steps that beacons ask for
abbrev pub BeaconSteps : Type 0
BeaconSteps = (s : IvState) (primary : Bool) (from iv : ℕ) (flag busy : Bool) → HasTransmit s → IsLater s (state_after s (iv_next s primary from iv flag busy))

unless_step : (s : IvState) (b : Bool) (a : Answer) → IsStepFrom s a → IsStepFrom s (cond b A.Reset a)
unless_step s true a h = tt
unless_step s false a h = h

heard_step : (past : Past) (octets : List ℕ) (i : Insight) → BeaconSteps → All IsInRange past.records → HasTransmit (config_before past).iv → Sees node_layers past (E.Bcn octets) i
    → IsStepFrom (config_before past).iv (answer_of node_layers past (E.Bcn octets) i)
unfolding answer_of
heard_step past octets (OfBeacon (Some b)) laws ranges transmit (sees_beacon reset reads) =
    let c = config_before past in
    let small : b.index ≤ 0xfff = subst (λ (x : Beacon). x.index ≤ 0xfff) (sym reads.beacon)
    (every_at IsSmall (beacon_keys c.nets) reads.place reads.by reads.by_is (sources_small c.nets (narrow_of past.records ranges).nets)) in
    unless_step c.iv c.reset (beacon_answer node_layers past (OfBeacon (Some b)))
    (small, laws c.iv (is_some (net_row c.nets 0)) b.index b.iv b.update (is_busy node_layers past) transmit)
heard_step past octets (OfBeacon None) laws ranges transmit h = unless_step (config_before past).iv (config_before past).reset A.Unread tt
heard_step past octets (OfPdu r low opening) laws ranges transmit h = unless_step (config_before past).iv (config_before past).reset A.Unread tt
heard_step past octets OfNothing laws ranges transmit h = unless_step (config_before past).iv (config_before past).reset A.Unread tt

pub beacon_step : (past : Past) (p : Persist) (octets : List ℕ) (i : Insight) (a : Answer) → BeaconSteps → IsMeaningOf past.records p → All IsInRange past.records → HasTransmit p.iv
    → Sees node_layers past (E.Bcn octets) i → a ≡ answer_of node_layers past (E.Bcn octets) i → IsStepFrom p.iv a
beacon_step past p octets i a laws m ranges transmit sees is =
    let iv : (config_before past).iv ≡ p.iv = ap (λ (c : Config). c.iv) (sym m.config) in
    subst (λ x. IsStepFrom p.iv x) (sym is)
    (subst (λ s. IsStepFrom s (answer_of node_layers past (E.Bcn octets) i)) iv (heard_step past octets i laws ranges (subst HasTransmit (sym iv) transmit) sees))
