-- A tick event has no octets, so nothing is read of it; and where it is quiet, whatever is read of it is.
use Rattle.std.proofs.Common.{◌≡◌, ℕ, [], refl, sym, subst}
use Rattle.machine_contract.specs.Idle.{IsQuietTick}
use Rattle.mesh_types.specs.declared.events.Event.{Event}
use Rattle.mesh_types.specs.declared.events.Event.TheVariants as E
use Rattle.next_due.specs.Quiet.{IsQuiet}
use Rattle.node_layers.specs.NodeLayers.{node_layers}
use Rattle.event_definitions.specs.Answers.{answer_of, config_before}
use Rattle.event_definitions.specs.History.{Insight, OfNothing, Past}
use Rattle.event_definitions.specs.Jobs.{jobs_of}
use Rattle.event_definitions.specs.Readings.{Sees, sees_beacon, sees_nothing, sees_pdu}
use Rattle.event_definitions.specs.Role.{node_role}
use Rattle.event_definitions.specs.Stores.{stores}

reads_nothing : (past : Past) (event : Event) (insight : Insight) (ticks : ℕ) → Sees node_layers past event insight → event ≡ E.Tick ticks → insight ≡ OfNothing
reads_nothing past _ _ ticks (sees_pdu a b c d) e = absurd cc
reads_nothing past _ _ ticks (sees_beacon a b) e = absurd cc
reads_nothing past _ _ ticks (sees_nothing a) e = refl

pub quiet_tick : (past : Past) (ticks : ℕ) → IsQuiet past ticks → IsQuietTick (node_role node_layers) past ticks
quiet_tick past ticks q = λ insight sees.
    let event : Event = E.Tick ticks in
    let Quiet : Insight → Type 0 =
    λ i. (stores node_layers past event i (answer_of node_layers past event i) ≡ [])
    × (jobs_of node_layers past (config_before past) event i (answer_of node_layers past event i) ≡ []) in
    subst Quiet (sym (reads_nothing past event insight ticks sees refl)) (q.stores, q.jobs)
