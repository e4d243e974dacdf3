use Rattle.std.proofs.Common.{subst, sym}
use Rattle.event_plans.proofs.Own.{AreWith, kept_planned}
use Rattle.event_plans.specs.Memory.{AreNodeTablesOf, NodeTablesView}
use Rattle.mesh_types.specs.declared.events.Event.{Event}
use Rattle.mesh_types.specs.declared.events.Event.TheVariants as E
use Rattle.event_plans.proofs.planning.plan_kept.Goals as goal

pub returns-clause-planned : goal.returns-clause-planned
returns-clause-planned c past p h =
    let t : NodeTablesView = record { hearing = c.tables.inside.hearing; models = c.tables.inside.models; friends = c.tables.inside.friends } in
    let event : Event = E.Kept c.args.lpn c.args.fsn c.args.name.now c.args.pdu.now in
    let tables : AreNodeTablesOf t past = subst (λ (v : NodeTablesView). AreNodeTablesOf v past) (sym c.tables.view_is) h.tables in
    let friends : AreWith c.keep_octets.new.friends past event c.keep_octets.result =
    λ e is insight answer same. c.keep_octets.ensures.friends past e tables.friends is insight answer in
    kept_planned (record { tables = c.tables_law.ensures.more; models = c.node_models_law.ensures.more }) past t c.args.lpn c.args.fsn c.args.name.now c.args.pdu.now
    c.keep_octets.result c.keep_octets.new.friends tables (c.keep_octets.ensures.value past tables.friends) friends
