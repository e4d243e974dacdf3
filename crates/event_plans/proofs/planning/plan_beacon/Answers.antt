use Rattle.std.proofs.Common.{sym, subst}
use Rattle.event_plans.proofs.Beacons.{beacon_step}
use Rattle.event_plans.proofs.Delivered.{IsApart, beacon_apart, beacon_leaves, beacon_reads, models_stay}
use Rattle.event_plans.proofs.Friends.{friends_stay}
use Rattle.event_plans.specs.Memory.{AreNodeTablesOf, NodeTablesView}
use Rattle.mesh_hearing.specs.Heard.{beacon_insight}
use Rattle.mesh_types.specs.declared.events.Event.TheVariants as E
use Rattle.node_layers.specs.NodeLayers.{node_layers}
use Rattle.event_plans.proofs.planning.plan_beacon.Goals as goal

pub beacon_records-records-requires-clause-step : goal.beacon_records-records-requires-clause-step
beacon_records-records-requires-clause-step c =
    let (past, h) = c.requires.standing in
    let tables = subst (λ (v : NodeTablesView). AreNodeTablesOf v past) (sym c.tables.view_is) h.tables in
    let x = c.hear_beacon-heard.ensures.heard past h.meaning tables.hearing in
    let i = beacon_insight c.hear_beacon-heard.result in
    beacon_step past c.args.p.now c.args.octets.now i c.hear_beacon-heard.result.answer c.steps_law.ensures.beacon
    h.meaning h.ranges (c.value_law.ensures.transmit c.args.p.now c.requires.said) x.sees x.answer

pub returns-clause-planned : goal.returns-clause-planned
returns-clause-planned c past h =
    let tables = subst (λ (v : NodeTablesView). AreNodeTablesOf v past) (sym c.tables.view_is) h.tables in
    let heard = c.hear_beacon-heard.result in
    let x = c.hear_beacon-heard.ensures.heard past h.meaning tables.hearing in
    let i = beacon_insight heard in
    let apart : IsApart heard.answer = subst IsApart (sym x.answer) (beacon_apart past c.args.octets.now i) in
    record {
      sees = x.sees;
      answer = x.answer;
      records = c.beacon_records-records.ensures.value node_layers past c.args.octets.now i h.meaning.config;
      tables = λ e records event insight answer same elements. record {
        hearing = c.hear_beacon-heard.ensures.tables past.told e tables.hearing insight answer;
        models = models_stay c.node_models_law.ensures.more c.tables.inside.models past e records heard.answer apart tables.models answer same elements;
        friends =
            friends_stay c.friend_steps_law.ensures.others c.tables.inside.friends past.told (E.Bcn c.args.octets.now) heard.answer i (beacon_reads heard.reset heard.beacon)
            (beacon_leaves c.args.octets.now heard.answer apart) tables.friends e event insight answer;
      };
      basis = tt;
    }
