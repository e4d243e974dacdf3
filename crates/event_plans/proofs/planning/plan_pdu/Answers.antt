use Rattle.std.proofs.Common.{◌<◌, ◌^◌, ◌∙◌, ap, arith, subst, sym}
use Rattle.event_plans.proofs.Accepts.{place_of_answer, seq_of_answer}
use Rattle.event_plans.proofs.Delivered.{heard_untimed}
use Rattle.event_plans.proofs.Narrow.{narrow_of}
use Rattle.event_plans.specs.Delivered.{StandsFor}
use Rattle.event_plans.specs.Memory.{AreNodeTablesOf, NodeTablesView}
use Rattle.friend_steps.specs.Hearing.{FriendsStandFor}
use Rattle.layer_states.specs.Friends.{FriendsState, poll_timeouts}
use Rattle.mesh_hearing.specs.Heard.{insight_of}
use Rattle.mesh_jobs.specs.Acting.{IsActIn}
use Rattle.mesh_jobs.specs.Phases.{phases_of}
use Rattle.mesh_types.specs.declared.answers.Answer.{Answer}
use Rattle.node_layers.specs.NodeLayers.{node_layers}
use Rattle.node_models.specs.Models.{is_ticked}
use Rattle.node_records.specs.Tables.{config_in}
use Rattle.store_definitions.specs.Config.{Config}
use Rattle.event_plans.proofs.planning.plan_pdu.Goals as goal

pub heard_records-records-requires : goal.heard_records-records-requires
heard_records-records-requires c =
    let (past, h) = c.requires.standing in
    let tables = subst (λ (v : NodeTablesView). AreNodeTablesOf v past) (sym c.tables.view_is) h.tables in
    let x = c.in_ok-heard.ensures.heard past h.meaning tables.hearing h.recorded (c.as_slice.ensures.value ∙ c.keys-keys.ensures.past past tables.friends) in
    seq_of_answer past c.args.octets.now (insight_of c.in_ok-heard.heard) c.in_ok-heard.heard.answer x.sees x.answer

pub hear_friends-left-requires-clause-unicast : goal.hear_friends-left-requires-clause-unicast
hear_friends-left-requires-clause-unicast c =
    let (past, h) = c.requires.standing in
    subst (λ (k : Config). k.unicast.0 < 2 ^ 15) (sym h.meaning.config) (omega (arith, h.whole.last, h.whole.some))

pub hear_friends-left-requires-clause-read : goal.hear_friends-left-requires-clause-read
hear_friends-left-requires-clause-read c =
    let (past, h) = c.requires.standing in
    let tables = subst (λ (v : NodeTablesView). AreNodeTablesOf v past) (sym c.tables.view_is) h.tables in
    let x = c.in_ok-heard.ensures.heard past h.meaning tables.hearing h.recorded (c.as_slice.ensures.value ∙ c.keys-keys.ensures.past past tables.friends) in
    (past, c.args.octets.now, tables.friends, x.sees)

pub hear_friends-left-requires-clause-short : goal.hear_friends-left-requires-clause-short
hear_friends-left-requires-clause-short c =
    let (past, h) = c.requires.standing in
    c.take_heard-taken.ensures.short (subst (λ (k : Config). k.ttl < 2 ^ 7) (sym h.meaning.config) (narrow_of past.records h.ranges).ttl)

pub returns-clause-planned : goal.returns-clause-planned
returns-clause-planned c past h =
    let tables = subst (λ (v : NodeTablesView). AreNodeTablesOf v past) (sym c.tables.view_is) h.tables in
    let x = c.in_ok-heard.ensures.heard past h.meaning tables.hearing h.recorded (c.as_slice.ensures.value ∙ c.keys-keys.ensures.past past tables.friends) in
    let i = insight_of c.in_ok-heard.heard in
    let untimed = ap (λ (a : Answer). is_ticked a) x.answer ∙ heard_untimed past c.args.octets.now i in
    let stands : StandsFor past c.args.p.now c.tables.inside.models c.ticks-now.result =
    record { meaning = h.meaning; models = tables.models; time = c.ticks-now.ensures.value ∙ tables.hearing.ticks } in
    let befriended : FriendsStandFor past c.args.p.now c.tables.inside.friends c.ticks-now.result =
    record { meaning = h.meaning; friends = tables.friends; time = stands.time } in
    let taken = c.take_heard-taken.ensures.taken past stands
    (c.as_slice-2.ensures.value ∙ c.polls-polls.ensures.value ∙ ap (λ (st : FriendsState). poll_timeouts st.slots) tables.friends) in
    record {
      sees = x.sees;
      answer = x.answer;
      records = c.heard_records-records.ensures.value node_layers past c.args.octets.now i (c.take_heard-taken.ensures.asked past stands);
      tables = λ e records event insight answer same elements. record {
        hearing = x.tables e insight answer same;
        models = c.take_heard-taken.ensures.models past e records stands untimed insight answer same elements;
        friends = c.hear_friends-left.ensures.friends past e c.args.octets.now befriended taken untimed event insight answer same;
      };
      basis = (
        c.held_phases-phases.ensures.value ∙ ap (λ (k : Config). phases_of k.nets) h.meaning.config,
        c.hear_friends-left.ensures.replies past befriended taken,
        subst (λ (k : Config). IsActIn past k i c.in_ok-heard.heard.answer c.hear_friends-left.result.act) h.meaning.config
            (c.hear_friends-left.ensures.act past befriended),
        c.hear_friends-left.ensures.sendable,
      );
    }

pub returns-clause-may : goal.returns-clause-may
returns-clause-may c =
    let (past, h) = c.requires.standing in
    let tables = subst (λ (v : NodeTablesView). AreNodeTablesOf v past) (sym c.tables.view_is) h.tables in
    let x = c.in_ok-heard.ensures.heard past h.meaning tables.hearing h.recorded (c.as_slice.ensures.value ∙ c.keys-keys.ensures.past past tables.friends) in
    let i = insight_of c.in_ok-heard.heard in
    let stands : StandsFor past c.args.p.now c.tables.inside.models c.ticks-now.result =
    record { meaning = h.meaning; models = tables.models; time = c.ticks-now.ensures.value ∙ tables.hearing.ticks } in
    c.heard_records-records.ensures.may c.args.p.now
    (place_of_answer past c.args.p.now c.args.octets.now i c.in_ok-heard.heard.answer h.meaning x.sees x.answer)
    (λ q e. c.take_heard-taken.ensures.may past q stands h.whole e)

pub returns-clause-moves : goal.returns-clause-moves
returns-clause-moves c =
    let (past, h) = c.requires.standing in
    let tables = subst (λ (v : NodeTablesView). AreNodeTablesOf v past) (sym c.tables.view_is) h.tables in
    let stands : StandsFor past c.args.p.now c.tables.inside.models c.ticks-now.result =
    record { meaning = h.meaning; models = tables.models; time = c.ticks-now.ensures.value ∙ tables.hearing.ticks } in
    c.heard_records-records.ensures.moves (config_in c.args.p.now) (c.take_heard-taken.ensures.moves past stands)
