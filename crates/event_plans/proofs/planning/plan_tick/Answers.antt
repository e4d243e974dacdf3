use Rattle.std.proofs.Common.{[], cond, filter, ap, subst, sym, ◌≡◌, ◌≤◌, ◌∙◌, ◌+◌, ◌^◌, arith, min}
use Rattle.event_plans.proofs.Asked.{busy_is, time_told}
use Rattle.event_plans.specs.Memory.{AreNodeTablesOf, NodeTablesView}
use Rattle.layer_states.specs.Reassembly.{acks_due}
use Rattle.mesh_jobs.specs.Publishing.{IsDueSent}
use Rattle.mesh_types.specs.declared.answers.Answer.TheVariants as A
use Rattle.node_layers.specs.NodeLayers.{node_layers}
use Rattle.node_layers.specs.Reassembly.{messages}
use Rattle.node_layers.specs.Sending as own
use Rattle.event_definitions.specs.Answers.{config_before, later}
use Rattle.event_definitions.specs.History.{OfNothing, now_of}
use Rattle.segment_sender.specs.Held.{has_round}
use Rattle.store_definitions.specs.Config.{Config}
use Rattle.event_plans.proofs.planning.plan_tick.Goals as goal

pub returns-clause-planned : goal.returns-clause-planned
returns-clause-planned c past h =
    let tables = subst (λ (v : NodeTablesView). AreNodeTablesOf v past) (sym c.tables.view_is) h.tables in
    let x = c.pass-passed.ensures.passed past h.meaning tables.hearing in
    let from = c.ticks-from.ensures.value ∙ tables.hearing.ticks in
    let to = c.later-to.ensures.value ∙ ap (λ n. min (2 ^ 48) (n + c.args.ticks)) from in
    let told : c.pass-passed.result.answer ≡ cond (config_before past).reset A.Reset (A.Ticked c.later-to.result) =
    x.answer ∙ time_told past c.args.ticks OfNothing ∙ ap (λ n. cond (config_before past).reset A.Reset (A.Ticked n)) (sym to) in
    let rises : now_of past.told ≤ c.later-to.result = omega arith in
    record {
      sees = x.sees;
      answer = x.answer;
      records = c.tick_records-records.ensures.value node_layers past c.args.ticks OfNothing h.meaning.config from to
          (c.is_busy-busy.ensures.value ∙ busy_is past c.tables.inside.hearing tables.hearing);
      tables = λ e records event insight answer same elements. record {
        hearing = x.tables e insight answer;
        models = c.publish_due-due.ensures.models past e records tables.models told answer same elements;
        friends = c.publish_due-due.ensures.friends past e h.meaning tables.models tables.friends rises told insight answer same;
      };
      basis = (
        record { from = from; to = to; iv = ap (λ (c : Config). c.iv) h.meaning.config },
        record {
          due = λ reset d unicast. record {
            acks = x.acks ∙ ap (λ b. cond b [] (acks_due (later past c.args.ticks) (messages past))) reset;
            rounds = x.rounds ∙ ap (λ b. cond b [] (filter (has_round (later past c.args.ticks)) (own.messages past))) reset;
            published =
                subst (λ n. IsDueSent past d n c.publish_due-due.result) to
                (c.publish_due-due.ensures.due past d h.meaning tables.models tables.friends
                (told ∙ ap (λ b. cond b A.Reset (A.Ticked c.later-to.result)) reset) unicast);
          };
          held = c.pass-passed.ensures.held;
        },
      );
    }
