use Rattle.std.proofs.Common.{[], ◌++◌, Option, ap, subst, sym, ◌∙◌}
use Rattle.std.specs.Option.{option_map_or}
use Rattle.config_definitions.specs.declared.acts.ConfigAct.{ConfigAct}
use Rattle.element_models.specs.Messages.{message_in}
use Rattle.model_states.specs.Publication.{no_heartbeat}
use Rattle.node_layers.specs.Configuration.{config_act, ends_in}
use Rattle.node_layers.specs.Publishing.{published_by_act, published_by_message}
use Rattle.event_definitions.specs.History.{now_of}
use Rattle.store_definitions.specs.Config.{config_of}
use Rattle.node_models.proofs.Alike.{same_changes, same_ends, same_published}
use Rattle.node_models.proofs.Published.{by_message}
use Rattle.node_models.specs.Models.{AreNodeModelsOf, ModelsView}
use Rattle.node_models.specs.Acts.{change_in}
use Rattle.node_models.proofs.models.NodeModels.take.Goals as goal

pub returns-clause-changes : goal.returns-clause-changes
returns-clause-changes c = λ past means are time.
    let m = message_in c.args.m.now in
    let stands = subst (λ (v : ModelsView). AreNodeModelsOf v past) (sym c.self.view_is) are in
    c.of.ensures.changes
    ∙ ap (λ (act : Option ConfigAct). change_in act ++ c.take.result.records) c.config_act-act.ensures.value
    ∙ ap (λ d. change_in (config_act d c.args.polls.now c.heartbeat.result m) ++ c.take.result.records) means.config
    ∙ ap (λ items. items ++ c.take.result.records) (same_changes (config_of past.records) c.args.polls.now [] c.heartbeat.result no_heartbeat m)
    ∙ ap (λ items. change_in (config_act (config_of past.records) [] no_heartbeat m) ++ items)
    (c.take.ensures.records past means stands.servers time)

pub returns-clause-ends : goal.returns-clause-ends
returns-clause-ends c = λ past means.
    let m = message_in c.args.m.now in
    c.of.ensures.ends
    ∙ ap ends_in c.config_act-act.ensures.value
    ∙ ap (λ d. ends_in (config_act d c.args.polls.now c.heartbeat.result m)) means.config
    ∙ same_ends (config_of past.records) c.args.polls.now [] c.heartbeat.result no_heartbeat m

pub returns-clause-models : goal.returns-clause-models
returns-clause-models c = λ past t records means are time same delivers elements.
    let m = message_in c.args.m.now in
    let before = c.self.inside.publisher in
    let stands = subst (λ (v : ModelsView). AreNodeModelsOf v past) (sym c.self.view_is) are in
    record {
      servers = c.take.ensures.models past t records means stands.servers time same delivers elements;
      published =
          c.publish.ensures.state
          ∙ ap (λ (act : Option ConfigAct). option_map_or (published_by_act before c.args.now) act before) c.config_act-act.ensures.value
          ∙ ap (λ d. option_map_or (published_by_act before c.args.now) (config_act d c.args.polls.now c.heartbeat.result m) before) means.config
          ∙ same_published before c.args.now (config_of past.records) c.args.polls.now [] c.heartbeat.result no_heartbeat m
          ∙ ap (λ n. published_by_message before n (config_of past.records) m) time
          ∙ ap (λ p. published_by_message p (now_of past.told) (config_of past.records) m) stands.published
          ∙ by_message c.step_law.ensures.publications past t records same m delivers;
    }
