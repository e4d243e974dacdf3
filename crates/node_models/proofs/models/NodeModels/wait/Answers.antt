use Rattle.std.proofs.Common.{ap, subst, sym, ◌∙◌}
use Rattle.model_states.specs.Publication.{Published, after_heartbeat, after_rows}
use Rattle.node_models.proofs.Published.{by_tick, none_by_tick}
use Rattle.node_models.specs.Models.{AreNodeModelsOf, ModelsView}
use Rattle.node_models.proofs.models.NodeModels.wait.Goals as goal

pub returns-clause-models : goal.returns-clause-models
returns-clause-models c = λ past t records are same ticked elements.
    let stands = subst (λ (v : ModelsView). AreNodeModelsOf v past) (sym c.self.view_is) are in
    record {
      servers = c.models_law.ensures.more c.self.inside.servers past t records stands.servers same (none_by_tick t c.args.now ticked) elements;
      published =
          c.wait.ensures.state
          ∙ ap (λ (p : Published). after_heartbeat (after_rows p c.args.now) c.args.now) stands.published
          ∙ by_tick c.step_law.ensures.publications past t records same c.args.now ticked;
    }
