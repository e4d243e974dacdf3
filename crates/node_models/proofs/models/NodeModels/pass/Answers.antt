use Rattle.std.proofs.Common.{List, ap, length, subst, sym, ◌∙◌}
use Rattle.std.specs.Prelude.{All}
use Rattle.model_publish.specs.Own.{IsOwnRow}
use Rattle.model_states.specs.Publication.{Published, after_heartbeat, after_rows, is_row_due, rows_due}
use Rattle.node_models.proofs.Own.{all_due}
use Rattle.node_models.proofs.Published.{by_tick, none_by_tick}
use Rattle.node_models.specs.Models.{AreNodeModelsOf, AreWithin, ModelsView}
use Rattle.record_types.specs.declared.records.PublishRow.{PublishRow}
use Rattle.node_models.proofs.models.NodeModels.pass.Goals as goal

pub with_statuses-requires-clause-own : goal.with_statuses-requires-clause-own
with_statuses-requires-clause-own c =
    let first = c.args.p.now.unicast.0 in
    let within = subst (λ (v : ModelsView). AreWithin v c.args.p.now) (sym c.self.view_is) c.requires.within in
    let published = c.self.inside.publisher in
    let due = all_due first c.args.p.now.elements (is_row_due published.asked c.args.now) published.rows within.rows.own in
    let many = subst (λ n. All (IsOwnRow first n) (rows_due published c.args.now)) (sym within.elements) due in
    subst (λ (rows : List PublishRow). All (IsOwnRow first (length c.self.inside.servers)) rows)
    (sym (c.as_slice.ensures.value ∙ c.due-rows.ensures.value)) many

pub returns-clause-models : goal.returns-clause-models
returns-clause-models c = λ past t records are same ticked elements.
    let stands = subst (λ (v : ModelsView). AreNodeModelsOf v past) (sym c.self.view_is) are in
    record {
      servers = c.models_law.ensures.more c.self.inside.servers past t records stands.servers same (none_by_tick t c.args.now ticked) elements;
      published =
          c.heartbeat_due-heartbeat.ensures.state
          ∙ ap (λ (p : Published). after_heartbeat p c.args.now) c.due-rows.ensures.state
          ∙ ap (λ p. after_heartbeat (after_rows p c.args.now) c.args.now) stands.published
          ∙ by_tick c.step_law.ensures.publications past t records same c.args.now ticked;
    }
