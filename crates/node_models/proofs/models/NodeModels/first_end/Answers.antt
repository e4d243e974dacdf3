use Rattle.std.proofs.Common.{◌≡◌, ◌↔◌, [], None, subst, sym, arith}
use Rattle.model_states.specs.Publication.{Published, heartbeat_due, rows_due}
use Rattle.node_models.specs.Models.{AreNodeModelsOf, ModelsView}
use Rattle.timer_ends.proofs.Firsts.{all_of}
use Rattle.timer_ends.specs.Ends.{IsBefore}
use Rattle.node_models.proofs.models.NodeModels.first_end.Goals as goal

pub returns : goal.returns
returns c = record {
  still = λ past are later from time.
      let stands = subst (λ (v : ModelsView). AreNodeModelsOf v past) (sym c.self.view_is) are in
      let Quiet : Published → Type 0 =
      λ p. ((rows_due p later ≡ []) × (heartbeat_due p later ≡ None)) ↔ IsBefore later c.first_end.result in
      let published = subst Quiet stands.published (c.first_end.ensures.still later (omega arith) time) in
      let both = all_of published (c.first_end-2.ensures.still past stands.servers later from time) (c.sooner.ensures.before later) in
      (λ h. both.0 ((h.rows, h.heartbeat), h.changes), λ w. let parts = both.1 w in record { rows = parts.0.0; heartbeat = parts.0.1; changes = parts.1 });
}
