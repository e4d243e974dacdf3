use Rattle.std.proofs.Common.{◌≡◌, ◌↔◌, subst}
use Rattle.layer_states.specs.Reassembly.{after, tick}
use Rattle.layer_states.specs.Sending as sending
use Rattle.mesh_hearing.specs.Tables.{TablesView}
use Rattle.timer_ends.proofs.Firsts.{all_of}
use Rattle.timer_ends.specs.Ends.{IsBefore}
use Rattle.mesh_hearing.proofs.tables.Tables.first_end.Goals as goal

pub returns : goal.returns
returns c = record {
  still = λ now from time.
      let Parts : TablesView → Type 0 = λ v. (after v.parts (tick now) ≡ v.parts) ↔ IsBefore now c.first_end.result in
      let Own : TablesView → Type 0 = λ v. (sending.after v.own (sending.due now) ≡ v.own) ↔ IsBefore now c.first_end-2.result in
      all_of (subst Parts c.self.view_is (c.first_end.ensures.still now from time))
      (subst Own c.self.view_is (c.first_end-2.ensures.still now from time)) (c.sooner.ensures.before now);
}
