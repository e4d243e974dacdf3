use Rattle.std.proofs.Common.{◌≡◌, ◌↔◌, List, false, subst}
use Rattle.std.specs.List.{list_any}
use Rattle.model_publish.proofs.Still.{beat_where, rows_where}
use Rattle.model_publish.specs.Ends.{is_beat_due}
use Rattle.model_states.specs.Publication.{Published, is_row_due}
use Rattle.model_states.specs.declared.publication.Publication.{Publication}
use Rattle.timer_ends.proofs.Firsts.{all_of, through}
use Rattle.timer_ends.specs.Ends.{IsBefore}
use Rattle.model_publish.proofs.publisher.Publisher.first_end.Goals as goal

pub returns : goal.returns
returns c = record {
  still = λ now from time.
      let p = c.args.self.now in
      let Rows : Published → Type 0 = λ q. (list_any (is_row_due q.asked now) q.rows ≡ false) ↔ IsBefore now c.first_row.result in
      let Beat : Published → Type 0 = λ q. (is_beat_due now q.heartbeat ≡ false) ↔ IsBefore now c.beat_of.result in
      let Listed : List Publication → Type 0 = λ rows. (list_any (is_row_due c.self.inside.asked now) rows ≡ false) ↔ IsBefore now c.first_row.result in
      let rows : Rows p = subst Rows c.self.view_is (subst Listed c.as_slice.ensures.value (c.first_row.ensures now time)) in
      let beat : Beat p = subst Beat c.self.view_is (c.beat_of.ensures now time) in
      all_of (through (rows_where (is_row_due p.asked now) p.rows) rows) (through (beat_where p now) beat) (c.sooner.ensures.before now);
}
