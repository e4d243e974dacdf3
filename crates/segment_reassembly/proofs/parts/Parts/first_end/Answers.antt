use Rattle.std.proofs.Common.{◌≡◌, ◌↔◌, ◌∙◌, List, false, subst}
use Rattle.std.specs.List.{list_any}
use Rattle.layer_states.specs.declared.reassembly.Assembly.{Assembly}
use Rattle.segment_reassembly.proofs.Still.{still_where}
use Rattle.segment_reassembly.specs.Ends.{is_ending}
use Rattle.timer_ends.proofs.Firsts.{through}
use Rattle.timer_ends.specs.Ends.{IsBefore}
use Rattle.segment_reassembly.proofs.parts.Parts.first_end.Goals as goal

pub returns : goal.returns
returns c = record {
  still = λ now from time.
      let Ends : List Assembly → Type 0 = λ rows. (list_any (is_ending now) rows ≡ false) ↔ IsBefore now c.first_of.result in
      through (still_where now c.args.self.now)
      (subst Ends (c.as_slice.ensures.value ∙ c.self.view_is) (c.first_of.ensures now time));
}
