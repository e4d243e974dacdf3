use Rattle.std.proofs.Common.{◌↔◌, ◌∙◌, List, subst}
use Rattle.std.specs.Prelude.{All}
use Rattle.element_models.proofs.AsFar.{stay_where}
use Rattle.element_models.specs.Ends.{AreAsFar}
use Rattle.element_models.specs.declared.servers.Servers.{Servers}
use Rattle.timer_ends.proofs.Firsts.{through}
use Rattle.timer_ends.specs.Ends.{IsBefore}
use Rattle.element_models.proofs.models.ElementModels.first_end.Goals as goal

pub returns : goal.returns
returns c = record {
  still = λ past are later from time.
      let Ends : List Servers → Type 0 = λ ss. All (AreAsFar c.args.now later) ss ↔ IsBefore later c.first_of.result in
      through (stay_where c.args.self.now past c.args.now later are)
      (subst Ends (c.as_slice.ensures.value ∙ c.self.view_is) (c.first_of.ensures later from time));
}
