use Rattle.std.proofs.Common.{List, ap, ◌∙◌}
use Rattle.std.specs.Prelude.{length}
use Rattle.element_models.proofs.Lives.{as_many_as}
use Rattle.element_models.specs.declared.servers.Servers.{Servers}
use Rattle.element_models.proofs.models.ElementModels.elements.Goals as goal

pub returns-clause-elements : goal.returns-clause-elements
returns-clause-elements c =
    λ past are. c.len.ensures.value ∙ ap (λ (ss : List Servers). length ss) c.self.view_is ∙ as_many_as c.args.self.now past are
