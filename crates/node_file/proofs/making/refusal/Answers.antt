use denote.Enum.Bare.{same_false, same_true}
use Rattle.std.proofs.Common.{◌∙◌, rules, sym}
use Rattle.std.specs.contracts.io.ErrorKind.{the_type}
use Rattle.node_file.specs.Making.IsRefusal.{known, other}
use Rattle.node_file.proofs.making.refusal.Goals as goal

pub returns-then-eq : goal.returns-then-eq
returns-then-eq c = known (sym c.kind.ensures ∙ same_true the_type (search rules) _ _ (sym c.eq.ensures ∙ c.if-eq.true))

pub returns-else-eq : goal.returns-else-eq
returns-else-eq c = other (λ is. same_false the_type _ _ (sym c.eq.ensures ∙ c.if-eq.false) (c.kind.ensures ∙ is))
