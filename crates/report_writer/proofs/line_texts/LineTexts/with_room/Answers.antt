use Rattle.std.proofs.Common.{ap, subst, sym}
use Rattle.report_writer.specs.Texts.{IsCut, pieces}
use Rattle.report_writer.proofs.line_texts.LineTexts.with_room.Goals as goal

pub invariant_of-result : goal.invariant_of-result
unfolding IsCut
invariant_of-result c = subst (λ ls. IsCut ls c.in_ok-with_room.field-0) (sym c.new.ensures.items) c.in_ok-with_room.ensures.value

pub returns : goal.returns
unfolding pieces
returns c = record { value = ap (λ ls. pieces ls c.in_ok-with_room.field-0) c.new.ensures.items }
