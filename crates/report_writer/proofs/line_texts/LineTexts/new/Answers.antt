use Rattle.std.proofs.Common.{refl}
use Rattle.report_writer.specs.Texts.{IsCut, pieces}
use Rattle.report_writer.proofs.line_texts.LineTexts.new.Goals as goal

pub invariant_of-result : goal.invariant_of-result
unfolding IsCut
invariant_of-result c = rw (c.new-2.ensures.items, c.new.ensures.value) refl

pub returns : goal.returns
unfolding pieces
returns c = record { value = rw c.new-2.ensures.items refl }
