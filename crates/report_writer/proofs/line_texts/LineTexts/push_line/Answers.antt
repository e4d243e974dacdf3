use Rattle.report_writer.proofs.Cutting.{closed_cut, closed_none, closed_pieces}
use Rattle.report_writer.proofs.line_texts.LineTexts.push_line.Goals as goal

pub invariant_of-self : goal.invariant_of-self
invariant_of-self c =
    closed_cut _ _ _ _ _ _ _ _ _ _ c.self.invariant c.len-from.ensures.value c.push_line-made.ensures.ok c.close_text.ensures.made c.close_text.ensures.text c.close_text.ensures.length c.close_text.ensures.none

pub returns-clause-ok : goal.returns-clause-ok
returns-clause-ok c =
    rw (← c.self.view_is) (closed_pieces _ _ _ _ _ _ _ _ _ _ c.self.invariant c.len-from.ensures.value c.push_line-made.ensures.ok c.close_text.ensures.made c.close_text.ensures.text c.close_text.ensures.length)

pub returns-clause-none : goal.returns-clause-none
returns-clause-none c = closed_none _ _ _ c.close_text.ensures.none
