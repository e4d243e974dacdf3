use Rattle.std.proofs.Common.{◌∷◌, ◌∙◌, arith}
use Rattle.seq_word.proofs.Fronts.{prefix_trans}
use Rattle.node_bearer.proofs.drawing.draw_below.Goals as goal

pub loop-preserved : goal.loop-preserved
loop-preserved c =
    let before = c.loop.invariant in
    let lost = c.in-Err-Lost.ensures in
    let was = before.unchanged in
    record {
      unchanged = record {
        which = lost.err.which ∙ was.which;
        drawn = lost.err.drawn ∙ was.drawn;
        raised = lost.err.raised ∙ was.raised;
        noted = lost.err.noted ∙ was.noted;
        known = lost.err.known ∙ was.known;
        informed = lost.err.informed ∙ was.informed;
        parts = lost.err.parts ∙ was.parts;
      };
      looks = prefix_trans before.looks lost.looks;
      lost = ((c.in-Err-Lost.field-0-0, c.in-Err-Lost.field-0-1) ∷ before.lost.0, (c.loop.d, before.lost.1, lost.err, rw c.in-Err-Lost.field-0-is at lost.cause));
      paid = λ _. lost.owes;
    }

-- it was tried at least once
pub returns-clause-owes : goal.returns-clause-owes
returns-clause-owes c = c.loop.invariant.paid (omega (arith, c.loop-test.false))
