use Rattle.std.proofs.Common.{arith, take_all, ◌==◌}
use Rattle.std.proofs.lemmas.List.{take_rest}
use Rattle.std.proofs.lemmas.Bool.Decides.{nat_tests}
use Rattle.script_reader.proofs.Cuts.{no_more}
use Rattle.log_audit.proofs.Cuts.{line_first, line_last}
use Rattle.log_audit.proofs.input.cut_line.Goals as goal

pub returns-then-b-eq10-clause-value : goal.returns-then-b-eq10-clause-value
returns-then-b-eq10-clause-value c = rw take_rest (line_first _ _ c.loop-at-test.true c.if-b-eq10.true c.loop-at.invariant)

pub returns-clause-value : goal.returns-clause-value
returns-clause-value c = line_last _ c.requires (rw (take_all _ _ c.loop-at-test.false) at c.loop-at.invariant)

pub loop-at-preserved : goal.loop-at-preserved
loop-at-preserved c = no_more (λ b. b == 10) _ _ c.loop-at-test.true (grind (arith, nat_tests)) c.loop-at.invariant
