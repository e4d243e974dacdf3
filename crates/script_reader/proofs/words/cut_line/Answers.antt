use Rattle.std.proofs.Common.{◌==◌, ◌≡◌, length, false, All, arith, subst, take_all, List, ℕ}
use Rattle.std.proofs.lemmas.List.{take_rest}
use Rattle.script_reader.proofs.Cuts.{line_last, line_read, none_before}
use Rattle.script_reader.proofs.words.cut_line.Goals as goal

pub returns-in-Some-clause-value : goal.returns-in-Some-clause-value
returns-in-Some-clause-value c =
    let found = c.in-Some.ensures in
    rw (take_rest, c.without_cr.ensures.value)
    (line_read _ _ found.0.high found.1 (none_before 10 c.args.text.now c.in-Some.at (omega (arith, found.0.high)) found.0.before))

pub returns-in-None-clause-value : goal.returns-in-None-clause-value
returns-in-None-clause-value c =
    let xs = c.args.text.now in
    line_last _
    (subst (λ (ys : List ℕ). All (λ b. (b == 10) ≡ false) ys) (take_all (length xs) xs (omega arith)) (none_before 10 xs (length xs) (omega arith) c.in-None.ensures))
