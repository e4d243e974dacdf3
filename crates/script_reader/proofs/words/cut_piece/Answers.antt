use Rattle.std.proofs.Common.{◌==◌, ◌≡◌, length, false, All, arith, subst, take_all, List, ℕ}
use Rattle.std.proofs.lemmas.List.{take_rest}
use Rattle.script_reader.proofs.Cuts.{none_before, split_none, split_read}
use Rattle.script_reader.proofs.words.cut_piece.Goals as goal

pub returns-in-Some-clause-value : goal.returns-in-Some-clause-value
returns-in-Some-clause-value c =
    let found = c.in-Some.ensures in
    rw take_rest
    (split_read (λ b. b == 32) _ _ found.0.high found.1 (none_before 32 c.args.line.now c.in-Some.at (omega (arith, found.0.high)) found.0.before))

pub returns-in-None-clause-value : goal.returns-in-None-clause-value
returns-in-None-clause-value c =
    let xs = c.args.line.now in
    split_none (λ b. b == 32) _
    (subst (λ (ys : List ℕ). All (λ b. (b == 32) ≡ false) ys) (take_all (length xs) xs (omega arith)) (none_before 32 xs (length xs) (omega arith) c.in-None.ensures))
