-- A life more in a report.
use Rattle.std.proofs.Common.{◌≡◌, ◌+◌, ℕ, Bool, List, [], ◌∷◌, ◌++◌, length, sym, ap, ◌∙◌, append_assoc, append-nil, arith}
use Rattle.report_definitions.specs.Record.{LifeOver}
use Rattle.report_definitions.specs.Report.{life_lines, lives_lines}
use Rattle.report_writer.specs.Reporting.{Reports}
use Rattle.report_writer.specs.Writing.{SinkView, Written}
use Rattle.report_writer.proofs.Written.{written_more}

-- the lines of lives, and those of a life behind them
lines_more : (hex : Bool) (n : ℕ) (xs : List LifeOver) (x : LifeOver)
    → lives_lines hex n (xs ++ x ∷ []) ≡ lives_lines hex n xs ++ life_lines hex (n + length xs) x.life
unfolding lives_lines
lines_more hex n [] x = append-nil (life_lines hex n x.life) ∙ ap (λ k. life_lines hex k x.life) (let e : n ≡ n + 0 = omega arith in e)
lines_more hex n (y ∷ ys) x =
    ap (λ (t : List _). life_lines hex n y.life ++ t) (lines_more hex (n + 1) ys x)
    ∙ sym (append_assoc (life_lines hex n y.life) (lives_lines hex (n + 1) ys) (life_lines hex (n + 1 + length ys) x.life))
    ∙ ap (λ k. life_lines hex n y.life ++ lives_lines hex (n + 1) ys ++ life_lines hex k x.life) (let e : n + 1 + length ys ≡ n + length (y ∷ ys) = omega arith in e)

-- the lines of a life with this number, behind those of the lives before it
lines_with : (hex : Bool) (number : ℕ) (xs : List LifeOver) (x : LifeOver) → number ≡ length xs + 1
    → lives_lines hex 1 (xs ++ x ∷ []) ≡ lives_lines hex 1 xs ++ life_lines hex number x.life
lines_with hex number xs x is = lines_more hex 1 xs x ∙ ap (λ n. lives_lines hex 1 xs ++ life_lines hex n x.life) (let e : 1 + length xs ≡ number = omega (arith, is) in e)

pub reports_more : (hex : Bool) (number : ℕ) (lives : List LifeOver) (x : LifeOver) (before mid after : SinkView) → number ≡ length lives + 1
    → Reports hex lives before mid → Written (life_lines hex number x.life) mid after → Reports hex (lives ++ x ∷ []) before after
reports_more hex number lives x before mid after is h w =
    rw (lines_with hex number lives x is) (written_more (lives_lines hex 1 lives) (life_lines hex number x.life) before mid after h w)
