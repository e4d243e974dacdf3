-- The lines of a text, one by one.
use Rattle.std.proofs.Common.{◌≡◌, ℕ, ◌+◌, ◌<◌, ◌≤◌, List, [], ◌∷◌, length, Option, Some, None, Ok, Err, IfSome, Bor, refl, sym, ap, ◌∙◌, arith}
use Rattle.std.specs.Option.{option_map_or}
use Rattle.script_definitions.specs.Reading.{Reading, read_on, line_read, lines_read}
use Rattle.script_definitions.specs.Reading.Reading.{IsScript, Fails}
use Rattle.script_definitions.specs.declared.kind.Grammar.{Grammar}
use Rattle.script_definitions.specs.declared.script.Script.{Script}

cons_read : (g : Grammar) (n : ℕ) (above : Option Script) (line : List ℕ) (more : List (List ℕ))
    → lines_read g n above (line ∷ more) ≡ read_on n (line_read g above line) (λ s. lines_read g (n + 1) s more)
unfolding lines_read
cons_read g n None line more = refl
cons_read g n (Some s) line more = refl

-- a line was read
pub step_ok : (g : Grammar) (n : ℕ) (above next : Option Script) (line : List ℕ) (more lines : List (List ℕ)) (said : Reading)
    → lines ≡ line ∷ more → line_read g above line ≡ Ok next → lines_read g n above lines ≡ said → lines_read g (n + 1) next more ≡ said
step_ok g n above next line more lines said e f h =
    ap (λ r. read_on n r (λ s. lines_read g (n + 1) s more)) (sym f) ∙ sym (cons_read g n above line more) ∙ ap (lines_read g n above) (sym e) ∙ h

-- a line fails
pub step_err : (g : Grammar) (n : ℕ) (above : Option Script) (rule : ℕ) (line : List ℕ) (more lines : List (List ℕ)) (said : Reading)
    → lines ≡ line ∷ more → line_read g above line ≡ Err rule → lines_read g n above lines ≡ said → said ≡ Fails (n + 1) rule
step_err g n above rule line more lines said e f h =
    sym h ∙ ap (lines_read g n above) e ∙ cons_read g n above line more ∙ ap (λ r. read_on n r (λ s. lines_read g (n + 1) s more)) f

-- no line is left
pub end_some : (g : Grammar) (n : ℕ) (s : Script) (said : Reading) → lines_read g n (Some s) [] ≡ said → said ≡ IsScript s
unfolding lines_read
end_some g n s said h = sym h

pub end_none : (g : Grammar) (n : ℕ) (said : Reading) → lines_read g n None [] ≡ said → said ≡ Fails n 2
unfolding lines_read
end_none g n said h = sym h

-- what is behind a line is shorter than the text
pub rest_shorter : (more : Option (Bor (List ℕ))) (n : ℕ) → IfSome more (λ t. length t.now < n) → option_map_or (λ t. length t.now + 1) more 0 ≤ n
rest_shorter None n h = omega arith
rest_shorter (Some t) n h = omega (arith, h)
