-- What was told of lives: some lines of the report of each, in whatever order.
use Rattle.std.specs.Prelude.{◌≡◌, ℕ, ◌≤◌, Bool, List, [], ◌∷◌, ◌++◌, length, ⊤, IsPermutation}
use Rattle.std.specs.List.{flat_map}
use Rattle.mesh_types.specs.declared.report.ReportLine.{ReportLine}
use Rattle.report_definitions.specs.Record.{LifeOver}
use Rattle.report_definitions.specs.Report.{life_lines, line_text}

-- some of these elements, each as often at most as it stands there, in any order: with others behind them they are all of them
abbrev pub AreSomeOf : {A : Type 0} → List A → List A → Type 0
AreSomeOf {A} xs ys = (others : List A) × IsPermutation (xs ++ others) ys

-- What is told of a life: the number that it is told with, whether the octets of network PDUs are shown, and the lines.
pub record Output : Type 0 where
  pub number : ℕ
  pub hex : Bool
  pub lines : List ReportLine

-- of each life some lines of its report
abbrev pub AreToldOf : List Output → List LifeOver → Type 0
AreToldOf [] [] = ⊤
AreToldOf (o ∷ os) (x ∷ xs) = AreSomeOf o.lines (life_lines o.hex o.number x.life) × AreToldOf os xs
AreToldOf _ _ = ⊥

-- all of them behind one another
abbrev pub lines_put : List Output → List ReportLine
lines_put outputs = flat_map (λ o. o.lines) outputs

abbrev pub text_put : List Output → List ℕ
text_put outputs = flat_map line_text (lines_put outputs)

-- Of what was told to a sink that failed, or by a process that was killed, the last line may be broken off.

-- octets at the front of the next of these lines, but not all of them
abbrev pub IsPieceOf : List ReportLine → List ℕ → Type 0
IsPieceOf [] piece = piece ≡ []
IsPieceOf (line ∷ rest) piece = (more : List ℕ) × (line_text line ≡ piece ++ more) × (1 ≤ length more)

-- These lines stand in the text whole, and behind them a piece of the next one.
pub record BrokenOff (lines : List ReportLine) (text : List ℕ) : Type 0 where
  pub whole : List ReportLine
  pub rest : List ReportLine
  pub are : lines ≡ whole ++ rest
  pub piece : List ℕ
  pub is : text ≡ flat_map line_text whole ++ piece
  pub broken : IsPieceOf rest piece
