-- The phases of a source for a node that was opened.
use Rattle.std.specs.Prelude.{◌≡◌, ℕ, [], None}
use Rattle.live_lines.specs.declared.line_phases.LinePhases.{LinePhases}

-- nothing was read yet, and it didn't fail
pub record IsBegun {S E : Type 0} (phases : LinePhases S E) (bearers elements : ℕ) : Type 0 where
  pub front : phases.front ≡ []
  pub held : phases.lines.held ≡ []
  pub number : phases.lines.number ≡ 0
  pub why : phases.lines.why ≡ None
  pub bearers_are : phases.lines.bearers ≡ bearers
  pub elements_are : phases.lines.elements ≡ elements
