-- What a round of a source of phases comes to, and what it gives next, where octets of a line that isn't whole yet were used already.
use Rattle.std.specs.Prelude.{◌≡◌, ◌⊎◌, ℕ, Bool, true, List, [], Option, Some, None, Result, IfErr, IfOk, ⊤}
use Rattle.mesh_types.specs.declared.events.Event.{Event}
use Rattle.script_definitions.specs.declared.line.ScriptLine.{ScriptLine}
use Rattle.live_lines.specs.Moves.{LinesAt}
use Rattle.live_lines.specs.Saying.{IsSaid}
use Rattle.live_lines.specs.Steps.{Comes, Ends, EndsAt, FailsAt, GivesPhase, SaysEvent, TellsTime}
use Rattle.live_lines.specs.Turns.{IsFrontOf, IsTurn}
use Rattle.live_lines.specs.declared.lines.LineSource.{LineSource}
use Rattle.live_lines.specs.declared.lines.LineStop.{LineStop}
use Rattle.live_lines.specs.declared.lines.Turn.TheVariants as T
use Rattle.live_lines.specs.declared.line_phases.Round.{Round}
use Rattle.live_lines.specs.declared.line_phases.Round.TheVariants as R
use Rattle.live_lines.specs.declared.saying.Saying.TheVariants as S

-- these octets of the next line are used, of which this front is kept
abbrev pub Used : List ℕ → (List ℕ → Type 0) → Type 0
Used front holds = (used : List ℕ) × IsFrontOf front used × holds used

-- what a round came to is in range
abbrev pub IsRoundSaid : ℕ → Round → Type 0
IsRoundSaid elements (R.Comes line) = IsSaid elements (S.Happens line)
IsRoundSaid elements _ = ⊤

module _ (bearers elements : ℕ) (clocked : Bool) where
  -- the first line that is held says this, or so much time that the source told
  abbrev pub ComesNow : ScriptLine → LinesAt → LinesAt → Type 0
  ComesNow line old new = SaysEvent bearers elements line old new ⊎ ((clocked ≡ true) × TellsTime line old new)

  abbrev pub IsRound : Round → List ℕ → LinesAt → (List ℕ → LinesAt) → Type 0
  IsRound R.Moved front old new = IsTurn bearers elements T.Moved front old new
  IsRound (R.Comes line) front old new =
      Used front (λ used. ComesNow line old (new used)) × IsSaid elements (S.Happens line)
  IsRound R.Ended front old new = EndsAt old (new []) × (front ≡ [])

  -- the next line that came, or the end
  abbrev pub IsNextLine : Option ScriptLine → List ℕ → LinesAt → (List ℕ → LinesAt) → Type 0
  IsNextLine None front old new = Ends bearers elements old (new []) × (front ≡ [])
  IsNextLine (Some line) front old new =
      Used front (λ used. Comes bearers elements clocked line old (new used)) × IsSaid elements (S.Happens line)

  -- the next phase, or the end
  abbrev pub IsNextPhase : Option (List (List Event)) → List ℕ → LinesAt → (List ℕ → LinesAt) → Type 0
  IsNextPhase None front old new = Ends bearers elements old (new []) × (front ≡ [])
  IsNextPhase (Some lists) front old new = Used front (λ used. GivesPhase bearers elements clocked lists old (new used))

-- What a round leaves, whichever octets of a line were used already: what it came to, or why it failed, behind any number of moves. `at` says
-- the state of lines behind such octets.
pub record IsRoundOf {S E : Type 0} (at : List ℕ → LineSource S E → LinesAt) (clocked : Bool) (result : Result Round LineStop) (front next : List ℕ)
    (old new : LineSource S E) : Type 0 where
  pub ok : (used : List ℕ) → IsFrontOf front used
      → IfOk result (λ r. IsRound old.bearers old.elements clocked r next (at used old) (λ now. at now new))
  pub stop : (used : List ℕ) (n : ℕ) → IsFrontOf front used
      → IfErr result (λ why. FailsAt old.bearers old.elements clocked why n (at used old) (at [] new))
