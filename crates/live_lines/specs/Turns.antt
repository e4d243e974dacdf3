-- What a call of one move leaves, where octets of a line that isn't whole yet were used already.
use Rattle.std.specs.Prelude.{◌≡◌, ℕ, List, [], take, Option, Some, None, Result, IfErr, IfOk, ⊤}
use Rattle.mesh_base.specs.Outside.{Rose}
use Rattle.report_writer.specs.Handing.{HandedFront}
use Rattle.report_writer.specs.Writing.{SinkView}
use Rattle.script_definitions.specs.declared.line.ScriptLine.{ScriptLine}
use Rattle.live_lines.specs.Moves.{Does, HasNoLf, IsTold, LinesAt, Move}
use Rattle.live_lines.specs.Saying.{IsSaid}
use Rattle.live_lines.specs.Steps.{EndsAt, FailsBy, SaysEvent}
use Rattle.live_lines.specs.Texts.{wrong_text}
use Rattle.live_lines.specs.declared.lines.LineSource.{LineSource}
use Rattle.live_lines.specs.declared.lines.LineStop.{LineStop}
use Rattle.live_lines.specs.declared.lines.LineStop.TheVariants as L
use Rattle.live_lines.specs.declared.lines.Turn.{Turn}
use Rattle.live_lines.specs.declared.lines.Turn.TheVariants as T
use Rattle.live_lines.specs.declared.saying.Saying.{Saying}
use Rattle.live_lines.specs.declared.saying.Saying.TheVariants as S

-- a text wasn't told, or not all of it; these are the faults of the sink before and after
abbrev pub IsUntold : LineStop → List ℕ → SinkView → ℕ → SinkView → ℕ → Type 0
IsUntold L.Errors text old before new after = HandedFront text old new × Rose before after
IsUntold L.Memory text old before new after = (new ≡ old) × (after ≡ before)
IsUntold _ text old before new after = ⊥

-- what became of a line with this number that says this: it's passed over, or it's an event
abbrev pub IsTaken : Option ScriptLine → ℕ → List ℕ → Saying → SinkView → SinkView → Type 0
IsTaken None number line saying old new = IsTold number line saying old new
IsTaken (Some event) number line saying old new = (saying ≡ S.Happens event) × (new ≡ old)

-- it was lost
abbrev pub IsLost : LineStop → ℕ → List ℕ → Saying → SinkView → ℕ → SinkView → ℕ → Type 0
IsLost L.Errors number line saying old before new after =
    (rule : ℕ) × (saying ≡ S.Wrong rule) × HandedFront (wrong_text number rule line) old new × Rose before after
IsLost L.Memory number line saying old before new after = (new ≡ old) × (after ≡ before)
IsLost _ number line saying old before new after = ⊥

-- these octets of a line were used already, and this front of them is kept
abbrev pub IsFrontOf : List ℕ → List ℕ → Type 0
IsFrontOf front octets = HasNoLf octets × (front ≡ take 1202 octets)

-- an event that a turn came to is in range
abbrev pub IsTurnSaid : ℕ → Turn → Type 0
IsTurnSaid elements (T.Happens line) = IsSaid elements (S.Happens line)
IsTurnSaid elements _ = ⊤

-- the move that a turn was, from a state to the one in which octets of a line were used
abbrev pub IsTurn : ℕ → ℕ → Turn → List ℕ → LinesAt → (List ℕ → LinesAt) → Type 0
IsTurn bearers elements T.Moved front old new =
    (used : List ℕ) × IsFrontOf front used × ((move : Move) × Does bearers elements move old (new used))
IsTurn bearers elements (T.Happens line) front old new =
    SaysEvent bearers elements line old (new []) × IsSaid elements (S.Happens line) × (front ≡ [])
IsTurn bearers elements T.Ended front old new = EndsAt old (new [])

-- What a turn of the lines of a node leaves, whichever octets of a line were used already: the move that it was, or why it failed, behind any
-- number of moves. `at` says the state of lines behind such octets.
pub record IsTurnOf {S E : Type 0} (at : List ℕ → LineSource S E → LinesAt) (result : Result Turn LineStop) (front next : List ℕ)
    (old new : LineSource S E) : Type 0 where
  pub ok : (used : List ℕ) → IsFrontOf front used
      → IfOk result (λ t. IsTurn old.bearers old.elements t next (at used old) (λ now. at now new))
  pub stop : (used : List ℕ) (n : ℕ) → IsFrontOf front used
      → IfErr result (λ why. FailsBy old.bearers old.elements why n (at used old) (at [] new))
