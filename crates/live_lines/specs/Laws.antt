-- What lines that say an event are, and what moves come to, as one text: the octets that were held, and those that were read behind them, are the lines that were passed over, each
-- with its LF, and the octets that are held now.
use Rattle.std.specs.Prelude.{◌≡◌, ℕ, ◌<◌, List, [], ◌∷◌, ◌++◌, All, Some}
use Rattle.std.specs.Io.KnownBytes.{Consumes}
use Rattle.script_definitions.specs.Events.{Happening, happening_of}
use Rattle.script_definitions.specs.declared.line.ScriptLine.{ScriptLine}
use Rattle.live_lines.specs.Moves.{DoesAll, HasNoLf, LinesAt, Move}
use Rattle.live_lines.specs.Moves.Move.{passes, reads}
use Rattle.live_lines.specs.Saying.{line_says}
use Rattle.live_lines.specs.declared.saying.Saying.TheVariants as S

abbrev pub octets_read : List Move → List ℕ
octets_read [] = []
octets_read (reads octets ∷ moves) = octets ++ octets_read moves
octets_read (passes raw ∷ moves) = octets_read moves

abbrev pub lines_passed : List Move → List (List ℕ)
lines_passed [] = []
lines_passed (reads octets ∷ moves) = lines_passed moves
lines_passed (passes raw ∷ moves) = raw ∷ lines_passed moves

abbrev pub with_lf : List (List ℕ) → List ℕ
with_lf [] = []
with_lf (raw ∷ raws) = (raw ++ 10 ∷ []) ++ with_lf raws

pub record ComesTo (moves : List Move) (old new : LinesAt) : Type 0 where
  pub read : Consumes old.left new.left (octets_read moves)
  pub text : old.held ++ octets_read moves ≡ with_lf (lines_passed moves) ++ new.held
  pub whole : All HasNoLf (lines_passed moves)
  pub no_fault : (new.source_faults ≡ old.source_faults) × (new.sink_faults ≡ old.sink_faults)

abbrev pub MovesLaw : Type 0
MovesLaw = (bearers elements : ℕ) (moves : List Move) (old new : LinesAt) → DoesAll bearers elements moves old new → ComesTo moves old new

-- something happens on a bearer that the node has
pub record IsOwnEvent (bearers : ℕ) (line : ScriptLine) : Type 0 where
  pub happening : Happening
  pub is : happening_of line ≡ Some happening
  pub within : happening.bearer < bearers

abbrev pub EventLaw : Type 0
EventLaw = (bearers elements : ℕ) (octets : List ℕ) (line : ScriptLine) → line_says bearers elements octets ≡ S.Happens line → IsOwnEvent bearers line
