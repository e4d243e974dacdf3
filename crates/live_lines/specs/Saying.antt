-- What a line says to a living node that has so many bearers and elements, and the phase of a line. The rules are those of a script
-- (`script_definitions`, `Reading`), each by its number there:
--
-- 1. the line has at most 1,200 octets, each of 20 to 7e;
-- 3. its first word is that of a bearer that the node has, and its second one says what happens there;
-- 4. the line has as many words as its kind has;
-- 5. each word is of its form and range.
--
-- Rules 2, 6 and 7 are of scripts alone: `provision`, `life`, `sync` and `arm` are no words here.
use Rattle.std.specs.Prelude.{◌≡◌, ℕ, ◌==◌, not, nat_lt, if◌then◌else◌, Bool, false, List, [], ◌∷◌, map, codes, Option, Some, None, Result, Ok, Err, ⊤}
use Rattle.std.specs.List.{range_with_len}
use Rattle.mesh_types.specs.declared.events.Event.{Event}
use Rattle.script_definitions.specs.Events.{events_on}
use Rattle.script_definitions.specs.Kinds.{bearer_word, event_word}
use Rattle.script_definitions.specs.Ranges.{IsLine}
use Rattle.script_definitions.specs.Reading.{has_form, is_counted, counted_line}
use Rattle.script_definitions.specs.Words.{words_of, word_at}
use Rattle.script_definitions.specs.declared.kind.EventKind.{EventKind}
use Rattle.script_definitions.specs.declared.kind.Grammar.TheVariants as G
use Rattle.script_definitions.specs.declared.line.CountedLine.{CountedLine}
use Rattle.script_definitions.specs.declared.line.CountedLine.TheVariants as C
use Rattle.script_definitions.specs.declared.line.ScriptLine.{ScriptLine}
use Rattle.live_lines.specs.declared.saying.Saying.{Saying}
use Rattle.live_lines.specs.declared.saying.Saying.TheVariants as S

-- a bearer that the node has
abbrev pub is_own : ℕ → Option ℕ → Bool
is_own bearers None = false
is_own bearers (Some k) = nat_lt k bearers

-- The word of the bearer may be left out where there is one bearer alone: the line then begins with what happens.
abbrev pub is_left_out : ℕ → Option EventKind → Bool
is_left_out bearers None = false
is_left_out bearers (Some event) = bearers == 1

abbrev pub full_words : ℕ → List (List ℕ) → List (List ℕ)
full_words bearers ws = if is_left_out bearers (event_word (word_at ws 0)) then codes "b0" ∷ ws else ws

-- The line that was read, or the rule that fails. A line that begins with the word of a bearer is one of a bearer, if any.
abbrev pub said : Result CountedLine ℕ → Saying
said (Ok (C.Line line)) = S.Happens line
said (Ok _) = S.Wrong 3
said (Err rule) = S.Wrong rule

abbrev pub words_say : ℕ → ℕ → List (List ℕ) → Saying
words_say bearers elements ws =
    if is_own bearers (bearer_word G.Node (word_at ws 0)) then said (counted_line G.Node elements ws) else S.Wrong 3

unfoldable pub line_says : ℕ → ℕ → List ℕ → Saying
line_says bearers elements line =
    if not (has_form line) then S.Wrong 1
    else if not (is_counted line) then S.Nothing
    else words_say bearers elements (full_words bearers (words_of line))

-- what holds of every line of a bearer that was read
abbrev pub IsSaid : ℕ → Saying → Type 0
IsSaid elements (S.Happens line) = IsLine G.Node elements line
IsSaid elements _ = ⊤

-- the phase of one line: the events of each bearer that it stands for
abbrev pub phase_of : ℕ → ScriptLine → List (List Event)
phase_of bearers line = map (λ k. events_on k (line ∷ [])) (range_with_len 0 bearers)

-- the phase of some line that was read
pub record IsPhaseOfLine (bearers elements : ℕ) (lists : List (List Event)) : Type 0 where
  pub line : ScriptLine
  pub said : IsLine G.Node elements line
  pub is : lists ≡ phase_of bearers line
