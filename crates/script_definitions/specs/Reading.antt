-- What a text says: the script that it is, or its first failing line with the first rule that fails there. The rules, in their order:
--
-- 1. the line has at most 1,200 octets, each of 20 to 7e;
-- 2. the first counted line is `provision`; where no line counts, the last line fails, whose number is the count of LFs plus 1;
-- 3. the word of the line is known, and so is its bearer;
-- 4. the line has as many words as its kind has;
-- 5. each word is of its form and range;
-- 6. the line is in its place: no second `provision`, nothing but `life` before the first life, no second `arm` in a life;
-- 7. there are at most 64 lives, and at most 4,096 lines of bearers in a life.
--
-- A line counts if it isn't empty and doesn't begin with `#`. A line is read behind the script that the lines above it are, which is None
-- as long as none of them counts.
use Rattle.std.specs.Prelude.{ℕ, ◌+◌, ◌==◌, ◌&&◌, ◌||◌, not, nat_le, if◌then◌else◌, Bool, true, false, List, [], ◌∷◌, ◌++◌, length, count_by, codes, Option, Some, None, Result, Ok, Err}
use Rattle.std.specs.List.{list_all, list_any}
use Rattle.std.specs.Str.{bytes_eq}
use Rattle.node_limits.specs.declared.TheConstants.{LIVES, BEARER_LINES, LINE_OCTETS}
use Rattle.script_definitions.specs.Words.{begins_with, lines_of, words_of, word_at}
use Rattle.script_definitions.specs.Lives.{last_life, in_last_life}
use Rattle.script_definitions.specs.Kinds.{line_kind, word_count, fields_of}
use Rattle.script_definitions.specs.declared.kind.Grammar.{Grammar}
use Rattle.script_definitions.specs.declared.kind.LineKind.{LineKind}
use Rattle.script_definitions.specs.declared.line.CountedLine.{CountedLine}
use Rattle.script_definitions.specs.declared.line.CountedLine.TheVariants as C
use Rattle.script_definitions.specs.declared.line.ScriptLine.{ScriptLine}
use Rattle.script_definitions.specs.declared.line.ScriptLine.TheVariants as L
use Rattle.script_definitions.specs.declared.script.Script.{Script}

-- the second step, where no rule failed in the first
infixl 10 ◌>>>◌
abbrev pub ◌>>>◌ : {A B : Type 0} → Result A ℕ → (A → Result B ℕ) → Result B ℕ
(Ok x) >>> f = f x
(Err rule) >>> f = Err rule

-- rule 1
unfoldable pub has_form : List ℕ → Bool
has_form line = nat_le (length line) LINE_OCTETS && list_all (λ b. nat_le 32 b && nat_le b 126) line

-- neither an empty line nor a comment
unfoldable pub is_counted : List ℕ → Bool
is_counted line = nat_le 1 (length line) && not (begins_with 35 line)

-- rule 5
abbrev pub all_in_form : Option CountedLine → Result CountedLine ℕ
all_in_form None = Err 5
all_in_form (Some line) = Ok line

-- rules 4 and 5
unfoldable pub line_of_kind : ℕ → LineKind → List (List ℕ) → Result CountedLine ℕ
line_of_kind elements kind ws = if length ws == word_count kind then all_in_form (fields_of elements kind ws) else Err 4

-- rules 3 to 5: what the words of a line say, where the node has so many elements
unfoldable pub counted_line : Grammar → ℕ → List (List ℕ) → Result CountedLine ℕ
counted_line g elements ws = line_kind g ws >>> λ kind. line_of_kind elements kind ws

abbrev pub is_arm : ScriptLine → Bool
is_arm (L.Arm arm) = true
is_arm _ = false

-- every line of a life but `sync` and `arm` is one of a bearer
abbrev pub is_bearer_line : ScriptLine → Bool
is_bearer_line L.Sync = false
is_bearer_line (L.Arm arm) = false
is_bearer_line _ = true

-- rules 6 and 7 for a life
unfoldable pub with_life : Script → Result Script ℕ
with_life s =
    if length s.lives == LIVES then Err 7 else Ok (record { provision = s.provision; lives = s.lives ++ [] ∷ [] })

-- rules 6 and 7 for a line of a life
unfoldable pub with_line : Script → ScriptLine → Result Script ℕ
with_line s line =
    if (length s.lives == 0) || (is_arm line && list_any is_arm (last_life s.lives)) then Err 6
    else if is_bearer_line line && nat_le BEARER_LINES (count_by is_bearer_line (last_life s.lives)) then Err 7
    else Ok (record { provision = s.provision; lives = in_last_life s.lives line })

-- a counted line behind a script
abbrev pub with_counted : Script → CountedLine → Result Script ℕ
with_counted s (C.Provision provision) = Err 6
with_counted s C.Life = with_life s
with_counted s (C.Line line) = with_line s line

-- the script of the first counted line, which is `provision`
abbrev pub begun : CountedLine → Result Script ℕ
begun (C.Provision provision) = Ok (record { provision = provision; lives = [] })
begun _ = Err 2

-- the words of a counted line behind what the lines above it are
unfoldable pub words_read : Grammar → Option Script → List (List ℕ) → Result Script ℕ
words_read g None ws = if bytes_eq (word_at ws 0) (codes "provision") then counted_line g 0 ws >>> begun else Err 2
words_read g (Some s) ws = counted_line g s.provision.elements ws >>> with_counted s

-- a line behind what the lines above it are
unfoldable pub line_read : Grammar → Option Script → List ℕ → Result (Option Script) ℕ
line_read g above line =
    if not (has_form line) then Err 1
    else if not (is_counted line) then Ok above
    else words_read g above (words_of line) >>> λ s. Ok (Some s)

-- what a text says
pub data Reading : Type 0 where
  -- it is this script
  IsScript : Script → Reading
  -- this line, counted from 1, is the first one that fails, and it fails by this rule first
  Fails : ℕ → ℕ → Reading

-- what was read, or the line behind so many others and its rule
abbrev pub read_on : ℕ → Result (Option Script) ℕ → (Option Script → Reading) → Reading
read_on n (Ok above) f = f above
read_on n (Err rule) f = Fails (n + 1) rule

-- the lines behind n others
unfoldable pub lines_read : Grammar → ℕ → Option Script → List (List ℕ) → Reading
lines_read g n None [] = Fails n 2
lines_read g n (Some s) [] = IsScript s
lines_read g n above (line ∷ more) = read_on n (line_read g above line) (λ s. lines_read g (n + 1) s more)

-- the reading of a text
unfoldable pub reading : Grammar → List ℕ → Reading
reading g text = lines_read g 0 None (lines_of text)
