-- What the fields of a line say.
use Rattle.std.specs.Prelude.{ℕ, ◌+◌, ◌*◌, ◌^◌, if◌then◌else◌, Bool, true, List, drop, codes, Option, Some, None}
use Rattle.std.specs.Option.{option_map}
use Rattle.std.specs.Str.{bytes_eq}
use Rattle.mesh_base.specs.IvState.{transmit_of}
use Rattle.mesh_base.specs.declared.iv_state.IvState.{IvState}
use Rattle.mesh_types.specs.declared.report.ReportLine.{ReportLine}
use Rattle.mesh_types.specs.declared.report.ReportLine.TheVariants as L
use Rattle.script_definitions.specs.Digits.{◌>>=◌, number_word}
use Rattle.script_definitions.specs.Words.{word_at}
use Rattle.report_reader.specs.Forms.{below_word}
use Rattle.report_reader.specs.Answers.{kind_word, answer_of}
use Rattle.report_reader.specs.Outcomes.{outcome_of}

-- K of `bK`
unfoldable pub bearer_word : List ℕ → Option ℕ
bearer_word word = below_word (2 ^ 8) (drop 1 word)

-- the next SEQ: six digits, and seven only where none is left
unfoldable pub next_word : List ℕ → Option ℕ
next_word word = if bytes_eq word (codes "1000000") then Some (2 ^ 24) else number_word 6 word

-- the IV state that a life opens with
abbrev pub opening_state : ℕ → Bool → IvState
opening_state current progress = record { current = current; progress = progress; hours = 0; since = 0 }

unfoldable pub opened : ℕ → List (List ℕ) → Option ReportLine
opened life ws =
    number_word 8 (word_at ws 2) >>= λ current.
    next_word (word_at ws 5) >>= λ next.
    Some
    (L.Opened life (opening_state current (bytes_eq (word_at ws 3) (codes "p")))
    (transmit_of (opening_state current (bytes_eq (word_at ws 3) (codes "p"))) * 2 ^ 25 + next))

unfoldable pub life : List (List ℕ) → Option ReportLine
life ws =
    below_word (2 ^ 32) (word_at ws 1) >>= λ number.
    if bytes_eq (word_at ws 2) (codes "wasreset") then Some (L.WasReset number)
    else if bytes_eq (word_at ws 2) (codes "cut") then Some (L.CutAtStart number)
    else opened number ws

unfoldable pub entry : List (List ℕ) → Option ReportLine
entry ws =
    below_word (2 ^ 32) (word_at ws 1) >>= λ at.
    bearer_word (word_at ws 2) >>= λ bearer.
    below_word (2 ^ 32) (word_at ws 3) >>= λ number.
    kind_word (word_at ws 4) >>= λ kind.
    answer_of ws >>= λ answer.
    Some (L.Entry at bearer number kind answer)

unfoldable pub sent : List (List ℕ) → Option ReportLine
sent ws =
    bearer_word (word_at ws 1) >>= λ bearer.
    below_word (2 ^ 32) (word_at ws 2) >>= λ entry.
    below_word (2 ^ 8) (word_at ws 3) >>= λ job.
    outcome_of ws >>= λ outcome.
    Some (L.Sent bearer entry job outcome true)

unfoldable pub line_of : List (List ℕ) → Option ReportLine
line_of ws =
    if bytes_eq (word_at ws 0) (codes "life") then life ws
    else if bytes_eq (word_at ws 0) (codes "e") then entry ws
    else if bytes_eq (word_at ws 0) (codes "s") then sent ws
    else if bytes_eq (word_at ws 0) (codes "end") then Some L.End
    else if bytes_eq (word_at ws 0) (codes "cut") then option_map L.Cut (below_word (2 ^ 32) (word_at ws 1))
    else None
