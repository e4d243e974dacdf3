-- The kind of a line, by its first words, and how many words it has.
use Rattle.std.specs.Prelude.{ℕ, ◌+◌, ◌-◌, ◌==◌, ◌&&◌, nat_le, nat_lt, if◌then◌else◌, Bool, true, false, List, length, slice_index, codes, Option, Some, None, Result, Ok, Err}
use Rattle.std.specs.Option.{option_map}
use Rattle.std.specs.Str.{bytes_eq}
use Rattle.node_limits.specs.declared.TheConstants.{BEARERS}
use Rattle.script_definitions.specs.Words.{word_at}
use Rattle.script_definitions.specs.Lines.{provision_line, arm_line, heard_line, peer_line, talk_line, beacon_line, send_line, raw_line, tick_line, list_line}
use Rattle.script_definitions.specs.declared.kind.Grammar.{Grammar}
use Rattle.script_definitions.specs.declared.kind.Grammar.TheVariants as G
use Rattle.script_definitions.specs.declared.kind.EventKind.{EventKind}
use Rattle.script_definitions.specs.declared.kind.EventKind.TheVariants as E
use Rattle.script_definitions.specs.declared.kind.LineKind.{LineKind}
use Rattle.script_definitions.specs.declared.kind.LineKind.TheVariants as K
use Rattle.script_definitions.specs.declared.line.CountedLine.{CountedLine}
use Rattle.script_definitions.specs.declared.line.CountedLine.TheVariants as C
use Rattle.script_definitions.specs.declared.line.ScriptLine.{ScriptLine}
use Rattle.script_definitions.specs.declared.line.ScriptLine.TheVariants as L

-- how many bearers a grammar has
abbrev pub bearer_count : Grammar → ℕ
bearer_count G.Node = BEARERS
bearer_count G.LowPower = 1

-- K of a word `bK`: one digit, below the number of bearers
unfoldable pub bearer_word : Grammar → List ℕ → Option ℕ
bearer_word g word =
    if (length word == 2) && (slice_index word 0 == 98) && nat_le 48 (slice_index word 1)
    && nat_lt (slice_index word 1) (48 + bearer_count g)
    then Some (slice_index word 1 - 48)
    else None

-- what happens on a bearer, by the second word of its line
unfoldable pub event_word : List ℕ → Option EventKind
event_word word =
    if bytes_eq word (codes "net") then Some E.Net
    else if bytes_eq word (codes "bcn") then Some E.Bcn
    else if bytes_eq word (codes "peer") then Some E.Peer
    else if bytes_eq word (codes "talk") then Some E.Talk
    else if bytes_eq word (codes "beacon") then Some E.Beacon
    else if bytes_eq word (codes "send") then Some E.Send
    else if bytes_eq word (codes "raw") then Some E.Raw
    else if bytes_eq word (codes "tick") then Some E.Tick
    else if bytes_eq word (codes "seek") then Some E.Seek
    else if bytes_eq word (codes "poll") then Some E.Poll
    else if bytes_eq word (codes "list") then Some E.List
    else None

-- whether a grammar has such lines of a bearer
abbrev pub has_event : Grammar → EventKind → Bool
has_event G.Node E.Seek = false
has_event G.Node E.Poll = false
has_event G.Node E.List = false
has_event G.Node _ = true
has_event G.LowPower E.Net = true
has_event G.LowPower E.Peer = true
has_event G.LowPower E.Seek = true
has_event G.LowPower E.Poll = true
has_event G.LowPower E.List = true
has_event G.LowPower _ = false

-- the kind of a line of bearer K, by what happens there; a word that the grammar doesn't have is a fault by rule 3
abbrev pub happening : Grammar → ℕ → Option EventKind → Result LineKind ℕ
happening g bearer None = Err 3
happening g bearer (Some event) = if has_event g event then Ok (K.Bearer bearer event) else Err 3

-- the kind of a line that begins with the word of a bearer: no second word is a fault by rule 4, an unknown bearer one by rule 3
abbrev pub bearer_kind : Grammar → List (List ℕ) → Option ℕ → Result LineKind ℕ
bearer_kind g ws None = Err 3
bearer_kind g ws (Some bearer) = if nat_lt (length ws) 2 then Err 4 else happening g bearer (event_word (word_at ws 1))

-- `sync` is a line of a node's script alone
abbrev pub is_sync : Grammar → List ℕ → Bool
is_sync G.Node word = bytes_eq word (codes "sync")
is_sync G.LowPower word = false

-- the kind of a line, or the rule that fails
unfoldable pub line_kind : Grammar → List (List ℕ) → Result LineKind ℕ
line_kind g ws =
    if bytes_eq (word_at ws 0) (codes "provision") then Ok K.Provision
    else if bytes_eq (word_at ws 0) (codes "life") then Ok K.Life
    else if bytes_eq (word_at ws 0) (codes "arm") then Ok K.Arm
    else if is_sync g (word_at ws 0) then Ok K.Sync
    else bearer_kind g ws (bearer_word g (word_at ws 0))

-- how many words a line of a bearer has, and how many any line has
abbrev pub event_words : EventKind → ℕ
event_words E.Net = 3
event_words E.Bcn = 3
event_words E.Peer = 10
event_words E.Talk = 12
event_words E.Beacon = 5
event_words E.Send = 7
event_words E.Raw = 5
event_words E.Tick = 3
event_words E.Seek = 2
event_words E.Poll = 2
event_words E.List = 3

abbrev pub word_count : LineKind → ℕ
word_count K.Provision = 8
word_count K.Life = 1
word_count K.Sync = 1
word_count K.Arm = 3
word_count (K.Bearer bearer event) = event_words event

-- the line that the words of a kind stand for, where the node has so many elements; None where a word isn't of its form or range
abbrev pub event_line : ℕ → ℕ → EventKind → List (List ℕ) → Option ScriptLine
event_line elements bearer E.Net ws = option_map (L.Net bearer) (heard_line ws)
event_line elements bearer E.Bcn ws = option_map (L.Bcn bearer) (heard_line ws)
event_line elements bearer E.Peer ws = option_map (L.Peer bearer) (peer_line ws)
event_line elements bearer E.Talk ws = option_map (L.Talk bearer) (talk_line ws)
event_line elements bearer E.Beacon ws = option_map (L.Beacon bearer) (beacon_line ws)
event_line elements bearer E.Send ws = option_map (L.Send bearer) (send_line elements ws)
event_line elements bearer E.Raw ws = option_map (L.Raw bearer) (raw_line ws)
event_line elements bearer E.Tick ws = option_map (L.Tick bearer) (tick_line ws)
event_line elements bearer E.Seek ws = Some (L.Seek bearer)
event_line elements bearer E.Poll ws = Some (L.Poll bearer)
event_line elements bearer E.List ws = option_map (L.List bearer) (list_line ws)

abbrev pub fields_of : ℕ → LineKind → List (List ℕ) → Option CountedLine
fields_of elements K.Provision ws = option_map C.Provision (provision_line ws)
fields_of elements K.Life ws = Some C.Life
fields_of elements K.Sync ws = Some (C.Line L.Sync)
fields_of elements K.Arm ws = option_map (λ arm. C.Line (L.Arm arm)) (arm_line ws)
fields_of elements (K.Bearer bearer event) ws = option_map C.Line (event_line elements bearer event ws)
