-- The report of a run as a function of its record: the lines of each life, and the text of each line.
use Rattle.std.specs.Prelude.{ℕ, ◌+◌, ◌%◌, ◌^◌, ◌==◌, if◌then◌else◌, Bool, true, false, List, [], ◌∷◌, ◌++◌, codes}
use Rattle.std.specs.List.{flat_map}
use Rattle.std.specs.Fmt.{decimal}
use Rattle.mesh_base.specs.IvState.{transmit_of}
use Rattle.mesh_base.specs.declared.iv_state.IvState.{IvState}
use Rattle.mesh_base.specs.declared.iv_state.IvStep.{IvStep}
use Rattle.mesh_base.specs.declared.iv_state.IvStep.TheVariants as I
use Rattle.mesh_types.specs.Kind.{kind_of}
use Rattle.mesh_types.specs.declared.events.Kind.{Kind}
use Rattle.mesh_types.specs.declared.events.Kind.TheVariants as K
use Rattle.mesh_types.specs.declared.answers.Answer.{Answer}
use Rattle.mesh_types.specs.declared.answers.Answer.TheVariants as A
use Rattle.mesh_types.specs.declared.answers.KeyName.{KeyName}
use Rattle.mesh_types.specs.declared.answers.KeyName.TheVariants as N
use Rattle.mesh_types.specs.declared.answers.KeyStep.{KeyStep}
use Rattle.mesh_types.specs.declared.answers.KeyStep.TheVariants as S
use Rattle.mesh_types.specs.declared.history.Entry.{Entry}
use Rattle.mesh_types.specs.declared.history.Sent.{Sent}
use Rattle.mesh_types.specs.declared.low_power.LowPowerAnswer.{LowPowerAnswer}
use Rattle.mesh_types.specs.declared.low_power.LowPowerAnswer.TheVariants as P
use Rattle.mesh_types.specs.declared.lines.Outcome.{Outcome}
use Rattle.mesh_types.specs.declared.lines.Outcome.TheVariants as O
use Rattle.mesh_types.specs.declared.report.Opened.{Opened}
use Rattle.mesh_types.specs.declared.report.Opened.TheVariants as W
use Rattle.mesh_types.specs.declared.report.End.{End}
use Rattle.mesh_types.specs.declared.report.End.TheVariants as F
use Rattle.mesh_types.specs.declared.report.ReportLine.{ReportLine}
use Rattle.mesh_types.specs.declared.report.ReportLine.TheVariants as L
use Rattle.report_definitions.specs.Record.{Life, LifeOver, Run}
use Rattle.report_definitions.specs.Text.{hex_digits, word_text, octets_text, address_text, iv_text, pair_text, name_text, route_text}

-- The lines of a life.

-- the line of the opening of the life with number n
abbrev pub opened_line : ℕ → Opened → ReportLine
opened_line n (W.On state mark) = L.Opened n state mark
opened_line n W.WasReset = L.WasReset n
opened_line n W.CutAtStart = L.CutAtStart n

-- a line for each entry, of which the first has the place n in the history, counted from 1
abbrev pub entry_lines : ℕ → List Entry → List ReportLine
entry_lines n [] = []
entry_lines n (e ∷ es) = L.Entry n e.bearer e.number (kind_of e.event) e.answer ∷ entry_lines (n + 1) es

-- a line for each job done by bearer k, with the places of entry and job counted from 1
abbrev pub bearer_lines : Bool → ℕ → List Sent → List ReportLine
bearer_lines hex k [] = []
bearer_lines hex k (s ∷ ss) = L.Sent k (s.entry + 1) (s.job + 1) s.outcome hex ∷ bearer_lines hex k ss

-- the lines of the bearers, of which the first is bearer k
abbrev pub send_lines : Bool → ℕ → List (List Sent) → List ReportLine
send_lines hex k [] = []
send_lines hex k (ss ∷ more) = bearer_lines hex k ss ++ send_lines hex (k + 1) more

-- the line of the end, which a life that wasn't run lacks
abbrev pub end_lines : Opened → End → List ReportLine
end_lines W.WasReset _ = []
end_lines _ F.Ended = L.End ∷ []
end_lines _ (F.Cut calls) = L.Cut calls ∷ []

-- the lines of the life with number n
unfoldable pub life_lines : Bool → ℕ → Life → List ReportLine
life_lines hex n l =
    opened_line n l.opened ∷ entry_lines 1 l.entries ++ send_lines hex 0 l.sends ++ end_lines l.opened l.end

-- the lines of lives, of which the first has number n
unfoldable pub lives_lines : Bool → ℕ → List LifeOver → List ReportLine
lives_lines hex n [] = []
lives_lines hex n (x ∷ xs) = life_lines hex n x.life ++ lives_lines hex (n + 1) xs

-- The text of a line.

abbrev pub kind_text : Kind → List ℕ
kind_text K.Net = codes " net"
kind_text K.Bcn = codes " bcn"
kind_text K.Send = codes " send"
kind_text K.Raw = codes " raw"
kind_text K.Tick = codes " tick"
kind_text K.Begin = codes " begin"
kind_text K.Kept = codes " kept"
kind_text K.Seek = codes " seek"
kind_text K.Poll = codes " poll"
kind_text K.List = codes " list"

abbrev pub key_text : KeyName → List ℕ
key_text N.Dev = codes " dev"
key_text (N.App index) = codes " app:" ++ hex_digits 3 index

abbrev pub key_step_text : KeyStep → List ℕ
key_step_text S.Same = codes " same"
key_step_text S.Phase2 = codes " phase2"
key_step_text S.Phase0 = codes " phase0"

abbrev pub iv_step_text : IvStep → List ℕ
iv_step_text (I.Ignore rule) = codes " ignore " ++ decimal rule
iv_step_text (I.Begin to) = codes " begin"
iv_step_text (I.Finish to) = codes " finish"
iv_step_text (I.Recover to) = codes " recover"
iv_step_text I.Wait = codes " wait"

-- parameters of a control message, or a dash for none
abbrev pub params_text : List ℕ → List ℕ
params_text [] = codes " -"
params_text (x ∷ xs) = octets_text (x ∷ xs)

abbrev pub low_power_text : LowPowerAnswer → List ℕ
low_power_text P.Segmented = codes " segmented"
low_power_text P.Unasked = codes " unasked"
low_power_text P.Repeat = codes " repeat"
low_power_text P.Sought = codes " sought"
low_power_text P.Polled = codes " polled"
low_power_text P.NoFriend = codes " nofriend"
low_power_text P.Listed = codes " listed"
low_power_text (P.TooMany held) = codes " toomany " ++ decimal held

unfoldable pub answer_text : Answer → List ℕ
answer_text A.Unread = codes " unread"
answer_text A.BadAddress = codes " badaddress"
answer_text A.Own = codes " own"
answer_text A.Cached = codes " cached"
answer_text A.NotMine = codes " notmine"
answer_text A.Malformed = codes " malformed"
answer_text A.Again = codes " again"
answer_text (A.Replay kept) = codes " replay" ++ pair_text kept
answer_text (A.NoRoom held) = codes " noroom" ++ flat_map name_text held
answer_text A.Conflict = codes " conflict"
answer_text (A.Waiting missing) = codes " waiting " ++ decimal missing
answer_text A.NoKey = codes " nokey"
answer_text (A.ListFull held) = codes " listfull " ++ decimal held
answer_text (A.Delivered name dst key payload) =
    codes " delivered" ++ address_text name.src ++ address_text dst ++ pair_text name.pair ++ key_text key
    ++ octets_text payload
answer_text (A.Control name dst opcode params) =
    codes " control" ++ address_text name.src ++ address_text dst ++ pair_text name.pair
    ++ word_text (hex_digits 2 opcode) ++ params_text params
answer_text (A.Beacon index key iv) = codes " beacon " ++ hex_digits 3 index ++ key_step_text key ++ iv_step_text iv
answer_text A.Planned = codes " planned"
answer_text (A.NoAppKey index) = codes " noappkey " ++ hex_digits 3 index
answer_text (A.Ticked now) = codes " ticked " ++ decimal now
answer_text A.Begun = codes " begun"
answer_text (A.Moved iv) = codes " moved" ++ iv_text iv
answer_text A.Befriended = codes " befriended"
answer_text (A.SendFull held) = codes " sendfull " ++ decimal held
answer_text A.Kept = codes " kept"
answer_text A.Dropped = codes " dropped"
answer_text (A.LowPower answer) = low_power_text answer
answer_text A.Reset = codes " reset"

-- the octets of a network PDU, where they are to be shown
abbrev pub pdu_text : Bool → List ℕ → List ℕ
pdu_text true pdu = octets_text pdu
pdu_text false pdu = []

abbrev pub control_bit_text : Bool → List ℕ
control_bit_text true = codes " 1"
control_bit_text false = codes " 0"

unfoldable pub outcome_text : Bool → Outcome → List ℕ
outcome_text hex (O.Ctl pair ttl src dst tpdu pdu) =
    codes " ctl" ++ pair_text pair ++ route_text ttl src dst ++ octets_text tpdu ++ pdu_text hex pdu
outcome_text hex (O.Msg pair ttl src dst key payload pdu) =
    codes " msg" ++ pair_text pair ++ route_text ttl src dst ++ key_text key ++ octets_text payload ++ pdu_text hex pdu
outcome_text hex (O.Long pair ttl src dst key payload) =
    codes " long" ++ pair_text pair ++ route_text ttl src dst ++ key_text key ++ octets_text payload
outcome_text hex (O.Seg pair ttl src dst seg_o seg_n auth pdu) =
    codes " seg" ++ pair_text pair ++ route_text ttl src dst ++ word_text (decimal seg_o) ++ word_text (decimal seg_n)
    ++ word_text (hex_digits 6 auth) ++ pdu_text hex pdu
outcome_text hex (O.Relay pair ctl ttl src dst tpdu pdu) =
    codes " relay" ++ pair_text pair ++ control_bit_text ctl ++ route_text ttl src dst ++ octets_text tpdu
    ++ pdu_text hex pdu
outcome_text hex (O.Rep name pdu) = codes " rep" ++ address_text name.src ++ pair_text name.pair ++ pdu_text hex pdu
outcome_text hex (O.Bcn octets) = codes " bcn" ++ octets_text octets
outcome_text hex (O.Spent iv) = codes " spent" ++ iv_text iv
outcome_text hex (O.Late pair) = codes " late" ++ pair_text pair

-- the IV state: the known IV Index, n or p for the procedure, and the transmit IV Index
abbrev pub state_text : IvState → List ℕ
state_text s = iv_text s.current ++ (if s.progress then codes " p" else codes " n") ++ iv_text (transmit_of s)

-- the SEQ of a mark: six digits, and seven only where none is left under its IV Index
abbrev pub next_text : ℕ → List ℕ
next_text mark =
    word_text (if mark % 2 ^ 25 == 2 ^ 24 then hex_digits 7 (mark % 2 ^ 25) else hex_digits 6 (mark % 2 ^ 25))

-- the words of a line
unfoldable pub words_text : ReportLine → List ℕ
words_text (L.Opened life state mark) = codes "life " ++ decimal life ++ state_text state ++ next_text mark
words_text (L.WasReset life) = codes "life " ++ decimal life ++ codes " wasreset"
words_text (L.CutAtStart life) = codes "life " ++ decimal life ++ codes " cut"
words_text (L.Entry at bearer number kind answer) =
    codes "e " ++ decimal at ++ codes " b" ++ decimal bearer ++ word_text (decimal number) ++ kind_text kind
    ++ answer_text answer
words_text (L.Sent bearer entry job outcome hex) =
    codes "s b" ++ decimal bearer ++ word_text (decimal entry) ++ codes "." ++ decimal job ++ outcome_text hex outcome
words_text L.End = codes "end"
words_text (L.Cut calls) = codes "cut " ++ decimal calls

-- a line ends with LF
abbrev pub line_text : ReportLine → List ℕ
line_text line = words_text line ++ 10 ∷ []

-- the report of a run, with the octets of network PDUs or without
abbrev pub report_text : Run → Bool → List ℕ
report_text r hex = flat_map line_text (lives_lines hex 1 r.lives)
