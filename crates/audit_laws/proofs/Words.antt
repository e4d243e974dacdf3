-- What the words of a report line's text tell: whose its PDU is and under which pair, whatever else the line holds, and whether octets are
-- shown or not.
use Rattle.std.proofs.Common.{◌≡◌, ℕ, ◌||◌, Bool, true, false, if◌then◌else◌, List, [], ◌∷◌, ◌++◌, Option, Some, None, refl, sym, ap, ◌∙◌, codes}
use Rattle.std.proofs.lemmas.List.Splits.{slice_split-cons_yes}
use Rattle.std.specs.Fmt.{decimal}
use Rattle.std.specs.Option.{option_map}
use Rattle.std.specs.Str.{bytes_eq}
use Rattle.hex.specs.Hex.{encode_lower}
use Rattle.audit_definitions.specs.Seals.{accepted, message, own_source, sealed}
use Rattle.mesh_base.specs.declared.address.Address.{Address}
use Rattle.mesh_base.specs.declared.pair.Name.{Name}
use Rattle.mesh_types.specs.declared.answers.Answer.{Answer}
use Rattle.mesh_types.specs.declared.answers.Answer.TheVariants as A
use Rattle.mesh_types.specs.declared.events.Kind.{Kind}
use Rattle.mesh_types.specs.declared.lines.Outcome.{Outcome}
use Rattle.mesh_types.specs.declared.low_power.LowPowerAnswer.TheVariants as P
use Rattle.mesh_types.specs.declared.lines.Outcome.TheVariants as O
use Rattle.mesh_types.specs.declared.report.ReportLine.{ReportLine}
use Rattle.mesh_types.specs.declared.report.ReportLine.TheVariants as L
use Rattle.report_definitions.specs.Report.{line_text, next_text, outcome_text, pdu_text, state_text, words_text}
use Rattle.report_definitions.specs.Text.{hex_digits, word_text}
use Rattle.report_reader.proofs.AnswersBack.{adds_answer, adds_decimal, adds_digits, adds_kind, adds_key, adds_octets, adds_pair, answer_fields, kind_field, pair_fields}
use Rattle.report_reader.proofs.Back.{key_field}
use Rattle.report_reader.proofs.LinesBack.{adds_bearer, adds_job, begins}
use Rattle.report_reader.proofs.OutcomesBack.{adds_bit, adds_route, bit_field, route_fields}
use Rattle.report_reader.proofs.Parts.{Adds, adds_field, adds_joined, adds_none, field_first, is_whole, ◌⊕◌}
use Rattle.report_reader.specs.Forms.{fields_of, is_gap}
use Rattle.script_definitions.specs.Words.{word_at}

-- the digits of a source, and those of a name
abbrev pub source_digits : Address → List ℕ
source_digits a = hex_digits 4 a.0

pub record NameDigits : Type 0 where
  pub src : List ℕ
  pub iv : List ℕ
  pub seq : List ℕ

abbrev pub name_digits : Name → NameDigits
name_digits n = record { src = hex_digits 4 n.src.0; iv = hex_digits 8 n.pair.iv; seq = hex_digits 6 n.pair.seq }

-- what is told of a line, in digits
pub record Said : Type 0 where
  pub sealed : Option NameDigits
  pub own : Option (List ℕ)
  pub message : Option NameDigits
  pub accepted : Option NameDigits

abbrev pub said_of : ReportLine → Said
said_of x = record {
  sealed = option_map (λ s. name_digits s.name) (sealed x);
  own = option_map source_digits (own_source x);
  message = option_map (λ m. name_digits m.name) (message x);
  accepted = option_map name_digits (accepted x);
}

-- the same, as the words of a text tell it

abbrev said_nothing : Said
said_nothing = record { sealed = None; own = None; message = None; accepted = None }

abbrev name_from : List (List ℕ) → ℕ → ℕ → ℕ → NameDigits
name_from ws src iv seq = record { src = word_at ws src; iv = word_at ws iv; seq = word_at ws seq }

abbrev sent_said : List (List ℕ) → Said
sent_said ws =
    if bytes_eq (word_at ws 4) (codes "ctl") then record said_nothing { sealed = Some (name_from ws 8 5 6); own = Some (word_at ws 8) }
    else if bytes_eq (word_at ws 4) (codes "msg") then record said_nothing { sealed = Some (name_from ws 8 5 6); own = Some (word_at ws 8); message = Some (name_from ws 8 5 6) }
    else if bytes_eq (word_at ws 4) (codes "long") then record said_nothing { own = Some (word_at ws 8); message = Some (name_from ws 8 5 6) }
    else if bytes_eq (word_at ws 4) (codes "seg") then record said_nothing { sealed = Some (name_from ws 8 5 6); own = Some (word_at ws 8) }
    else if bytes_eq (word_at ws 4) (codes "relay") then record said_nothing { sealed = Some (name_from ws 9 5 6) }
    else said_nothing

abbrev entry_said : List (List ℕ) → Said
entry_said ws =
    if bytes_eq (word_at ws 5) (codes "delivered") || bytes_eq (word_at ws 5) (codes "control") then record said_nothing { accepted = Some (name_from ws 6 8 9) }
    else said_nothing

abbrev said : List (List ℕ) → Said
said ws =
    if bytes_eq (word_at ws 0) (codes "s") then sent_said ws
    else if bytes_eq (word_at ws 0) (codes "e") then entry_said ws
    else said_nothing

-- The words of the text of a result, with its octets or without.

abbrev pdu_fields : Bool → List ℕ → List (List ℕ)
pdu_fields true pdu = encode_lower pdu ∷ []
pdu_fields false pdu = []

adds_pdu : (hex : Bool) (pdu : List ℕ) → Adds (pdu_text hex pdu) (pdu_fields hex pdu)
adds_pdu true pdu = adds_octets pdu
adds_pdu false pdu = adds_none

abbrev result_fields : Bool → Outcome → List (List ℕ)
result_fields hex (O.Ctl pair ttl src dst tpdu pdu) = codes "ctl" ∷ pair_fields pair ++ route_fields ttl src dst ++ encode_lower tpdu ∷ pdu_fields hex pdu
result_fields hex (O.Msg pair ttl src dst key payload pdu) =
    codes "msg" ∷ pair_fields pair ++ route_fields ttl src dst ++ key_field key ∷ encode_lower payload ∷ pdu_fields hex pdu
result_fields hex (O.Long pair ttl src dst key payload) = codes "long" ∷ pair_fields pair ++ route_fields ttl src dst ++ key_field key ∷ encode_lower payload ∷ []
result_fields hex (O.Seg pair ttl src dst seg_o seg_n auth pdu) =
    codes "seg" ∷ pair_fields pair ++ route_fields ttl src dst ++ decimal seg_o ∷ decimal seg_n ∷ hex_digits 6 auth ∷ pdu_fields hex pdu
result_fields hex (O.Relay pair ctl ttl src dst tpdu pdu) =
    codes "relay" ∷ pair_fields pair ++ bit_field ctl ∷ route_fields ttl src dst ++ encode_lower tpdu ∷ pdu_fields hex pdu
result_fields hex (O.Rep name pdu) = codes "rep" ∷ hex_digits 4 name.src.0 ∷ pair_fields name.pair ++ pdu_fields hex pdu
result_fields hex (O.Bcn octets) = codes "bcn" ∷ encode_lower octets ∷ []
result_fields hex (O.Spent iv) = codes "spent" ∷ hex_digits 8 iv ∷ []
result_fields hex (O.Late pair) = codes "late" ∷ pair_fields pair

adds_result : (hex : Bool) (o : Outcome) → Adds (outcome_text hex o) (result_fields hex o)
unfolding outcome_text
adds_result hex (O.Ctl pair ttl src dst tpdu pdu) = adds_field 32 (codes "ctl") refl refl ⊕ adds_pair pair ⊕ adds_route ttl src dst ⊕ adds_octets tpdu ⊕ adds_pdu hex pdu
adds_result hex (O.Msg pair ttl src dst key payload pdu) =
    adds_field 32 (codes "msg") refl refl ⊕ adds_pair pair ⊕ adds_route ttl src dst ⊕ adds_key key ⊕ adds_octets payload ⊕ adds_pdu hex pdu
adds_result hex (O.Long pair ttl src dst key payload) = adds_field 32 (codes "long") refl refl ⊕ adds_pair pair ⊕ adds_route ttl src dst ⊕ adds_key key ⊕ adds_octets payload
adds_result hex (O.Seg pair ttl src dst seg_o seg_n auth pdu) =
    adds_field 32 (codes "seg") refl refl ⊕ adds_pair pair ⊕ adds_route ttl src dst ⊕ adds_decimal seg_o ⊕ adds_decimal seg_n ⊕ adds_digits 6 auth ⊕ adds_pdu hex pdu
adds_result hex (O.Relay pair ctl ttl src dst tpdu pdu) =
    adds_field 32 (codes "relay") refl refl ⊕ adds_pair pair ⊕ adds_bit ctl ⊕ adds_route ttl src dst ⊕ adds_octets tpdu ⊕ adds_pdu hex pdu
adds_result hex (O.Rep name pdu) = adds_field 32 (codes "rep") refl refl ⊕ adds_digits 4 name.src.0 ⊕ adds_pair name.pair ⊕ adds_pdu hex pdu
adds_result hex (O.Bcn octets) = adds_field 32 (codes "bcn") refl refl ⊕ adds_octets octets
adds_result hex (O.Spent iv) = adds_field 32 (codes "spent") refl refl ⊕ adds_digits 8 iv
adds_result hex (O.Late pair) = adds_field 32 (codes "late") refl refl ⊕ adds_pair pair

-- The words of a line.

-- a first word before anything
first_word : (w rest : List ℕ) → is_whole w ≡ true → fields_of (w ++ 32 ∷ rest) ≡ w ∷ fields_of rest
first_word w rest h = field_first w (32 ∷ rest) (fields_of rest) h (slice_split-cons_yes is_gap 32 rest refl)

abbrev sent_fields : ℕ → ℕ → ℕ → Outcome → Bool → List (List ℕ)
sent_fields bearer entry job outcome hex = codes "s" ∷ (98 ∷ decimal bearer) ∷ decimal entry ∷ decimal job ∷ result_fields hex outcome ++ [] ∷ []

sent_line : (bearer entry job : ℕ) (outcome : Outcome) (hex : Bool) → fields_of (line_text (L.Sent bearer entry job outcome hex)) ≡ sent_fields bearer entry job outcome hex
unfolding words_text
sent_line bearer entry job outcome hex =
    let front = adds_joined (codes " b" ++ decimal bearer ++ word_text (decimal entry)) (codes ".") (decimal job) _ (adds_bearer bearer ⊕ adds_decimal entry ⊕ adds_job job) in
    begins (codes "s") _ _ refl (front ⊕ adds_result hex outcome)

abbrev entry_fields : ℕ → ℕ → ℕ → Kind → Answer → List (List ℕ)
entry_fields at bearer number kind answer = codes "e" ∷ decimal at ∷ (98 ∷ decimal bearer) ∷ decimal number ∷ kind_field kind ∷ answer_fields answer ++ [] ∷ []

entry_line : (at bearer number : ℕ) (kind : Kind) (answer : Answer) → fields_of (line_text (L.Entry at bearer number kind answer)) ≡ entry_fields at bearer number kind answer
unfolding words_text
entry_line at bearer number kind answer =
    let front = adds_joined (word_text (decimal at)) (codes " b") (decimal bearer) _ (adds_decimal at ⊕ adds_bearer bearer) in
    begins (codes "e") _ _ refl (front ⊕ adds_decimal number ⊕ adds_kind kind ⊕ adds_answer answer)

-- What they tell.

sent_told : (bearer entry job : ℕ) (outcome : Outcome) (hex : Bool) → said (sent_fields bearer entry job outcome hex) ≡ said_of (L.Sent bearer entry job outcome hex)
sent_told bearer entry job (O.Ctl pair ttl src dst tpdu pdu) hex = refl
sent_told bearer entry job (O.Msg pair ttl src dst key payload pdu) hex = refl
sent_told bearer entry job (O.Long pair ttl src dst key payload) hex = refl
sent_told bearer entry job (O.Seg pair ttl src dst seg_o seg_n auth pdu) hex = refl
sent_told bearer entry job (O.Relay pair ctl ttl src dst tpdu pdu) hex = refl
sent_told bearer entry job (O.Rep name pdu) hex = refl
sent_told bearer entry job (O.Bcn octets) hex = refl
sent_told bearer entry job (O.Spent iv) hex = refl
sent_told bearer entry job (O.Late pair) hex = refl

entry_told : (at bearer number : ℕ) (kind : Kind) (answer : Answer) → said (entry_fields at bearer number kind answer) ≡ said_of (L.Entry at bearer number kind answer)
entry_told at bearer number kind (A.Delivered name dst key payload) = refl
entry_told at bearer number kind (A.Control name dst opcode params) = refl
entry_told at bearer number kind (A.NoRoom held) = refl
entry_told at bearer number kind (A.Replay kept) = refl
entry_told at bearer number kind (A.Beacon index key iv) = refl
entry_told at bearer number kind (A.LowPower (P.TooMany held)) = refl
entry_told at bearer number kind (A.LowPower _) = refl
entry_told at bearer number kind _ = refl

pub line_told : (x : ReportLine) → said (fields_of (line_text x)) ≡ said_of x
unfolding words_text
line_told (L.Opened life state mark) = ap said (first_word (codes "life") (decimal life ++ state_text state ++ next_text mark ++ 10 ∷ []) refl)
line_told (L.WasReset life) = ap said (first_word (codes "life") (decimal life ++ codes " wasreset" ++ 10 ∷ []) refl)
line_told (L.CutAtStart life) = ap said (first_word (codes "life") (decimal life ++ codes " cut" ++ 10 ∷ []) refl)
line_told (L.Entry at bearer number kind answer) = ap said (entry_line at bearer number kind answer) ∙ entry_told at bearer number kind answer
line_told (L.Sent bearer entry job outcome hex) = ap said (sent_line bearer entry job outcome hex) ∙ sent_told bearer entry job outcome hex
line_told L.End = refl
line_told (L.Cut calls) = ap said (first_word (codes "cut") (decimal calls ++ 10 ∷ []) refl)

-- so lines with one text tell the same
pub same_told : (x y : ReportLine) → line_text x ≡ line_text y → said_of x ≡ said_of y
same_told x y e = sym (line_told x) ∙ ap (λ t. said (fields_of t)) e ∙ line_told y
