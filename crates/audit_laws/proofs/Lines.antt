-- A report cut into lines: the lines of its keys, and then the texts of its report lines.
use Rattle.std.proofs.Common.{◌≡◌, ℕ, zero, suc, ◌==◌, Bool, true, false, if◌then◌else◌, List, [], ◌∷◌, ◌++◌, map, length, refl, sym, ap, subst, ◌∙◌, append_assoc, arith, codes, slice_index}
use Rattle.std.proofs.lemmas.Bool.Decides.{nat_tests}
use Rattle.std.proofs.lemmas.List.Splits.{slice_split-cons_yes, slice_split-cons_no, join_with_byte-slice_split}
use Rattle.std.specs.Fmt.{decimal}
use Rattle.std.specs.List.{AllByRecursion as Every, flat_map, join_with_byte, onto_first, slice_split}
use Rattle.hex.specs.Hex.{encode_lower}
use Rattle.audit_definitions.proofs.OneInput.{not_key}
use Rattle.audit_definitions.specs.Input.{AreLines, AreReportLines, IsInput, IsKeyLine, lines_of, with_lf}
use Rattle.mesh_base.specs.IvState.{transmit_of}
use Rattle.mesh_base.specs.declared.address.Address.{Address}
use Rattle.mesh_base.specs.declared.iv_state.IvState.{IvState}
use Rattle.mesh_base.specs.declared.iv_state.IvStep.{IvStep}
use Rattle.mesh_base.specs.declared.iv_state.IvStep.TheVariants as I
use Rattle.mesh_base.specs.declared.pair.Name.{Name}
use Rattle.mesh_base.specs.declared.pair.Pair.{Pair}
use Rattle.mesh_types.specs.declared.answers.Answer.{Answer}
use Rattle.mesh_types.specs.declared.answers.Answer.TheVariants as A
use Rattle.mesh_types.specs.declared.answers.KeyName.{KeyName}
use Rattle.mesh_types.specs.declared.answers.KeyName.TheVariants as N
use Rattle.mesh_types.specs.declared.answers.KeyStep.{KeyStep}
use Rattle.mesh_types.specs.declared.answers.KeyStep.TheVariants as S
use Rattle.mesh_types.specs.declared.events.Kind.{Kind}
use Rattle.mesh_types.specs.declared.events.Kind.TheVariants as K
use Rattle.mesh_types.specs.declared.lines.Outcome.{Outcome}
use Rattle.mesh_types.specs.declared.lines.Outcome.TheVariants as O
use Rattle.mesh_types.specs.declared.low_power.LowPowerAnswer.{LowPowerAnswer}
use Rattle.mesh_types.specs.declared.low_power.LowPowerAnswer.TheVariants as P
use Rattle.mesh_types.specs.declared.report.ReportLine.{ReportLine}
use Rattle.mesh_types.specs.declared.report.ReportLine.TheVariants as L
use Rattle.report_definitions.specs.Record.{Run}
use Rattle.report_definitions.specs.Report.{answer_text, control_bit_text, iv_step_text, key_step_text, key_text, kind_text, line_text, lives_lines, low_power_text, outcome_text, params_text, pdu_text, report_text, state_text, words_text}
use Rattle.report_definitions.specs.Text.{hex_digits, name_text, octets_text, pair_text, route_text, word_text}
use Rattle.report_reader.proofs.Parts.{is_whole, whole_decimal, whole_digits, whole_octets}
use Rattle.report_reader.specs.Forms.{is_gap}
use Rattle.script_definitions.specs.declared.line.ScriptNet.{ScriptNet}

-- No LF in a text.

abbrev is_flat : List ℕ → Bool
is_flat [] = true
is_flat (b ∷ bs) = if b == 10 then false else is_flat bs

record Flat (x : List ℕ) : Type 0 where
  flat : is_flat x ≡ true

flat_append : (x y : List ℕ) → is_flat x ≡ true → is_flat y ≡ true → is_flat (x ++ y) ≡ true
flat_append [] y h k = k
flat_append (b ∷ bs) y h k = flat_more (b == 10) (is_flat bs) (is_flat (bs ++ y)) h (λ e. flat_append bs y e k)
  where
    flat_more : (t v w : Bool) → (if t then false else v) ≡ true → (v ≡ true → w ≡ true) → (if t then false else w) ≡ true
    flat_more true v w e f = absurd cc
    flat_more false v w e f = f e

infixl 10 ◌⊕◌
◌⊕◌ : {x y : List ℕ} → Flat x → Flat y → Flat (x ++ y)
◌⊕◌ {x} {y} a b = record { flat = flat_append x y a.flat b.flat }

whole_flat : (x : List ℕ) → is_whole x ≡ true → is_flat x ≡ true
whole_flat [] h = refl
whole_flat (b ∷ bs) h = whole_more b (b == 10) (is_gap b) (is_whole bs) (is_flat bs) refl refl h (whole_flat bs)
  where
    no_gap : (c : ℕ) → (c == 10) ≡ true → is_gap c ≡ false → ⊥
    no_gap c e f = grind (arith, nat_tests, e, f)

    whole_more : (c : ℕ) (t g v w : Bool) → (c == 10) ≡ t → is_gap c ≡ g → (if g then false else v) ≡ true → (v ≡ true → w ≡ true) → (if t then false else w) ≡ true
    whole_more c true true v w e f k m = absurd cc
    whole_more c false true v w e f k m = absurd cc
    whole_more c true false v w e f k m = absurd (no_gap c e f)
    whole_more c false false v w e f k m = m k

flat_whole : (x : List ℕ) → is_whole x ≡ true → Flat x
flat_whole x h = record { flat = whole_flat x h }

-- a word, with its space or another octet before it
flat_with : (g : ℕ) (w : List ℕ) → (g == 10) ≡ false → is_whole w ≡ true → Flat (g ∷ w)
flat_with g w e h = record { flat = rw e (whole_flat w h) }

-- The texts of a line.

flat_digits : (k n : ℕ) → Flat (word_text (hex_digits k n))
flat_digits k n = flat_with 32 (hex_digits k n) refl (whole_digits k n)

flat_decimal : (n : ℕ) → Flat (decimal n)
flat_decimal n = flat_whole (decimal n) (whole_decimal n)

flat_octets : (xs : List ℕ) → Flat (octets_text xs)
flat_octets xs = flat_with 32 (encode_lower xs) refl (whole_octets xs)

flat_word : (n : ℕ) → Flat (word_text (decimal n))
flat_word n = flat_with 32 (decimal n) refl (whole_decimal n)

flat_pair : (p : Pair) → Flat (pair_text p)
flat_pair p = flat_digits 8 p.iv ⊕ flat_digits 6 p.seq

flat_name : (n : Name) → Flat (name_text n)
flat_name n = flat_digits 4 n.src.0 ⊕ flat_with 47 (hex_digits 8 n.pair.iv) refl (whole_digits 8 n.pair.iv) ⊕ flat_with 47 (hex_digits 6 n.pair.seq) refl (whole_digits 6 n.pair.seq)

flat_names : (ns : List Name) → Flat (flat_map name_text ns)
flat_names [] = record { flat = refl }
flat_names (n ∷ ns) = flat_name n ⊕ flat_names ns

flat_route : (ttl : ℕ) (src dst : Address) → Flat (route_text ttl src dst)
flat_route ttl src dst = flat_digits 2 ttl ⊕ flat_digits 4 src.0 ⊕ flat_digits 4 dst.0

flat_key : (key : KeyName) → Flat (key_text key)
flat_key N.Dev = record { flat = refl }
flat_key (N.App index) = flat_with 32 (codes "app:" ++ hex_digits 3 index) refl (whole_digits 3 index)

flat_kind : (k : Kind) → Flat (kind_text k)
flat_kind K.Net = record { flat = refl }
flat_kind K.Bcn = record { flat = refl }
flat_kind K.Send = record { flat = refl }
flat_kind K.Raw = record { flat = refl }
flat_kind K.Tick = record { flat = refl }
flat_kind K.Begin = record { flat = refl }
flat_kind K.Kept = record { flat = refl }
flat_kind K.Seek = record { flat = refl }
flat_kind K.Poll = record { flat = refl }
flat_kind K.List = record { flat = refl }

flat_key_step : (s : KeyStep) → Flat (key_step_text s)
flat_key_step S.Same = record { flat = refl }
flat_key_step S.Phase2 = record { flat = refl }
flat_key_step S.Phase0 = record { flat = refl }

-- a constant text
plain : (x : List ℕ) → is_flat x ≡ true → Flat x
plain x h = record { flat = h }

flat_iv_step : (s : IvStep) → Flat (iv_step_text s)
flat_iv_step (I.Ignore rule) = plain (codes " ignore ") refl ⊕ flat_decimal rule
flat_iv_step _ = record { flat = refl }

flat_params : (xs : List ℕ) → Flat (params_text xs)
flat_params [] = record { flat = refl }
flat_params (x ∷ xs) = flat_octets (x ∷ xs)

flat_low_power : (a : LowPowerAnswer) → Flat (low_power_text a)
flat_low_power (P.TooMany held) = plain (codes " toomany ") refl ⊕ flat_decimal held
flat_low_power _ = record { flat = refl }

flat_answer : (a : Answer) → Flat (answer_text a)
unfolding answer_text
flat_answer (A.Replay kept) = plain (codes " replay") refl ⊕ flat_pair kept
flat_answer (A.NoRoom held) = plain (codes " noroom") refl ⊕ flat_names held
flat_answer (A.Waiting missing) = plain (codes " waiting ") refl ⊕ flat_decimal missing
flat_answer (A.ListFull held) = plain (codes " listfull ") refl ⊕ flat_decimal held
flat_answer (A.Delivered name dst key payload) =
    plain (codes " delivered") refl ⊕ flat_digits 4 name.src.0 ⊕ flat_digits 4 dst.0 ⊕ flat_pair name.pair ⊕ flat_key key ⊕ flat_octets payload
flat_answer (A.Control name dst opcode params) =
    plain (codes " control") refl ⊕ flat_digits 4 name.src.0 ⊕ flat_digits 4 dst.0 ⊕ flat_pair name.pair ⊕ flat_digits 2 opcode ⊕ flat_params params
flat_answer (A.Beacon index key iv) = plain (codes " beacon ") refl ⊕ flat_whole (hex_digits 3 index) (whole_digits 3 index) ⊕ flat_key_step key ⊕ flat_iv_step iv
flat_answer (A.NoAppKey index) = plain (codes " noappkey ") refl ⊕ flat_whole (hex_digits 3 index) (whole_digits 3 index)
flat_answer (A.Ticked now) = plain (codes " ticked ") refl ⊕ flat_decimal now
flat_answer (A.Moved iv) = plain (codes " moved") refl ⊕ flat_digits 8 iv
flat_answer (A.SendFull held) = plain (codes " sendfull ") refl ⊕ flat_decimal held
flat_answer (A.LowPower answer) = flat_low_power answer
flat_answer _ = record { flat = refl }

flat_pdu : (hex : Bool) (pdu : List ℕ) → Flat (pdu_text hex pdu)
flat_pdu true pdu = flat_octets pdu
flat_pdu false pdu = record { flat = refl }

flat_bit : (b : Bool) → Flat (control_bit_text b)
flat_bit true = record { flat = refl }
flat_bit false = record { flat = refl }

flat_outcome : (hex : Bool) (o : Outcome) → Flat (outcome_text hex o)
unfolding outcome_text
flat_outcome hex (O.Ctl pair ttl src dst tpdu pdu) = plain (codes " ctl") refl ⊕ flat_pair pair ⊕ flat_route ttl src dst ⊕ flat_octets tpdu ⊕ flat_pdu hex pdu
flat_outcome hex (O.Msg pair ttl src dst key payload pdu) =
    plain (codes " msg") refl ⊕ flat_pair pair ⊕ flat_route ttl src dst ⊕ flat_key key ⊕ flat_octets payload ⊕ flat_pdu hex pdu
flat_outcome hex (O.Long pair ttl src dst key payload) = plain (codes " long") refl ⊕ flat_pair pair ⊕ flat_route ttl src dst ⊕ flat_key key ⊕ flat_octets payload
flat_outcome hex (O.Seg pair ttl src dst seg_o seg_n auth pdu) =
    plain (codes " seg") refl ⊕ flat_pair pair ⊕ flat_route ttl src dst ⊕ flat_word seg_o ⊕ flat_word seg_n ⊕ flat_digits 6 auth ⊕ flat_pdu hex pdu
flat_outcome hex (O.Relay pair ctl ttl src dst tpdu pdu) =
    plain (codes " relay") refl ⊕ flat_pair pair ⊕ flat_bit ctl ⊕ flat_route ttl src dst ⊕ flat_octets tpdu ⊕ flat_pdu hex pdu
flat_outcome hex (O.Rep name pdu) = plain (codes " rep") refl ⊕ flat_digits 4 name.src.0 ⊕ flat_pair name.pair ⊕ flat_pdu hex pdu
flat_outcome hex (O.Bcn octets) = plain (codes " bcn") refl ⊕ flat_octets octets
flat_outcome hex (O.Spent iv) = plain (codes " spent") refl ⊕ flat_digits 8 iv
flat_outcome hex (O.Late pair) = plain (codes " late") refl ⊕ flat_pair pair

flat_progress : (b : Bool) → Flat (if b then codes " p" else codes " n")
flat_progress true = record { flat = refl }
flat_progress false = record { flat = refl }

flat_state : (s : IvState) → Flat (state_text s)
flat_state s = flat_digits 8 s.current ⊕ flat_progress s.progress ⊕ flat_digits 8 (transmit_of s)

flat_next : (b : Bool) (n : ℕ) → Flat (word_text (if b then hex_digits 7 n else hex_digits 6 n))
flat_next true n = flat_digits 7 n
flat_next false n = flat_digits 6 n

flat_words : (x : ReportLine) → Flat (words_text x)
unfolding words_text
flat_words (L.Opened life state mark) = plain (codes "life ") refl ⊕ flat_decimal life ⊕ flat_state state ⊕ flat_next _ _
flat_words (L.WasReset life) = plain (codes "life ") refl ⊕ flat_decimal life ⊕ plain (codes " wasreset") refl
flat_words (L.CutAtStart life) = plain (codes "life ") refl ⊕ flat_decimal life ⊕ plain (codes " cut") refl
flat_words (L.Entry at bearer number kind answer) =
    plain (codes "e ") refl ⊕ flat_decimal at ⊕ plain (codes " b") refl ⊕ flat_decimal bearer ⊕ flat_word number ⊕ flat_kind kind ⊕ flat_answer answer
flat_words (L.Sent bearer entry job outcome hex) =
    plain (codes "s b") refl ⊕ flat_decimal bearer ⊕ flat_word entry ⊕ plain (codes ".") refl ⊕ flat_decimal job ⊕ flat_outcome hex outcome
flat_words L.End = record { flat = refl }
flat_words (L.Cut calls) = plain (codes "cut ") refl ⊕ flat_decimal calls

-- Cuts.

abbrev is_lf : ℕ → Bool
is_lf b = b == 10

cut_flat : (x rest : List ℕ) → is_flat x ≡ true → slice_split is_lf (x ++ 10 ∷ rest) ≡ x ∷ slice_split is_lf rest
cut_flat [] rest h = slice_split-cons_yes is_lf 10 rest refl
cut_flat (b ∷ bs) rest h = cut_more (is_lf b) refl h (cut_flat bs rest)
  where
    cut_more : (t : Bool) → is_lf b ≡ t → (if t then false else is_flat bs) ≡ true → (is_flat bs ≡ true → slice_split is_lf (bs ++ 10 ∷ rest) ≡ bs ∷ slice_split is_lf rest)
        → slice_split is_lf ((b ∷ bs) ++ 10 ∷ rest) ≡ (b ∷ bs) ∷ slice_split is_lf rest
    cut_more true e k m = absurd cc
    cut_more false e k m = slice_split-cons_no is_lf b (bs ++ 10 ∷ rest) e ∙ ap (onto_first b) (m k)

record NotEmpty (ps : List (List ℕ)) : Type 0 where
  first : List ℕ
  more : List (List ℕ)
  are : ps ≡ first ∷ more

some_piece : (text : List ℕ) → NotEmpty (slice_split is_lf text)
some_piece [] = record { first = []; more = []; are = refl }
some_piece (b ∷ bs) = by_test (is_lf b) refl (some_piece bs)
  where
    by_test : (t : Bool) → is_lf b ≡ t → NotEmpty (slice_split is_lf bs) → NotEmpty (slice_split is_lf (b ∷ bs))
    by_test true e n = record { first = []; more = slice_split is_lf bs; are = slice_split-cons_yes is_lf b bs e }
    by_test false e n = record { first = b ∷ n.first; more = n.more; are = slice_split-cons_no is_lf b bs e ∙ ap (onto_first b) n.are }

-- a text's first line, where it ends with LF
first_line : (x rest : List ℕ) → is_flat x ≡ true → lines_of (x ++ 10 ∷ rest) ≡ (x ++ 10 ∷ []) ∷ lines_of rest
unfolding with_lf
first_line x rest h =
    let n = some_piece rest in
    ap with_lf (cut_flat x rest h) ∙ ap (λ (ps : List (List ℕ)). with_lf (x ∷ ps)) n.are ∙ ap (λ (ps : List (List ℕ)). (x ++ 10 ∷ []) ∷ with_lf ps) (sym n.are)

-- the lines of report lines
pub report_lines : (xs : List ReportLine) → lines_of (flat_map line_text xs) ≡ map line_text xs
unfolding with_lf
report_lines [] = refl
report_lines (x ∷ xs) =
    ap lines_of (append_assoc (words_text x) (10 ∷ []) (flat_map line_text xs)) ∙ first_line (words_text x) (flat_map line_text xs) (flat_words x).flat
    ∙ ap (λ (l : List (List ℕ)). line_text x ∷ l) (report_lines xs)

-- Pieces of a text are flat, and the text is they with LF between two.

flat_pieces : (text : List ℕ) → Every (λ p. is_flat p ≡ true) (slice_split is_lf text)
flat_pieces [] = (refl, tt)
flat_pieces (b ∷ bs) = by_test (is_lf b) refl (flat_pieces bs)
  where
    onto : (ps : List (List ℕ)) → is_lf b ≡ false → Every (λ p. is_flat p ≡ true) ps → Every (λ p. is_flat p ≡ true) (onto_first b ps)
    onto [] e h = (rw e refl, tt)
    onto (p ∷ ps) e h = (rw e h.0, h.1)

    by_test : (t : Bool) → is_lf b ≡ t → Every (λ p. is_flat p ≡ true) (slice_split is_lf bs) → Every (λ p. is_flat p ≡ true) (slice_split is_lf (b ∷ bs))
    by_test true e h = rw (slice_split-cons_yes is_lf b bs e) (refl, h)
    by_test false e h = rw (slice_split-cons_no is_lf b bs e) (onto (slice_split is_lf bs) e h)

lf_inside : (x y : List ℕ) → is_flat (x ++ 10 ∷ y) ≡ false
lf_inside [] y = refl
lf_inside (b ∷ bs) y = by_test (b == 10) (lf_inside bs y)
  where
    by_test : (t : Bool) → is_flat (bs ++ 10 ∷ y) ≡ false → (if t then false else is_flat (bs ++ 10 ∷ y)) ≡ false
    by_test true h = refl
    by_test false h = h

-- a line of a key has an LF
flat_not_key : (p : List ℕ) (n : ScriptNet) → is_flat p ≡ true → IsKeyLine p n → ⊥
flat_not_key p n h k =
    let with : is_flat p ≡ false = ap is_flat k.text ∙ ap is_flat (ends k.word) ∙ lf_inside (codes "key " ++ k.word) [] in
    cc
  where
    ends : (w : List ℕ) → codes "key " ++ w ++ 10 ∷ [] ≡ (codes "key " ++ w) ++ 10 ∷ []
    ends w = refl

-- Lines of keys alone end with LF each, so more text has its own lines behind them.
keys_then : (room : ℕ) (ps : List (List ℕ)) (nets : List ScriptNet) (more : List ℕ) → Every (λ p. is_flat p ≡ true) ps → AreLines room (with_lf ps) nets []
    → lines_of (join_with_byte 10 ps ++ more) ≡ with_lf ps ++ lines_of more
unfolding with_lf
keys_then room [] nets more f h = refl
keys_then room ([] ∷ []) nets more f h = refl
keys_then room ((b ∷ bs) ∷ []) nets more f h =
    let full : (length (b ∷ bs) == 0) ≡ false = grind (arith, nat_tests) in
    absurd (not_last room nets (subst (λ (t : Bool). AreLines room (if t then [] else (b ∷ bs) ∷ []) nets []) full h))
  where
    not_last : (room : ℕ) (nets : List ScriptNet) → AreLines room ((b ∷ bs) ∷ []) nets [] → ⊥
    not_last room [] h = h
    not_last zero (n ∷ ns) h = h
    not_last (suc room) (n ∷ ns) h = flat_not_key (b ∷ bs) n f.0 h.0
keys_then room (p ∷ q ∷ rest) nets more f h =
    ap lines_of (append_assoc p (10 ∷ join_with_byte 10 (q ∷ rest)) more) ∙ first_line p (join_with_byte 10 (q ∷ rest) ++ more) f.0
    ∙ ap (λ (l : List (List ℕ)). (p ++ 10 ∷ []) ∷ l) (later room nets h (λ n ns k. keys_then n (q ∷ rest) ns more f.1 k))
  where
    later : (room : ℕ) (nets : List ScriptNet) → AreLines room ((p ++ 10 ∷ []) ∷ with_lf (q ∷ rest)) nets []
        → ((n : ℕ) (ns : List ScriptNet) → AreLines n (with_lf (q ∷ rest)) ns [] → lines_of (join_with_byte 10 (q ∷ rest) ++ more) ≡ with_lf (q ∷ rest) ++ lines_of more)
        → lines_of (join_with_byte 10 (q ∷ rest) ++ more) ≡ with_lf (q ∷ rest) ++ lines_of more
    later room [] h k = absurd h
    later zero (n ∷ ns) h k = absurd h
    later (suc room) (n ∷ ns) h k = k room ns h.1

pub lines_behind : (keys more : List ℕ) (nets : List ScriptNet) → IsInput keys nets [] → lines_of (keys ++ more) ≡ lines_of keys ++ lines_of more
lines_behind keys more nets h =
    ap (λ (t : List ℕ). lines_of (t ++ more)) (sym (join_with_byte-slice_split 10 keys)) ∙ keys_then 16 (slice_split is_lf keys) nets more (flat_pieces keys) h

-- What the lines are read as.

-- no report line begins as a line of a key
first_octet : (l : ReportLine) → slice_index (line_text l) 0 ≡ 107 → ⊥
unfolding words_text
first_octet (L.Opened life state mark) h = omega arith
first_octet (L.WasReset life) h = omega arith
first_octet (L.CutAtStart life) h = omega arith
first_octet (L.Entry at bearer number kind answer) h = omega arith
first_octet (L.Sent bearer entry job outcome hex) h = omega arith
first_octet L.End h = omega arith
first_octet (L.Cut calls) h = omega arith

pub behind_keys : (room : ℕ) (ks : List (List ℕ)) (xs : List ReportLine) (nets ns : List ScriptNet) (lines : List ReportLine) → AreLines room ks nets []
    → AreLines room (ks ++ map line_text xs) ns lines → AreReportLines (map line_text xs) lines
behind_keys room [] xs nets [] lines h k = k
behind_keys zero [] xs nets (m ∷ ms) lines h k = absurd k
behind_keys (suc room) [] [] nets (m ∷ ms) lines h k = absurd k
behind_keys (suc room) [] (x ∷ xs) nets (m ∷ ms) lines h k = absurd (first_octet x (ap (λ t. slice_index t 0) k.0.text))
behind_keys room (t ∷ ts) xs [] ns lines h k = absurd h
behind_keys zero (t ∷ ts) xs (n ∷ nets) ns lines h k = absurd h
behind_keys (suc room) (t ∷ ts) xs (n ∷ nets) [] [] h k = absurd k
behind_keys (suc room) (t ∷ ts) xs (n ∷ nets) [] (l ∷ ls) h k = absurd (not_key t n l h.0 k.0)
behind_keys (suc room) (t ∷ ts) xs (n ∷ nets) (m ∷ ms) lines h k = behind_keys room ts xs nets ms lines h.1 k.1

-- the lines that the text of keys and a report is read as
pub read_report : (keys : List ℕ) (nets ns : List ScriptNet) (r : Run) (hex : Bool) (lines : List ReportLine) → IsInput keys nets [] → IsInput (keys ++ report_text r hex) ns lines
    → AreReportLines (map line_text (lives_lines hex 1 r.lives)) lines
read_report keys nets ns r hex lines h k =
    let cut : lines_of (keys ++ report_text r hex) ≡ lines_of keys ++ map line_text (lives_lines hex 1 r.lives) =
    lines_behind keys (report_text r hex) nets h ∙ ap (λ (l : List (List ℕ)). lines_of keys ++ l) (report_lines (lives_lines hex 1 r.lives)) in
    behind_keys 16 (lines_of keys) (lives_lines hex 1 r.lives) nets ns lines h (subst (λ (l : List (List ℕ)). AreLines 16 l ns lines) cut k)
