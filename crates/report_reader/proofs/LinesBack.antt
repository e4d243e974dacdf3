-- The fields of a line's text, and the line that they give back.
use Rattle.std.proofs.Common.{◌≡◌, ℕ, ◌+◌, ◌*◌, ◌%◌, ◌^◌, ◌<◌, ◌≤◌, ◌==◌, Bool, true, false, if◌then◌else◌, List, [], ◌∷◌, ◌++◌, Some, None, refl, sym, ap, ◌∙◌, inl, inr, arith, codes}
use Rattle.std.proofs.lemmas.Bool.{cases_eq}
use Rattle.std.proofs.lemmas.Bool.Decides.{nat_tests}
use Rattle.std.specs.Fmt.{decimal}
use Rattle.std.specs.Str.{bytes_eq}
use Rattle.mesh_base.specs.IvState.{transmit_of}
use Rattle.mesh_base.specs.declared.iv_state.IvState.{IvState}
use Rattle.mesh_types.specs.declared.report.ReportLine.{ReportLine}
use Rattle.mesh_types.specs.declared.report.ReportLine.TheVariants as L
use Rattle.report_definitions.specs.Report.{line_text, words_text, state_text, next_text}
use Rattle.report_definitions.specs.Text.{hex_digits, word_text}
use Rattle.script_definitions.specs.Digits.{number_from, number_word}
use Rattle.report_reader.specs.Forms.{fields_of}
use Rattle.report_reader.specs.Lines.{bearer_word, next_word, opening_state, opened, life, entry, sent, line_of}
use Rattle.report_reader.specs.ReportLine.{IsTold, IsToldOpening, IsReportLine, HaveOneLine}
use Rattle.report_reader.proofs.AnswersBack.{kind_field, adds_kind, kind_back, answer_fields, adds_answer, answer_back, adds_digits, adds_decimal}
use Rattle.report_reader.proofs.Back.{number_back, not_number}
use Rattle.report_reader.proofs.Decimals.{below_back}
use Rattle.report_reader.proofs.OutcomesBack.{outcome_fields, adds_outcome, outcome_back}
use Rattle.report_reader.proofs.Parts.{is_whole, Adds, adds_none, ◌⊕◌, adds_field, adds_joined, field_first, whole_cons, whole_decimal, whole_digits}

-- a line's first word, what stands behind it, and LF
pub begins : (w x : List ℕ) (fs : List (List ℕ)) → is_whole w ≡ true → Adds x fs → fields_of (w ++ (x ++ 10 ∷ [])) ≡ w ∷ fs ++ [] ∷ []
begins w x fs h a = field_first w (x ++ 10 ∷ []) (fs ++ [] ∷ []) h (a.fields (10 ∷ []) ([] ∷ []) refl)

pub adds_bearer : (n : ℕ) → Adds (codes " b" ++ decimal n) ((98 ∷ decimal n) ∷ [])
adds_bearer n = adds_field 32 (98 ∷ decimal n) refl (whole_cons 98 (decimal n) refl (whole_decimal n))

-- The opening of a life.

abbrev progress_field : Bool → List ℕ
progress_field b = if b then codes "p" else codes "n"

adds_progress : (b : Bool) → Adds (if b then codes " p" else codes " n") (progress_field b ∷ [])
adds_progress true = adds_field 32 (codes "p") refl refl
adds_progress false = adds_field 32 (codes "n") refl refl

adds_state : (s : IvState) → Adds (state_text s) (hex_digits 8 s.current ∷ progress_field s.progress ∷ hex_digits 8 (transmit_of s) ∷ [])
adds_state s = adds_digits 8 s.current ⊕ adds_progress s.progress ⊕ adds_digits 8 (transmit_of s)

abbrev next_digits : Bool → ℕ → List ℕ
next_digits b n = if b then hex_digits 7 n else hex_digits 6 n

whole_next : (b : Bool) (n : ℕ) → is_whole (next_digits b n) ≡ true
whole_next true n = whole_digits 7 n
whole_next false n = whole_digits 6 n

abbrev next_field : ℕ → List ℕ
next_field n = next_digits (n == 2 ^ 24) n

adds_next : (mark : ℕ) → Adds (next_text mark) (next_field (mark % 2 ^ 25) ∷ [])
adds_next mark = adds_field 32 (next_field (mark % 2 ^ 25)) refl (whole_next (mark % 2 ^ 25 == 2 ^ 24) (mark % 2 ^ 25))

all_used : next_word (hex_digits 7 (2 ^ 24)) ≡ Some (2 ^ 24)
unfolding next_word hex_digits
all_used = refl

seven_digits : number_word 6 (codes "1000000") ≡ None
unfolding number_word
seven_digits = refl

next_back : (n : ℕ) → n ≤ 2 ^ 24 → next_word (next_field n) ≡ Some n
unfolding next_word
next_back n h =
    elim (cases_eq n (2 ^ 24)) [
      | inl e ↦ rw e all_used
      | inr ne ↦
          let other : (n == 2 ^ 24) ≡ false = grind (arith, nat_tests) in
          let below : n < 16 ^ 6 = omega arith in
          rw (other, not_number 6 n (codes "1000000") below seven_digits, number_back 6 n below) refl
    ]

no_number : (number_word 8 (codes "wasreset") ≡ None) × (number_word 8 (codes "cut") ≡ None)
unfolding number_word number_from
no_number = (refl, refl)

progress_back : (b : Bool) → bytes_eq (progress_field b) (codes "p") ≡ b
progress_back true = refl
progress_back false = refl

state_back : (s : IvState) → s.hours ≡ 0 → s.since ≡ 0 → opening_state s.current s.progress ≡ s
state_back s h k = rw (h, k) refl

opened_same : (number mark : ℕ) (s : IvState) → IsToldOpening s mark
    → L.Opened number (opening_state s.current s.progress) (transmit_of (opening_state s.current s.progress) * 2 ^ 25 + mark % 2 ^ 25) ≡ L.Opened number s mark
opened_same number mark s h =
    let whole : transmit_of s * 2 ^ 25 + mark % 2 ^ 25 ≡ mark = let e = h.iv in omega arith in
    rw (state_back s h.hours h.since, whole) refl

opened_back : (a : List ℕ) (number mark : ℕ) (s : IvState) (e : List ℕ) (rest : List (List ℕ)) → number < 2 ^ 32 → IsToldOpening s mark
    → life (a ∷ decimal number ∷ hex_digits 8 s.current ∷ progress_field s.progress ∷ e ∷ next_field (mark % 2 ^ 25) ∷ rest) ≡ Some (L.Opened number s mark)
unfolding life opened
opened_back a number mark s e rest k h =
    rw (
      below_back (2 ^ 32) number k (omega arith),
      not_number 8 s.current (codes "wasreset") h.current no_number.0,
      not_number 8 s.current (codes "cut") h.current no_number.1,
      number_back 8 s.current h.current,
      next_back (mark % 2 ^ 25) h.seq,
      progress_back s.progress,
    )
    (ap Some (opened_same number mark s h))

-- The fields of every line.

abbrev line_fields : ReportLine → List (List ℕ)
line_fields (L.Opened life state mark) =
    codes "life" ∷ decimal life ∷ hex_digits 8 state.current ∷ progress_field state.progress ∷ hex_digits 8 (transmit_of state) ∷ next_field (mark % 2 ^ 25) ∷ []
line_fields (L.WasReset life) = codes "life" ∷ decimal life ∷ codes "wasreset" ∷ []
line_fields (L.CutAtStart life) = codes "life" ∷ decimal life ∷ codes "cut" ∷ []
line_fields (L.Entry at bearer number kind answer) =
    codes "e" ∷ decimal at ∷ (98 ∷ decimal bearer) ∷ decimal number ∷ kind_field kind ∷ answer_fields answer
line_fields (L.Sent bearer entry job outcome hex) = codes "s" ∷ (98 ∷ decimal bearer) ∷ decimal entry ∷ decimal job ∷ outcome_fields outcome
line_fields L.End = codes "end" ∷ []
line_fields (L.Cut calls) = codes "cut" ∷ decimal calls ∷ []

pub adds_job : (n : ℕ) → Adds (codes "." ++ decimal n) (decimal n ∷ [])
adds_job n = adds_field 46 (decimal n) refl (whole_decimal n)

fields_line : (l : ReportLine) → IsTold l → fields_of (line_text l) ≡ line_fields l ++ [] ∷ []
unfolding words_text
fields_line (L.Opened life state mark) h = begins (codes "life") _ _ refl (adds_decimal life ⊕ adds_state state ⊕ adds_next mark)
fields_line (L.WasReset life) h = begins (codes "life") _ _ refl (adds_decimal life ⊕ adds_field 32 (codes "wasreset") refl refl)
fields_line (L.CutAtStart life) h = begins (codes "life") _ _ refl (adds_decimal life ⊕ adds_field 32 (codes "cut") refl refl)
fields_line (L.Entry at bearer number kind answer) h =
    let front = adds_joined (word_text (decimal at)) (codes " b") (decimal bearer) _ (adds_decimal at ⊕ adds_bearer bearer) in
    begins (codes "e") _ _ refl (front ⊕ adds_decimal number ⊕ adds_kind kind ⊕ adds_answer answer)
fields_line (L.Sent bearer entry job outcome hex) h =
    let front = adds_joined (codes " b" ++ decimal bearer ++ word_text (decimal entry)) (codes ".") (decimal job) _ (adds_bearer bearer ⊕ adds_decimal entry ⊕ adds_job job) in
    rw h.4 (begins (codes "s") _ _ refl (front ⊕ adds_outcome outcome))
fields_line L.End h = begins (codes "end") [] [] refl adds_none
fields_line (L.Cut calls) h = begins (codes "cut") _ _ refl (adds_decimal calls)

bearer_back : (n : ℕ) → n < 2 ^ 8 → bearer_word (98 ∷ decimal n) ≡ Some n
unfolding bearer_word
bearer_back n h = below_back (2 ^ 8) n h (omega arith)

line_back : (l : ReportLine) → IsTold l → line_of (line_fields l ++ [] ∷ []) ≡ Some l
unfolding line_of life entry sent
line_back (L.Opened number state mark) h = opened_back (codes "life") number mark state (hex_digits 8 (transmit_of state)) ([] ∷ []) h.0 h.1
line_back (L.WasReset number) h = rw (below_back (2 ^ 32) number h (omega arith)) refl
line_back (L.CutAtStart number) h = rw (below_back (2 ^ 32) number h (omega arith)) refl
line_back (L.Entry at bearer number kind answer) h =
    rw (
      below_back (2 ^ 32) at h.0 (let k = h.0 in omega arith),
      bearer_back bearer h.1,
      below_back (2 ^ 32) number h.2 (let k = h.2 in omega arith),
      kind_back kind,
      answer_back (codes "e") (decimal at) (98 ∷ decimal bearer) (decimal number) (kind_field kind) answer ([] ∷ []) h.3,
    )
    refl
line_back (L.Sent bearer entry job outcome hex) h =
    rw (
      bearer_back bearer h.0,
      below_back (2 ^ 32) entry h.1 (let k = h.1 in omega arith),
      below_back (2 ^ 8) job h.2 (let k = h.2 in omega arith),
      outcome_back (codes "s") (98 ∷ decimal bearer) (decimal entry) (decimal job) outcome ([] ∷ []) h.3,
    )
    (ap (λ (b : Bool). Some (L.Sent bearer entry job outcome b)) (sym h.4))
line_back L.End h = refl
line_back (L.Cut calls) h = rw (below_back (2 ^ 32) calls h (omega arith)) refl

-- the text of a line gives the line back
pub text_back : (text : List ℕ) (l : ReportLine) → IsReportLine text l → line_of (fields_of text) ≡ Some l
text_back text l h = ap (λ t. line_of (fields_of t)) (sym h.text) ∙ ap line_of (fields_line l h.told) ∙ line_back l h.told

pub one_line : HaveOneLine
one_line text l m h k = let e : Some l ≡ Some m = sym (text_back text l h) ∙ text_back text m k in cc
