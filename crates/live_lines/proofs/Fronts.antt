-- The front of a line says what the line says, and shows the same.
use Rattle.std.proofs.Common.{◌≡◌, ℕ, ◌-◌, ◌<◌, ◌≤◌, ◌==◌, ◌⊎◌, ◌&&◌, not, nat_le, false, List, [], ◌∷◌, ◌++◌, length, take, filter, codes, refl, sym, ap, subst, ◌∙◌, inl, inr, arith}
use Rattle.std.specs.Fmt.{decimal}
use Rattle.std.specs.List.{take_while}
use Rattle.std.proofs.lemmas.Bool.{and_left, cases_cond, cases_lt, cond-true, lt-leb}
use Rattle.std.proofs.lemmas.List.{length-take-le, take-append-le, take-take, take_all}
use Rattle.report_writer.specs.Handing.{IsHanded}
use Rattle.report_writer.specs.Writing.{SinkView}
use Rattle.script_definitions.specs.Reading.{has_form}
use Rattle.script_definitions.specs.Words.{ends_with, without_cr}
use Rattle.live_lines.specs.Moves.{IsTold}
use Rattle.live_lines.specs.Saying.{line_says}
use Rattle.live_lines.specs.Texts.{wrong_text}
use Rattle.live_lines.specs.declared.saying.Saying.{Saying}
use Rattle.live_lines.specs.declared.saying.Saying.TheVariants as S

-- octets behind a front, as long as there is room
pub front_more : (n : ℕ) (used more : List ℕ) → take n (take n used ++ more) ≡ take n (used ++ more)
front_more n used more =
    elim (cases_lt n (length used)) [
      | inl long ↦
          let some : n ≤ length (take n used) = omega (arith, length-take-le n used (omega arith)) in
          take-append-le n (take n used) more some ∙ take-take n n used (omega arith) ∙ sym (take-append-le n used more (omega arith))
      | inr short ↦ ap (λ (front : List ℕ). take n (front ++ more)) (take_all n used short)
    ]

-- without a CR a line has at most one octet less, and the same front

cr_cases : (line : List ℕ) → (without_cr line ≡ take (length line - 1) line) ⊎ (without_cr line ≡ line)
cr_cases line = cases_cond (ends_with 13 line) (take (length line - 1) line) line (without_cr line) refl

cr_long : (n : ℕ) (line : List ℕ) → n < length line → n ≤ length (without_cr line)
cr_long n line h =
    elim (cr_cases line) [
      | inl e ↦ omega (arith, ap length e, length-take-le (length line - 1) line (omega arith))
      | inr e ↦ omega (arith, ap length e)
    ]

cr_front : (n : ℕ) (line : List ℕ) → n < length line → take n (without_cr line) ≡ take n line
cr_front n line h =
    elim (cr_cases line) [
      | inl e ↦ ap (take n) e ∙ take-take n (length line - 1) line (omega arith)
      | inr e ↦ ap (take n) e
    ]

-- a long line is wrong

no_form : (line : List ℕ) → 1200 < length line → has_form line ≡ false
unfolding has_form
no_form line h = and_left (nat_le (length line) 1200) _ (lt-leb (length line) 1200 h)

long_wrong : (bearers elements : ℕ) (line : List ℕ) → 1200 < length line → line_says bearers elements line ≡ S.Wrong 1
unfolding line_says
long_wrong bearers elements line h = cond-true (not (has_form line)) _ _ (ap not (no_form line h))

pub front_says : (bearers elements : ℕ) (raw : List ℕ)
    → line_says bearers elements (without_cr (take 1202 raw)) ≡ line_says bearers elements (without_cr raw)
front_says bearers elements raw =
    elim (cases_lt 1202 (length raw)) [
      | inl long ↦
          let some : 1201 < length (take 1202 raw) = omega (arith, length-take-le 1202 raw (omega arith)) in
          long_wrong bearers elements (without_cr (take 1202 raw)) (omega (arith, cr_long 1201 (take 1202 raw) some))
          ∙ sym (long_wrong bearers elements (without_cr raw) (omega (arith, cr_long 1201 raw (omega arith))))
      | inr short ↦ ap (λ (line : List ℕ). line_says bearers elements (without_cr line)) (take_all 1202 raw short)
    ]

-- what is shown of a line is in its front

front_begins : (raw : List ℕ) → take 40 (without_cr (take 1202 raw)) ≡ take 40 (without_cr raw)
front_begins raw =
    elim (cases_lt 1202 (length raw)) [
      | inl long ↦
          cr_front 40 (take 1202 raw) (omega (arith, length-take-le 1202 raw (omega arith)))
          ∙ take-take 40 1202 raw (omega arith) ∙ sym (cr_front 40 raw (omega arith))
      | inr short ↦ ap (λ (line : List ℕ). take 40 (without_cr line)) (take_all 1202 raw short)
    ]

pub front_told : (number rule : ℕ) (raw : List ℕ) → wrong_text number rule (without_cr (take 1202 raw)) ≡ wrong_text number rule (without_cr raw)
unfolding wrong_text
front_told number rule raw =
    ap (λ (front : List ℕ). codes "line " ++ decimal number ++ codes ": rule " ++ decimal rule ++ codes ": "
    ++ filter (λ b. nat_le 32 b && nat_le b 126) (take_while (λ b. not (b == 32)) front) ++ 10 ∷ []) (front_begins raw)

told_alike : (number : ℕ) (front line : List ℕ) (saying : Saying) (old new : SinkView)
    → ((rule : ℕ) → wrong_text number rule front ≡ wrong_text number rule line) → IsTold number front saying old new → IsTold number line saying old new
told_alike number front line S.Nothing old new same h = h
told_alike number front line (S.Wrong rule) old new same h = subst (λ (text : List ℕ). IsHanded text old new) (same rule) h
told_alike number front line (S.Happens event) old new same h = h

-- what is told of the front of a line is told of the line
pub told_of : (bearers elements number : ℕ) (raw : List ℕ) (old new : SinkView)
    → IsTold number (without_cr (take 1202 raw)) (line_says bearers elements (without_cr (take 1202 raw))) old new
    → IsTold number (without_cr raw) (line_says bearers elements (without_cr raw)) old new
told_of bearers elements number raw old new h =
    told_alike number (without_cr (take 1202 raw)) (without_cr raw) (line_says bearers elements (without_cr raw)) old new (λ rule. front_told number rule raw)
    (subst (λ (saying : Saying). IsTold number (without_cr (take 1202 raw)) saying old new) (front_says bearers elements raw) h)
