-- No input has two verdicts.
use Rattle.std.proofs.Common.{◌≡◌, ℕ, ◌+◌, ◌<◌, ◌≤◌, ◌⊎◌, List, length, refl, sym, ap, ◌∙◌, inl, inr, arith, subst}
use Rattle.mesh_types.specs.declared.report.ReportLine.{ReportLine}
use Rattle.script_definitions.specs.declared.line.ScriptNet.{ScriptNet}
use Rattle.audit_definitions.specs.Input.{lines_of}
use Rattle.audit_definitions.specs.Verdicts.{IsWrong, Place, place, IsUpTo, IsVerdictOf, IsVerdict, HaveOneReading, HaveOneVerdict}
use Rattle.audit_definitions.specs.declared.verdict.Verdict.{Verdict}
use Rattle.audit_definitions.specs.declared.verdict.Verdict.TheVariants as V
use Rattle.audit_definitions.proofs.OneInput.{one_reading}

pub one_input : HaveOneReading
one_input text ns ls ms ks h k = one_reading 16 (lines_of text) ns ls ms ks h k

-- two places that are up to each other
record Same (p q : Place) : Type 0 where
  line : p.line ≡ q.line
  kind : p.kind ≡ q.kind
  before : p.before ≡ q.before

same_place : (p q : Place) → IsUpTo p q → IsUpTo q p → Same p q
same_place p q (inl a) (inl b) = absurd (omega arith)
same_place p q (inl a) (inr b) = let e = b.0 in absurd (omega arith)
same_place p q (inr a) (inl b) = let e = a.0 in absurd (omega arith)
same_place p q (inr (e, inl a)) (inr (f, inl b)) = absurd (omega arith)
same_place p q (inr (e, inl a)) (inr (f, inr b)) = let g = b.0 in absurd (omega arith)
same_place p q (inr (e, inr a)) (inr (f, inl b)) = let g = a.0 in absurd (omega arith)
same_place p q (inr (e, inr a)) (inr (f, inr b)) =
    let g = a.1 in
    let h = b.1 in
    record { line = e; kind = a.0; before = omega arith }

same_verdict : (nets : List ScriptNet) (lines : List ReportLine) (v w : Verdict) → IsVerdictOf nets lines v → IsVerdictOf nets lines w → v ≡ w
same_verdict nets lines (V.Sound m) (V.Sound n) h k = let e = h.0 in let f = k.0 in let same : m ≡ n = e ∙ sym f in cc
same_verdict nets lines (V.Sound m) (V.Reuse a b) h k = absurd (h.1 (V.Reuse a b) k.0)
same_verdict nets lines (V.Sound m) (V.Twice a b) h k = absurd (h.1 (V.Twice a b) k.0)
same_verdict nets lines (V.Sound m) (V.Bad b) h k = absurd (h.1 (V.Bad b) k.0)
same_verdict nets lines (V.Reuse a b) (V.Sound n) h k = absurd (k.1 (V.Reuse a b) h.0)
same_verdict nets lines (V.Twice a b) (V.Sound n) h k = absurd (k.1 (V.Twice a b) h.0)
same_verdict nets lines (V.Bad b) (V.Sound n) h k = absurd (k.1 (V.Bad b) h.0)
same_verdict nets lines (V.Reuse a b) (V.Reuse c d) h k =
    let s = same_place _ _ (h.1 (V.Reuse c d) k.0) (k.1 (V.Reuse a b) h.0) in
    let e : a ≡ c = s.before in
    let f : b ≡ d = s.line in
    cc
same_verdict nets lines (V.Twice a b) (V.Twice c d) h k =
    let s = same_place _ _ (h.1 (V.Twice c d) k.0) (k.1 (V.Twice a b) h.0) in
    let e : a ≡ c = s.before in
    let f : b ≡ d = s.line in
    cc
same_verdict nets lines (V.Bad b) (V.Bad d) h k =
    let s = same_place _ _ (h.1 (V.Bad d) k.0) (k.1 (V.Bad b) h.0) in
    let f : b ≡ d = s.line in
    cc
same_verdict nets lines (V.Reuse a b) (V.Twice c d) h k = let s = same_place _ _ (h.1 (V.Twice c d) k.0) (k.1 (V.Reuse a b) h.0) in let e : ◌≡◌ {A = ℕ} 0 1 = s.kind in absurd (omega arith)
same_verdict nets lines (V.Reuse a b) (V.Bad d) h k = let s = same_place _ _ (h.1 (V.Bad d) k.0) (k.1 (V.Reuse a b) h.0) in let e : ◌≡◌ {A = ℕ} 0 2 = s.kind in absurd (omega arith)
same_verdict nets lines (V.Twice a b) (V.Reuse c d) h k = let s = same_place _ _ (h.1 (V.Reuse c d) k.0) (k.1 (V.Twice a b) h.0) in let e : ◌≡◌ {A = ℕ} 1 0 = s.kind in absurd (omega arith)
same_verdict nets lines (V.Twice a b) (V.Bad d) h k = let s = same_place _ _ (h.1 (V.Bad d) k.0) (k.1 (V.Twice a b) h.0) in let e : ◌≡◌ {A = ℕ} 1 2 = s.kind in absurd (omega arith)
same_verdict nets lines (V.Bad b) (V.Reuse c d) h k = let s = same_place _ _ (h.1 (V.Reuse c d) k.0) (k.1 (V.Bad b) h.0) in let e : ◌≡◌ {A = ℕ} 2 0 = s.kind in absurd (omega arith)
same_verdict nets lines (V.Bad b) (V.Twice c d) h k = let s = same_place _ _ (h.1 (V.Twice c d) k.0) (k.1 (V.Bad b) h.0) in let e : ◌≡◌ {A = ℕ} 2 1 = s.kind in absurd (omega arith)

pub one_verdict : HaveOneVerdict
one_verdict text v w h k =
    let same = one_input text k.nets k.lines h.nets h.lines k.input h.input in
    let here : IsVerdictOf h.nets k.lines w = subst (λ (ns : List ScriptNet). IsVerdictOf ns k.lines w) same.0 k.verdict in
    let there : IsVerdictOf h.nets h.lines w = subst (λ (ls : List ReportLine). IsVerdictOf h.nets ls w) same.1 here in
    same_verdict h.nets h.lines v w h.verdict there
