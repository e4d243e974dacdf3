use Rattle.std.proofs.Common.{ℕ, List, map, Bor, sym, ap, ◌∙◌}
use Rattle.report_reader.proofs.Said.{other_line, no_line}
use Rattle.report_reader.proofs.reading.line_with_text.Goals as goal

pub returns-in-Some-clause-none : goal.returns-in-Some-clause-none
returns-in-Some-clause-none c =
    other_line _ _ _ (ap (map (λ (w : Bor (List ℕ)). w.now)) c.as_slice.ensures.value ∙ c.in_ok-fields.ensures.value)
    (sym c.in-Some.ensures.value) (sym c.in_ok-has_text-in-Some.ensures.value ∙ c.if-branch.false)

pub returns-clause-none : goal.returns-clause-none
returns-clause-none c =
    no_line _ _ (ap (map (λ (w : Bor (List ℕ)). w.now)) c.as_slice.ensures.value ∙ c.in_ok-fields.ensures.value)
    (sym c.line_of.ensures.value ∙ c.in-None.is)
