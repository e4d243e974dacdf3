use Rattle.std.proofs.Common.{◌≡◌, ◌∙◌, sym, refl, Bool, true, false, arith, true≢false}
use Rattle.slot_journal.proofs.Unsteady.{steady_else, unsteady}
use Rattle.slot_journal.proofs.header.can_count.Goals as goal
use Rattle.slot_journal.proofs.header.can_count.Goals.{then-text-ne0-via-then-text-ne0, then-text-ne0-via-else-text-ne0+then-text-gt-FORMAT}

not_false : (b : Bool) → mathlib.Core.Bool.not b ≡ false → b ≡ true
not_false true e = refl
not_false false e = absurd (true≢false e)

not_true : (b : Bool) → mathlib.Core.Bool.not b ≡ true → b ≡ false
not_true true e = absurd (true≢false (sym e))
not_true false e = refl

pub returns-then-text-ne0-clause-steady : goal.returns-then-text-ne0-clause-steady
returns-then-text-ne0-clause-steady c _ = steady_else c.args.text.now c.fits-text (λ gate few apart.
    absurd (elim c.then-text-ne0.branch [
      | then-text-ne0-via-then-text-ne0 w ↦ let open_gate = w.if-text-ne0.true in omega (arith, open_gate, gate)
      | then-text-ne0-via-else-text-ne0+then-text-gt-FORMAT w ↦ let above = w.if-text-gt-FORMAT.true in omega (arith, above, few)
    ]))

pub returns-then-not-is_apart-clause-steady : goal.returns-then-not-is_apart-clause-steady
returns-then-not-is_apart-clause-steady c _ = steady_else c.args.text.now c.fits-text (λ gate few apart.
    absurd (true≢false (sym (c.is_apart.ensures.1 apart) ∙ c.if-not-is_apart.true)))

pub returns-clause-steady : goal.returns-clause-steady
returns-clause-steady c isnt = steady_else c.args.text.now c.fits-text (λ gate few apart. sym c.sound.ensures ∙ not_false c.sound.result isnt)

pub returns-clause-unsteady : goal.returns-clause-unsteady
returns-clause-unsteady c is =
    unsteady c.args.text.now c.fits-text c.told-text c.if-text-ne0.false c.if-text-gt-FORMAT.false (c.is_apart.ensures.0 c.if-not-is_apart.false)
    (sym c.sound.ensures ∙ not_true c.sound.result is)
