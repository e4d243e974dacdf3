use Rattle.std.proofs.Common.{◌≡◌, ◌≢◌, ◌≤◌, ◌∙◌, ℕ, List, refl, sym, subst, arith}
use Rattle.std.specs.Prelude.{IfErr, IsErrAnd, IsTrue, Ok, Err, Result}
use Rattle.flash_model.specs.Chip.{Chip}
use Rattle.flash_model.proofs.Runs.{stays_more}
use Rattle.node_store.specs.Causes.{IsDamagedAt, IsNotFlash, IsStoreCause}
use Rattle.node_store.specs.Images.{IsImageCause}
use Rattle.node_store.specs.declared.images.ImageFault.{ImageFault}
use Rattle.node_store.specs.declared.images.ImageFault.TheVariants as I
use Rattle.node_store.specs.declared.mounting.StoreFault.{StoreFault}
use Rattle.node_store.specs.declared.mounting.StoreFault.TheVariants as F
use Rattle.node_store.proofs.images.read_image.Goals as goal

module _ (old mid new : Chip) (later : old.faults ≤ mid.faults) (none : mid.faults ≡ old.faults) (honest_is : mid.honest ≡ old.honest) (same : IsTrue old.honest → mid.now ≡ old.now) where
  cause_of : (e : StoreFault) → IsStoreCause mid new e → e ≢ F.WasReset → (IsNotFlash e → new.faults ≡ mid.faults) → IsImageCause old new (I.Store e)
  cause_of F.Flash cause runs stays = omega (arith, later, cause)
  cause_of F.NoNode cause runs stays = (stays tt ∙ none, λ honest. subst (λ (o : List ℕ). Rattle.node_store.specs.Causes.IsFoundAs o F.NoNode) (same honest) (cause (honest_is ∙ honest)))
  cause_of (F.Damaged n) cause runs stays = (stays tt ∙ none, λ honest. subst (λ (o : List ℕ). IsDamagedAt o n) (same honest) (cause (honest_is ∙ honest)))
  cause_of F.WasReset cause runs stays = absurd (runs refl)

if_err_is : {T : Type 0} (r : Result T ImageFault) (e : ImageFault) (P : ImageFault → Type 0) → IsErrAnd r (λ x. x ≡ e) → P e → IfErr r P
if_err_is (Ok x) e P h p = absurd h
if_err_is (Err x) e P h p = subst P (sym h) p

pub returns-in_err-persist-clause-cause : goal.returns-in_err-persist-clause-cause
returns-in_err-persist-clause-cause g c =
    let tidy = c.in_ok-check_tidy.ensures in
    let e = c.in_err-persist.field-0.0 in
    if_err_is c.from_residual-in_err-persist.result (I.Store e) _ c.from_residual-in_err-persist.ensures.1
    (cause_of (g.F.Flash.chip c.args.flash.now) (g.F.Flash.chip c.check_tidy.new.flash) (g.F.Flash.chip c.read_counting.new.flash)
    tidy.frame.later tidy.no_fault tidy.frame.honest (λ honest. (tidy.stays honest).now) e
    c.in_err-persist.ensures.cause c.in_err-persist.ensures.runs c.in_err-persist.ensures.refused)

pub returns-then-not-is_whole-clause-stays : goal.returns-then-not-is_whole-clause-stays
returns-then-not-is_whole-clause-stays g c honest =
    let tidy = c.in_ok-check_tidy.ensures in
    stays_more (g.F.Flash.chip c.args.flash.now) (g.F.Flash.chip c.check_tidy.new.flash) (g.F.Flash.chip c.read_counting.new.flash)
    (tidy.stays honest) (c.read_counting.ensures.stays (tidy.frame.honest ∙ honest))

pub returns-clause-stays : goal.returns-clause-stays
returns-clause-stays g c honest =
    let tidy = c.in_ok-check_tidy.ensures in
    stays_more (g.F.Flash.chip c.args.flash.now) (g.F.Flash.chip c.check_tidy.new.flash) (g.F.Flash.chip c.read_counting.new.flash)
    (tidy.stays honest) (c.read_counting.ensures.stays (tidy.frame.honest ∙ honest))
