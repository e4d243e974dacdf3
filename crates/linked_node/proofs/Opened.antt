-- A Node Reset that a life isn't opened over.
use Rattle.std.proofs.Common.{◌≡◌, ℕ, true, List, Option, Some, None, sym, subst, refl, ◌∙◌}
use Rattle.std.specs.Prelude.{IfSome}
use Rattle.flash_model.specs.Chip.{Chip}
use Rattle.machine_contract.specs.Refused.{IsStartCause}
use Rattle.machine_contract.specs.declared.opening.StartFault.{StartFault}
use Rattle.machine_contract.specs.declared.opening.StartFault.TheVariants as T
use Rattle.record_types.specs.declared.records.StoreRecord.{StoreRecord}
use Rattle.store_definitions.specs.Config.{config_of}
use Rattle.store_definitions.specs.Recovered.{IsRecovered}

apart : {A : Type 0} → T.WasReset ≡ T.Memory → A
apart e = absurd cc

module _ {F : Type 0} (chip : F → Chip) (P : List ℕ → Type 0) (old : Chip) (image : List ℕ) (same : old.now ≡ image) where
  pub reset_is : (left : Option F) (fault : StartFault) → IfSome left (λ f. IsStartCause P old (chip f) fault) → (left ≡ None → fault ≡ T.Memory)
      → fault ≡ T.WasReset → (over : List StoreRecord) × IsRecovered image over × ((config_of over).reset ≡ true)
  reset_is (Some f) T.WasReset cause lost is = let found = cause.0 in (found.over, subst (λ c. IsRecovered c found.over) same found.read, found.reset)
  reset_is (Some f) T.Flash cause lost is = absurd cc
  reset_is (Some f) T.Memory cause lost is = absurd cc
  reset_is None fault cause lost is = apart (sym is ∙ lost refl)
