-- The image of a node that is provisioned on an erased flash.
use Rattle.std.proofs.Common.{◌≡◌, ◌∙◌, ℕ, ◌+◌, ◌-◌, ◌<◌, List, replicate, get_or, Result, Ok, Err, refl, sym, ap, subst, arith, true≢false}
use Rattle.std.proofs.lemmas.List.{get_or-replicate, take_all}
use Rattle.std.specs.Prelude.{IsTrue, IsOk, OnOk, IfOk, IfErr, slice_range}
use Rattle.flash_model.specs.Chip.{Chip}
use Rattle.slot_journal.specs.Causes.{IsFormatCause, IsNotErased}
use Rattle.slot_journal.specs.Format.{IsErased}
use Rattle.slot_journal.specs.Headers.{IsTidy}
use Rattle.slot_journal.specs.declared.formatting.FormatFault.{FormatFault}
use Rattle.slot_journal.specs.declared.formatting.FormatFault.TheVariants as F
use Rattle.store_definitions.specs.Provisioning.{provisioned}
use Rattle.node_store.specs.Mounted.{IsRead}
use Rattle.node_store.specs.Provisioning.{provisioning}
use Rattle.node_store.specs.Tie.{IsExactly}
use Rattle.node_store.specs.View.{StoreView}
use Rattle.node_store.specs.declared.provision.Provision.{Provision}
use Rattle.node_file.specs.Making.{IsImageOf}

erased_to : (n : ℕ) (content : List ℕ) → content ≡ replicate n 255 → (o : ℕ) → o < n → get_or content o 0 ≡ 255
erased_to n content is o less = ap (λ (l : List ℕ). get_or l o 0) is ∙ get_or-replicate n o 255 0 less

pub erased_is : (content : List ℕ) → content ≡ replicate 65536 255 → IsErased content
erased_is content is = erased_to 65536 content is

-- an erased flash that doesn't fail isn't refused
pub not_refused : {T : Type 0} (r : Result T FormatFault) (old new : Chip) → IsErased old.now → IsTrue old.honest
    → IfErr r (IsFormatCause old new) → IfErr r IsNotErased → IsOk r
not_refused (Ok x) old new erased honest cause sure = refl
not_refused (Err F.Flash) old new erased honest cause sure = absurd sure
not_refused (Err (F.NotErased at)) old new erased honest cause sure =
    let first = cause.1 honest in
    absurd (first.written (erased at first.within))

pub if_ok : {T E : Type 0} (P : T → Type 0) (r : Result T E) → IsOk r → IfOk r P → (x : T) × P x
if_ok P (Ok x) is h = (x, h)
if_ok P (Err e) is h = absurd (true≢false (sym is))

pub on_ok : {T E : Type 0} (P : Type 0) (r : Result T E) → IsOk r → OnOk r P → P
on_ok P (Ok x) is h = h
on_ok P (Err e) is h = absurd (true≢false (sym is))

pub image_is : (p : Provision) (chip : Chip) (store : StoreView) (image : List ℕ) (n : ℕ) → n ≡ 65536
    → IsExactly chip store (provisioned (provisioning p)) → image ≡ slice_range chip.now 0 (0 + n) → IsImageOf p image
image_is p chip store image n size exact read =
    let whole : image ≡ chip.now = read ∙ take_all (0 + n - 0) chip.now (omega (arith, size, exact.journal.tidy.whole.size)) in
    record {
      tidy = subst IsTidy (sym whole) exact.journal.tidy;
      read = subst (λ l. IsRead l (provisioned (provisioning p))) (sym whole) exact.read;
    }
