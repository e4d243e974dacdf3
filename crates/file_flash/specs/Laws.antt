-- Why a flash over a mirror and a place keeps the laws of one.
use mathlib.Core.HLevel.{×_prop, Π_prop, Unit-prop}
use mathlib.Core.Logic.{∥∥₁_prop}
use Rattle.std.specs.Prelude.{◌≡◌, ℕ, zero, suc, ◌≤◌, Bool, List, [], ◌∷◌, Option, length}
use Rattle.std.proofs.Props.{props}
use Rattle.std.proofs.Common.{refl, subst, inl, inr, ⊎_elim}
use Rattle.flash_model.specs.Chip.{Chip}
use Rattle.flash_model.specs.Octets.{IsContent}
use Rattle.flash_model.proofs.Mixed.{torn_content}
use Rattle.file_flash.specs.declared.saved.Call.{Call}
use Rattle.file_flash.specs.declared.saved.Saved.{Saved}
use Rattle.file_flash.specs.Backed.{IsTimed, TornSince, backed_chip, time_at}
use Rattle.file_flash.specs.Backing.{put_at}
use Rattle.file_flash.specs.Noted.{AreFronts, AreKinds, AreOnChip, MayBeCut, Put}

time_now : (calls : List Call) (now : ℕ) → time_at calls now (length calls) ≡ now
time_now [] now = refl
time_now (call ∷ calls) now = time_now calls now

none_torn : (calls : List Call) (c : List ℕ) → TornSince calls (length calls) c → ⊥
none_torn [] c none = none
none_torn (call ∷ calls) c torn = none_torn calls c torn

pub content_law : (mirror goal : Chip) (failed : Bool) (saved : Saved) (t : ℕ) (c : List ℕ) → IsTimed saved mirror.moment
    → ((t : ℕ) (c : List ℕ) → mirror.since t c → IsContent c) → IsContent mirror.now → IsContent goal.now
    → (backed_chip mirror goal failed saved).since t c → IsContent c
content_law mirror goal failed saved t c timed before old new since =
    ⊎_elim (λ s. ⊎_elim (λ h. before (time_at saved.calls mirror.moment t) c h) (λ rest. torn_content mirror.now goal.now c old new rest.1) s) (λ torn. timed.contents t c torn) since

pub only_now_law : (mirror goal : Chip) (failed : Bool) (saved : Saved) (c : List ℕ)
    → (mirror.since mirror.moment c → mirror.images c)
    → (backed_chip mirror goal failed saved).since (length saved.calls) c → (backed_chip mirror goal failed saved).images c
only_now_law mirror goal failed saved c only since =
    ⊎_elim
    (λ s. ⊎_elim (λ h. inl (only (subst (λ (t : ℕ). mirror.since t c) (time_now saved.calls mirror.moment) h))) (λ rest. inr rest) s)
    (λ torn. absurd (none_torn saved.calls c torn))
    since

pub counts_now_law : (mirror goal : Chip) (failed : Bool) (saved : Saved) (t : ℕ) (c : List ℕ)
    → (mirror.images c → mirror.since (time_at saved.calls mirror.moment t) c)
    → (backed_chip mirror goal failed saved).images c → (backed_chip mirror goal failed saved).since t c
counts_now_law mirror goal failed saved t c counts image = inl (⊎_elim (λ h. inl (counts h)) (λ rest. inr rest) image)

-- ---- what is said of the writes that wait has one proof at most
on_chip_prop : (puts : List Put) (old : List ℕ) → IsProp (AreOnChip puts old)
on_chip_prop [] old = Unit-prop
on_chip_prop (p ∷ puts) old = ×_prop (Prim.hlevel props) (on_chip_prop puts (put_at p.at p.octets old))

fronts_prop : (puts : List Put) (old : List ℕ) (since : List ℕ → Type 0) → IsProp (AreFronts puts old since)
fronts_prop [] old since = Unit-prop
fronts_prop (p ∷ puts) old since = ×_prop (Π_prop (λ c. Π_prop (λ torn. ∥∥₁_prop))) (fronts_prop puts (put_at p.at p.octets old) since)

pub kinds_prop : (waiting : Option (List Put)) (saved : List ℕ) → IsProp (AreKinds waiting saved)
kinds_prop waiting saved = Π_prop (λ puts. Π_prop (λ some. on_chip_prop puts saved))

pub cut_prop : (waiting : Option (List Put)) (saved : List ℕ) (since : List ℕ → Type 0) → IsProp (MayBeCut waiting saved since)
cut_prop waiting saved since = Π_prop (λ puts. Π_prop (λ some. fronts_prop puts saved since))
