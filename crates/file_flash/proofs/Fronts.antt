-- The fronts of the writes that wait, and what a chip makes of them.
use mathlib.Core.Logic.{∥∥₁_map}
use Rattle.std.proofs.Common.{◌≡◌, ◌∙◌, ℕ, List, [], ◌∷◌, ◌++◌, Some, None, refl, sym, subst}
use Rattle.std.specs.Prelude.{Option}
use Rattle.flash_model.specs.Octets.{IsTorn}
use Rattle.file_flash.specs.Backing.{put_at}
use Rattle.file_flash.specs.Noted.{AreFronts, AreKinds, AreNoted, AreOnChip, MayBeCut, Put, and_put, on_chip, written}
use Rattle.file_flash.proofs.Tying.{none_some, some_is}

kinds_more : (puts : List Put) (put : Put) (old : List ℕ) → AreOnChip puts old
    → on_chip put.erase put.at put.octets (written puts old) ≡ put_at put.at put.octets (written puts old) → AreOnChip (puts ++ put ∷ []) old
kinds_more [] put old all is = (is, tt)
kinds_more (p ∷ puts) put old all is = (all.0, kinds_more puts put (put_at p.at p.octets old) all.1 is)

fronts_more : (puts : List Put) (put : Put) (old : List ℕ) (since : List ℕ → Type 0) → AreFronts puts old since
    → ((c : List ℕ) → IsTorn (written puts old) (put_at put.at put.octets (written puts old)) c → ∥ since c ∥₁) → AreFronts (puts ++ put ∷ []) old since
fronts_more [] put old since all torn = (torn, tt)
fronts_more (p ∷ puts) put old since all torn = (all.0, fronts_more puts put (put_at p.at p.octets old) since all.1 torn)

pub fronts_in : (puts : List Put) (old : List ℕ) (since wider : List ℕ → Type 0) → ((c : List ℕ) → since c → wider c) → AreFronts puts old since → AreFronts puts old wider
fronts_in [] old since wider all fronts = tt
fronts_in (p ∷ puts) old since wider all fronts = (λ c torn. ∥∥₁_map (fronts.0 c torn) (all c), fronts_in puts (put_at p.at p.octets old) since wider all fronts.1)

-- one write more
pub kinds_put : (put : Put) (saved now next : List ℕ) (old new : Option (List Put)) → new ≡ and_put put old → AreNoted old saved now
    → on_chip put.erase put.at put.octets now ≡ next → put_at put.at put.octets now ≡ next → AreKinds old saved → AreKinds new saved
kinds_put put saved now next None new is noted chip same h puts some = absurd (none_some puts (sym is ∙ some))
kinds_put put saved now next (Some before) new is noted chip same h puts some =
    let all = some_is (before ++ put ∷ []) puts (sym is ∙ some) in
    subst (λ (l : List Put). AreOnChip l saved) all (kinds_more before put saved (h before refl)
    (subst (λ (l : List ℕ). on_chip put.erase put.at put.octets l ≡ put_at put.at put.octets l) (sym (noted before refl)) (chip ∙ sym same)))

pub fronts_put : (put : Put) (saved now next : List ℕ) (since wider : List ℕ → Type 0) (old new : Option (List Put)) → new ≡ and_put put old
    → AreNoted old saved now → put_at put.at put.octets now ≡ next → ((c : List ℕ) → since c → wider c) → ((c : List ℕ) → IsTorn now next c → wider c)
    → MayBeCut old saved since → MayBeCut new saved wider
fronts_put put saved now next since wider None new is noted same all torn h puts some = absurd (none_some puts (sym is ∙ some))
fronts_put put saved now next since wider (Some before) new is noted same all torn h puts some =
    let whole = some_is (before ++ put ∷ []) puts (sym is ∙ some) in
    subst (λ (l : List Put). AreFronts l saved wider) whole (fronts_more before put saved wider (fronts_in before saved since wider all (h before refl))
    (subst (λ (l : List ℕ). (c : List ℕ) → IsTorn l (put_at put.at put.octets l) c → ∥ wider c ∥₁) (sym (noted before refl))
    (subst (λ (l : List ℕ). (c : List ℕ) → IsTorn now l c → ∥ wider c ∥₁) (sym same) (λ c h. ∣ torn c h ∣₁))))

-- none more
pub kinds_same : (saved : List ℕ) (old new : Option (List Put)) → new ≡ old → AreKinds old saved → AreKinds new saved
kinds_same saved old new is h puts some = h puts (sym is ∙ some)

pub fronts_same : (saved : List ℕ) (since wider : List ℕ → Type 0) (old new : Option (List Put)) → new ≡ old → ((c : List ℕ) → since c → wider c)
    → MayBeCut old saved since → MayBeCut new saved wider
fronts_same saved since wider old new is all h puts some = fronts_in puts saved since wider all (h puts (sym is ∙ some))

-- none at all
pub kinds_none : (saved : List ℕ) (waiting : Option (List Put)) → ((puts : List Put) → waiting ≡ Some puts → puts ≡ []) → AreKinds waiting saved
kinds_none saved waiting none puts some = subst (λ (l : List Put). AreOnChip l saved) (sym (none puts some)) tt

pub fronts_none : (saved : List ℕ) (since : List ℕ → Type 0) (waiting : Option (List Put)) → ((puts : List Put) → waiting ≡ Some puts → puts ≡ []) → MayBeCut waiting saved since
fronts_none saved since waiting none puts some = subst (λ (l : List Put). AreFronts l saved since) (sym (none puts some)) tt
