-- A flash that is filled from its start on, sector by sector.
use Rattle.std.proofs.Common.{◌≡◌, ◌∙◌, ℕ, zero, suc, ◌+◌, ◌-◌, ◌<◌, ◌≤◌, List, [], ◌∷◌, ◌++◌, length, take, drop, replicate, get_or, refl, sym, ap, subst, arith}
use Rattle.std.proofs.Math.Seq.{take-add}
use Rattle.std.proofs.lemmas.List.{take_all, length-take-le}
use Rattle.std.proofs.lemmas.Nat.{and_comm, and_mask}
use Rattle.std.specs.Prelude.{IsTrue, bit_and, slice_range}
use Rattle.flash_model.specs.Chip.{Chip, IsDone, IsFresh}
use Rattle.flash_model.specs.Octets.{programmed}

pub programmed_none : (old : List ℕ) → old ≡ programmed 0 [] old
programmed_none [] = refl
programmed_none (x ∷ old) = refl

-- one range behind the other
programmed_more : (xs ys old : List ℕ) → programmed (length xs) ys (programmed 0 xs old) ≡ programmed 0 (xs ++ ys) old
programmed_more [] ys [] = refl
programmed_more [] ys (x ∷ old) = refl
programmed_more (b ∷ xs) ys [] = refl
programmed_more (b ∷ xs) ys (x ∷ old) = ap (λ l. bit_and x b ∷ l) (programmed_more xs ys old)

pub filled_more : (image old : List ℕ) (at n : ℕ) → at + n ≤ length image
    → programmed at (slice_range image at (at + n)) (programmed 0 (take at image) old) ≡ programmed 0 (take (at + n) image) old
filled_more image old at n within =
    let ys : List ℕ = slice_range image at (at + n) in
    let size : length (take at image) ≡ at = length-take-le at image (omega (arith, within)) in
    let width : at + n - at ≡ n = omega arith in
    let next : take at image ++ ys ≡ take (at + n) image = ap (λ (k : ℕ). take at image ++ take k (drop at image)) width ∙ sym (take-add at n image) in
    subst (λ (k : ℕ). programmed k ys (programmed 0 (take at image) old) ≡ programmed 0 (take at image ++ ys) old) size (programmed_more (take at image) ys old)
    ∙ ap (λ (l : List ℕ). programmed 0 l old) next

-- 255 has all bits
and_whole : (b : ℕ) → b < 256 → bit_and 255 b ≡ b
and_whole b fits = and_comm 255 b ∙ and_mask b 8 ∙ omega (arith, fits)

programmed_erased : (n : ℕ) (image : List ℕ) → length image ≡ n → ((i : ℕ) → get_or image i 0 < 256) → programmed 0 image (replicate n 255) ≡ image
programmed_erased zero [] size fits = refl
programmed_erased zero (b ∷ image) size fits = absurd (omega (arith, size))
programmed_erased (suc n) [] size fits = absurd (omega (arith, size))
programmed_erased (suc n) (b ∷ image) size fits =
    ap (λ (x : ℕ). x ∷ programmed 0 image (replicate n 255)) (and_whole b (fits 0)) ∙ ap (λ l. b ∷ l) (programmed_erased n image (omega (arith, size)) (λ i. fits (suc i)))

pub filled_whole : (n : ℕ) (image old : List ℕ) (at : ℕ) → n ≤ at → length image ≡ n → old ≡ replicate n 255 → ((i : ℕ) → get_or image i 0 < 256) → programmed 0 (take at image) old ≡ image
filled_whole n image old at end size erased fits =
    ap (λ (l : List ℕ). programmed 0 l old) (take_all at image (omega (arith, end, size))) ∙ ap (programmed 0 image) erased ∙ programmed_erased n image size fits

-- the one image, changed
pub fresh_changed : (change : List ℕ → List ℕ) (m m' : Chip) → IsFresh m → m'.honest ≡ m.honest → IsDone change m m' → IsFresh m'
fresh_changed change m m' fresh honest done = record {
  honest = subst IsTrue (sym honest) fresh.honest;
  only = λ c image. let d = done.durable c image in d.2 ∙ ap change (fresh.only d.0 d.1) ∙ sym done.reads;
}
