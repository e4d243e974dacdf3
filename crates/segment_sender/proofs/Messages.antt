-- Lists of messages and pieces.
use Rattle.std.proofs.Common.{◌≡◌, ℕ, ◌+◌, ◌/◌, ◌%◌, ◌^◌, ◌≤◌, ◌<◌, Bool, true, false, cond, List, [], ◌∷◌, ◌++◌, refl, sym, ap, subst, ◌∙◌, arith, Option, Some, None, zero, suc, add-one}
use Rattle.std.specs.Prelude.{◌==◌}
use Rattle.std.specs.List.{cons_option, filter_map, range_with_len}
use Rattle.std.specs.List.Retain.{RetainsInTurn}
use Rattle.std.proofs.Math.Nat.{div-eq_of_lt, pow-le-pow_right}
use Rattle.layer_states.specs.Sending.{has_bit}

-- one number more
range_suc : (a n : ℕ) → range_with_len a (suc n) ≡ range_with_len a n ++ (a + n) ∷ []
range_suc a zero = ap (λ x. x ∷ []) (omega arith)
range_suc a (suc n) =
    let next : a + 1 + n ≡ a + suc n = omega arith in
    ap (λ l. a ∷ l) (range_suc (a + 1) n ∙ ap (λ x. range_with_len (a + 1) n ++ x ∷ []) next)

pub range_more : (n : ℕ) → range_with_len 0 (n + 1) ≡ range_with_len 0 n ++ n ∷ []
range_more n =
    let last : 0 + n ≡ n = omega arith in
    ap (λ k. range_with_len 0 k) (add-one n) ∙ range_suc 0 n ∙ ap (λ x. range_with_len 0 n ++ x ∷ []) last

-- a number of 32 bits has no bit from bit 32 on
pub no_bit : (block i : ℕ) → block < 2 ^ 32 → 32 ≤ i → has_bit block i ≡ false
no_bit block i small high =
    let big : 2 ^ 32 ≤ 2 ^ i = pow-le-pow_right (omega arith) high in
    let none : block / 2 ^ i ≡ 0 = div-eq_of_lt (omega (arith, small, big)) in
    ap (λ n. n % 2 == 1) none

-- where calls change the elements and not the closure, `retain` leaves what they give
pub given-from_retain : {X F : Type 0} (R : F → X → Bool → F → X → Type 0) (given : X → Option X) (f : F)
    → ((x : X) (b : Bool) (f' : F) (y : X) → R f x b f' y → (given x ≡ cond b (Some y) None) × (f' ≡ f))
    → (xs ys : List X) → RetainsInTurn R f xs ys → ys ≡ filter_map given xs
given-from_retain R given f says [] ys h = h
given-from_retain {X = X} R given f says (x ∷ xs) ys h =
    let said = says x h.0 h.1 h.2 h.3 in
    let later = subst (λ g. RetainsInTurn R g xs h.4) said.1 h.5 in
    let rest : h.4 ≡ filter_map given xs = given-from_retain R given f says xs h.4 later in
    let step : (b : Bool) (y : X) (zs : List X) → cond b (y ∷ zs) zs ≡ cons_option (cond b (Some y) None) zs =
    λ b y zs. elim b as (λ b. cond b (y ∷ zs) zs ≡ cons_option (cond b (Some y) None) zs) [ true ↦ refl | false ↦ refl ] in
    h.6 ∙ step h.0 h.2 h.4 ∙ ap (λ o. cons_option o h.4) (sym said.0) ∙ ap (λ zs. cons_option (given x) zs) rest
