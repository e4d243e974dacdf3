-- Laws of the sum of two lists of octets.
use Rattle.std.proofs.Common.{◌≡◌, ℕ, suc, ◌+◌, ◌<◌, ◌≤◌, List, [], ◌∷◌, ◌++◌, length, get_or, set, take, drop, bit_xor, refl, ap, sym, ◌∙◌, arith, append_assoc}
use Rattle.std.specs.Int.Bits.{xor_self, xor_zero_r, xor_assoc}
use Rattle.std.proofs.lemmas.List.{take_more_set, drop-set-lt, at_drop_more, take_all, drop_all, append-nil}
use Rattle.cipher_definitions.specs.Octets.{xor_lists}

-- a sum has the length of its first list
pub length-xor_lists : (xs ys : List ℕ) → length (xor_lists xs ys) ≡ length xs
unfolding xor_lists
length-xor_lists [] ys = refl
length-xor_lists (x ∷ xs) [] = refl
length-xor_lists (x ∷ xs) (y ∷ ys) = ap (λ n. suc n) (length-xor_lists xs ys)

-- an octet added twice is gone
xor_twice : (a b : ℕ) → bit_xor (bit_xor a b) b ≡ a
xor_twice a b = xor_assoc a b b ∙ ap (λ n. bit_xor a n) (xor_self b) ∙ xor_zero_r a

-- a list added twice is gone
pub xor_lists_twice : (xs ys : List ℕ) → xor_lists (xor_lists xs ys) ys ≡ xs
unfolding xor_lists
xor_lists_twice [] ys = refl
xor_lists_twice (x ∷ xs) [] = refl
xor_lists_twice (x ∷ xs) (y ∷ ys) = rw (xor_twice x y) (ap (λ zs. x ∷ zs) (xor_lists_twice xs ys))

-- A loop that adds a second list to the first, element by element, goes through the first i
-- elements: one more of them, and all of them.
pub xor_lists_turn : (xs ys : List ℕ) (i : ℕ) → i < length xs → i < length ys
    → take (i + 1) (set xs i (bit_xor (get_or xs i 0) (get_or ys i 0))) ++ xor_lists (drop (i + 1) (set xs i (bit_xor (get_or xs i 0) (get_or ys i 0)))) (drop (i + 1) ys)
    ≡ take i xs ++ xor_lists (drop i xs) (drop i ys)
unfolding xor_lists
xor_lists_turn xs ys i h k =
    let y = bit_xor (get_or xs i 0) (get_or ys i 0) in
    let step : i < i + 1 = omega arith in
    rw (take_more_set xs i y h, drop-set-lt (i + 1) xs i y step, append_assoc)
    (ap (λ zs. take i xs ++ zs)
    (sym (at_drop_more (λ zs. xor_lists zs (drop i ys)) xs i 0 h ∙ at_drop_more (λ zs. xor_lists (get_or xs i 0 ∷ drop (i + 1) xs) zs) ys i 0 k)))

pub xor_lists_end : (xs ys : List ℕ) (i : ℕ) → length xs ≤ i → take i xs ++ xor_lists (drop i xs) ys ≡ xs
unfolding xor_lists
xor_lists_end xs ys i h = rw (drop_all i xs h, take_all i xs h) (append-nil xs)

-- a sum with two lists, one after the other
pub xor_lists_append : (xs ys zs : List ℕ)
    → xor_lists xs (ys ++ zs) ≡ xor_lists (take (length ys) xs) ys ++ xor_lists (drop (length ys) xs) zs
unfolding xor_lists
xor_lists_append xs [] zs = refl
xor_lists_append [] (y ∷ ys) zs = refl
xor_lists_append (x ∷ xs) (y ∷ ys) zs = ap (λ ws. bit_xor x y ∷ ws) (xor_lists_append xs ys zs)
