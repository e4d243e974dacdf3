-- Lengths of numbers of two octets, and one element more.
use Rattle.std.proofs.Common.{◌≡◌, ℕ, zero, suc, ◌+◌, ◌*◌, ◌<◌, ◌≤◌, List, [], ◌∷◌, ◌++◌, length, take, replicate, refl, ap, arith, add-one}
use Rattle.std.proofs.lemmas.List.{length-take}
use Rattle.std.specs.List.{flat_map}
use Rattle.model_states.specs.Access.{two_low_first, element_text, elements_text, generic_servers}

pub length-lows : (numbers : List ℕ) → length (flat_map two_low_first numbers) ≡ 2 * length numbers
length-lows [] = refl
length-lows (n ∷ rest) = omega (arith, length-lows rest)

pub length-lows-taken : (numbers : List ℕ) (i : ℕ) → i < length numbers → length (flat_map two_low_first (take i numbers)) ≡ 2 * i
length-lows-taken numbers i h = omega (arith, length-lows (take i numbers), length-take i numbers)

-- an element more at the end of equal ones
repeated_more : (n : ℕ) → flat_map element_text (replicate (suc n) generic_servers) ≡ flat_map element_text (replicate n generic_servers) ++ element_text generic_servers
repeated_more zero = refl
repeated_more (suc n) = ap (λ t. element_text generic_servers ++ t) (repeated_more n)

pub elements_more : (n : ℕ) → elements_text (suc (suc n)) ≡ elements_text (suc n) ++ element_text generic_servers
elements_more n = ap (λ t. element_text (0 ∷ generic_servers) ++ t) (repeated_more n)

length-others : (n : ℕ) → length (flat_map element_text (replicate n generic_servers)) ≡ 8 * n
length-others zero = refl
length-others (suc n) = omega (arith, length-others n)

pub length-elements : (n : ℕ) → length (elements_text (suc n)) ≡ 10 + 8 * n
length-elements n = omega (arith, length-others n)

pub next_element : (n : ℕ) → 1 ≤ n → elements_text (n + 1) ≡ elements_text n ++ element_text generic_servers
next_element zero h = absurd (omega (arith, h))
next_element (suc n) h = rw add-one (elements_more n)

pub elements-room : (n : ℕ) → 1 ≤ n → n < 4 → length (elements_text n) ≤ 26
elements-room zero h k = omega (arith, h)
elements-room (suc n) h k = omega (arith, length-elements n)

pub elements-most : (n : ℕ) → 1 ≤ n → n ≤ 4 → length (elements_text n) ≤ 34
elements-most zero h k = absurd (omega (arith, h))
elements-most (suc n) h k = omega (arith, length-elements n)
