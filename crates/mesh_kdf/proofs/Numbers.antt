-- Laws of the number that octets make, and of the octets of a number.
use Rattle.std.proofs.Common.{◌≡◌, ℕ, zero, suc, ◌+◌, ◌*◌, ◌/◌, ◌%◌, ◌^◌, ◌<◌, List, [], ◌∷◌, ◌++◌, length, get_or, refl, ap, ◌∙◌, sym, arith, length-append, lit<}
use Rattle.std.proofs.lemmas.Nat.{pow-add, mul-add-lt, div-mul-add, div-add-mod'}
use Rattle.std.proofs.Math.Nat.{pow-succ', mul_assoc, add-mul, mul_comm, add_assoc, one-le-pow, mul-add-div_right, mul-add-mod_self_right, mod-eq_of_lt}
use Rattle.cipher_definitions.specs.Octets.{octets_of, number_of}

-- each number of a list is an octet
pub record AreOctets (xs : List ℕ) : Type 0 where
  pub each : (i : ℕ) → get_or xs i 0 < 256

pub tail_octets : (x : ℕ) (xs : List ℕ) → AreOctets (x ∷ xs) → AreOctets xs
tail_octets x xs h = record { each = λ i. h.each (suc i) }

regrouped : (x p q n m : ℕ) → x * (p * q) + (n * q + m) ≡ (x * p + n) * q + m
regrouped x p q n m = rw (add-mul (x * p) n q, mul_assoc x p q) (sym (add_assoc (x * (p * q)) (n * q) m))

-- the number of two lists, one behind the other
pub number_of-append : (xs ys : List ℕ) → number_of (xs ++ ys) ≡ number_of xs * 256 ^ length ys + number_of ys
unfolding number_of
number_of-append [] ys = omega arith
number_of-append (x ∷ xs) ys =
    rw (length-append xs ys, pow-add 256 (length xs) (length ys), number_of-append xs ys) (regrouped x (256 ^ length xs) (256 ^ length ys) (number_of xs) (number_of ys))

-- the number of n octets is below 256^n
pub number_of-below : (xs : List ℕ) → AreOctets xs → number_of xs < 256 ^ length xs
unfolding number_of
number_of-below [] h = lit< tt
number_of-below (x ∷ xs) h =
    let p : x < 256 = h.each 0 in
    let q : number_of xs < 256 ^ length xs = number_of-below xs (tail_octets x xs h) in
    rw (pow-succ' 256 (length xs), mul_comm 256 (256 ^ length xs)) (mul-add-lt x (256 ^ length xs) (number_of xs) 256 p q)

positive : (n : ℕ) → 0 < 256 ^ n
positive n = one-le-pow n 256 (lit< tt)

high_octet : (p a b : ℕ) → 0 < p → (a * 256 * p + b) / p % 256 ≡ b / p % 256
high_octet p a b h = rw (mul-add-div_right h (a * 256) b) (mul-add-mod_self_right a 256 (b / p))

moved : (a n b : ℕ) → a * 256 ^ suc n + b ≡ a * 256 * 256 ^ n + b
moved a n b = rw (pow-succ' 256 n, mul_assoc a 256 (256 ^ n)) refl

-- what stands above the low n octets doesn't count for them
pub octets_of-high : (n a b : ℕ) → octets_of n (a * 256 ^ n + b) ≡ octets_of n b
unfolding octets_of
octets_of-high zero a b = refl
octets_of-high (suc n) a b =
    rw (moved a n b, high_octet (256 ^ n) a b (positive n), octets_of-high n (a * 256) b) refl

-- the octets of the number that octets make are these octets
pub octets_of-number_of : (xs : List ℕ) → AreOctets xs → octets_of (length xs) (number_of xs) ≡ xs
unfolding octets_of number_of
octets_of-number_of [] h = refl
octets_of-number_of (x ∷ xs) h =
    let p : x < 256 = h.each 0 in
    let rest : AreOctets xs = tail_octets x xs h in
    let q : number_of xs < 256 ^ length xs = number_of-below xs rest in
    rw (div-mul-add x (256 ^ length xs) (number_of xs) q, mod-eq_of_lt p, octets_of-high (length xs) x (number_of xs), octets_of-number_of xs rest) refl

-- the low n octets of a remainder by a multiple of 256^n
pub octets_of-mod : (n c x : ℕ) → octets_of n (x % (c * 256 ^ n)) ≡ octets_of n x
octets_of-mod n c x =
    let e : x / (c * 256 ^ n) * c * 256 ^ n + x % (c * 256 ^ n) ≡ x = rw (mul_assoc (x / (c * 256 ^ n)) c (256 ^ n)) (div-add-mod' x (c * 256 ^ n)) in
    sym (octets_of-high n (x / (c * 256 ^ n) * c) (x % (c * 256 ^ n))) ∙ ap (octets_of n) e
