-- Numbers and their octets, both ways.
use Rattle.std.proofs.Common.{◌≡◌, ℕ, zero, suc, ◌+◌, ◌*◌, ◌/◌, ◌%◌, ◌^◌, ◌<◌, ◌≤◌, Bool, true, false, List, [], ◌∷◌, length, refl, sym, ap, ◌∙◌, arith, lit<}
use Rattle.std.specs.Prelude.{◌==◌, if◌then◌else◌, slice_index}
use Rattle.std.proofs.Math.Arith.{mod-mul}
use Rattle.std.proofs.Math.Nat.{pow-succ', one-le-pow}
use Rattle.cipher_definitions.specs.Octets.{two_octets, three_octets, four_octets, octets_of, number_of}

-- octets of a number that they make
pub two_octets-of : (n a b : ℕ) → a < 256 → b < 256 → n ≡ a * 256 + b → two_octets n ≡ a ∷ b ∷ []
two_octets-of n a b ha hb e =
    let high : n / 256 % 256 ≡ a = omega arith in
    let low : n % 256 ≡ b = omega arith in
    rw (high, low) refl

pub three_octets-of : (n a b c : ℕ) → a < 256 → b < 256 → c < 256 → n ≡ a * 65536 + (b * 256 + c) → three_octets n ≡ a ∷ b ∷ c ∷ []
three_octets-of n a b c ha hb hc e =
    let high : n / 65536 % 256 ≡ a = omega arith in
    let middle : n / 256 % 256 ≡ b = omega arith in
    let low : n % 256 ≡ c = omega arith in
    rw (high, middle, low) refl

pub four_octets-of : (n a b c d : ℕ) → a < 256 → b < 256 → c < 256 → d < 256 → n ≡ a * 16777216 + (b * 65536 + (c * 256 + d)) → four_octets n ≡ a ∷ b ∷ c ∷ d ∷ []
four_octets-of n a b c d ha hb hc hd e =
    let first : n / 16777216 % 256 ≡ a = omega arith in
    let second : n / 65536 % 256 ≡ b = omega arith in
    let third : n / 256 % 256 ≡ c = omega arith in
    let fourth : n % 256 ≡ d = omega arith in
    rw (first, second, third, fourth) refl

-- of the octets of a number they make that number
pub two_back : (n : ℕ) → n < 2 ^ 16 → n / 256 % 256 * 256 + n % 256 ≡ n
two_back n h = omega arith

pub three_back : (n : ℕ) → n < 2 ^ 24 → n / 65536 % 256 * 65536 + (n / 256 % 256 * 256 + n % 256) ≡ n
three_back n h = omega arith

pub four_back : (n : ℕ) → n < 2 ^ 32 → (n / 16777216 % 256 * 256 + n / 65536 % 256) * 65536 + (n / 256 % 256 * 256 + n % 256) ≡ n
four_back n h = omega arith

pub bit_back : (b : Bool) → (if b then 1 else 0) == 1 ≡ b
bit_back true = refl
bit_back false = refl

pub length-octets_of : (k n : ℕ) → length (octets_of k n) ≡ k
unfolding octets_of
length-octets_of zero n = refl
length-octets_of (suc k) n = ap (λ m. suc m) (length-octets_of k n)

-- the number of the low k octets of a number is its remainder
pub number_of-octets_of : (k n : ℕ) → number_of (octets_of k n) ≡ n % 256 ^ k
unfolding octets_of number_of
number_of-octets_of zero n = sym (mod_one n)
  where
    mod_one : (m : ℕ) → m % 1 ≡ 0
    mod_one m = omega arith
number_of-octets_of (suc k) n =
    rw (length-octets_of k n, number_of-octets_of k n, pow-succ' 256 k) (sym (mod-mul n (lit< tt) (one-le-pow k 256 (lit< tt))))
