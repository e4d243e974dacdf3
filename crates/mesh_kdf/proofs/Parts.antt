-- The parts of the numbers that k2, k3 and k4 take, as octets of the results of AES-CMAC that make these numbers.
use Rattle.std.proofs.Common.{◌≡◌, ℕ, suc, ◌+◌, ◌*◌, ◌/◌, ◌%◌, ◌^◌, ◌<◌, List, [], ◌∷◌, ◌++◌, length, get_or, take, drop, refl, ap, ◌∙◌, sym, arith, length-drop}
use Rattle.std.proofs.lemmas.List.{get_or-drop, take-append-drop}
use Rattle.std.proofs.lemmas.Nat.{div-mul-add, field_of, shr-shr}
use Rattle.std.proofs.Math.Nat.{pow-succ', mul_assoc, mul_comm, mul-add-mod_self_right}
use Rattle.cipher_definitions.specs.Octets.{octets_of, number_of}
use Rattle.mesh_kdf.proofs.Numbers.{AreOctets, number_of-append, number_of-below, octets_of-high, octets_of-number_of, octets_of-mod}

turned : (x c d p : ℕ) → x * (c * d * p) ≡ x * c * p * d
turned x c d p = rw (mul_assoc c d p, mul_comm d p, ← mul_assoc c p d, ← mul_assoc x (c * p) d, ← mul_assoc x c p) refl

-- The lowest bits of the number of octets are those of the last octet.
pub last_bits : (c d : ℕ) (xs : List ℕ) (n : ℕ) → 256 ≡ c * d → length xs ≡ suc n → number_of xs % d ≡ get_or xs n 0 % d
unfolding number_of
last_bits c d [] n e h = cc
last_bits c d (x ∷ []) n e h =
    let k : n ≡ 0 = omega arith in
    let s : x * 1 + 0 ≡ x = omega arith in
    rw (k, s) refl
last_bits c d (x ∷ y ∷ ys) n e h =
    let k : n ≡ suc (length ys) = omega arith in
    let i : number_of (y ∷ ys) % d ≡ get_or (y ∷ ys) (length ys) 0 % d = last_bits c d (y ∷ ys) (length ys) e refl in
    let p : x * 256 ^ suc (length ys) ≡ x * c * 256 ^ length ys * d = rw (pow-succ' 256 (length ys)) (ap (λ w. x * (w * 256 ^ length ys)) e ∙ turned x c d (256 ^ length ys)) in
    rw (k, p, mul-add-mod_self_right (x * c * 256 ^ length ys) d (number_of (y ∷ ys))) i

-- three results of 16 octets as one number
pub record Three (t u v : List ℕ) : Type 0 where
  pub first : AreOctets t
  pub second : AreOctets u
  pub third : AreOctets v
  pub first_length : length t ≡ 16
  pub second_length : length u ≡ 16
  pub third_length : length v ≡ 16

module _ (t u v : List ℕ) (h : Three t u v) where
  below_16 : (xs : List ℕ) → AreOctets xs → length xs ≡ 16 → number_of xs < 256 ^ 16
  below_16 xs a l = rw l at (number_of-below xs a)

  octets_16 : (xs : List ℕ) → AreOctets xs → length xs ≡ 16 → octets_of 16 (number_of xs) ≡ xs
  octets_16 xs a l = rw l at (octets_of-number_of xs a)

  upper : number_of (t ++ u) ≡ number_of t * 256 ^ 16 + number_of u
  upper = number_of-append t u ∙ ap (λ n. number_of t * 256 ^ n + number_of u) h.second_length

  whole : number_of (t ++ u ++ v) ≡ number_of (t ++ u) * 256 ^ 16 + number_of v
  whole = number_of-append (t ++ u) v ∙ ap (λ n. number_of (t ++ u) * 256 ^ n + number_of v) h.third_length

  above_third : number_of (t ++ u ++ v) / 2 ^ 128 ≡ number_of (t ++ u)
  above_third = rw whole (div-mul-add (number_of (t ++ u)) (256 ^ 16) (number_of v) (below_16 v h.third h.third_length))

  above_second : number_of (t ++ u) / 2 ^ 128 ≡ number_of t
  above_second = rw upper (div-mul-add (number_of t) (256 ^ 16) (number_of u) (below_16 u h.second h.second_length))

  pub third_part : octets_of 16 (number_of (t ++ u ++ v) % 2 ^ 263) ≡ v
  third_part =
      octets_of-mod 16 (2 ^ 135) (number_of (t ++ u ++ v)) ∙ ap (octets_of 16) whole
      ∙ octets_of-high 16 (number_of (t ++ u)) (number_of v) ∙ octets_16 v h.third h.third_length

  pub second_part : octets_of 16 (number_of (t ++ u ++ v) % 2 ^ 263 / 2 ^ 128) ≡ u
  second_part =
      ap (octets_of 16) (field_of (number_of (t ++ u ++ v)) 135 128 ∙ ap (λ n. n % 2 ^ 135) above_third)
      ∙ octets_of-mod 16 (2 ^ 7) (number_of (t ++ u)) ∙ ap (octets_of 16) upper
      ∙ octets_of-high 16 (number_of t) (number_of u) ∙ octets_16 u h.second h.second_length

  pub first_part : number_of (t ++ u ++ v) % 2 ^ 263 / 2 ^ 256 ≡ get_or t 15 0 % 128
  first_part =
      field_of (number_of (t ++ u ++ v)) 7 256
      ∙ ap (λ n. n % 2 ^ 7) (sym (shr-shr (number_of (t ++ u ++ v)) 128 128) ∙ ap (λ n. n / 2 ^ 128) above_third ∙ above_second)
      ∙ last_bits 2 128 t 15 refl h.first_length

-- octets stay octets behind a front
drop_octets : (n : ℕ) (xs : List ℕ) → AreOctets xs → AreOctets (drop n xs)
drop_octets n xs h = record { each = λ i. rw (get_or-drop n xs i 0) (h.each (n + i)) }

-- the last eight of the 16 octets of a result
pub last_eight : (t : List ℕ) → AreOctets t → length t ≡ 16 → octets_of 8 (number_of t % 2 ^ 64) ≡ drop 8 t
last_eight t h l =
    let e : take 8 t ++ drop 8 t ≡ t = take-append-drop 8 t in
    let k : length (drop 8 t) ≡ 8 = omega (arith, length-drop 8 t) in
    let n : number_of t ≡ number_of (take 8 t) * 256 ^ 8 + number_of (drop 8 t) =
    ap number_of (sym e) ∙ number_of-append (take 8 t) (drop 8 t) ∙ ap (λ i. number_of (take 8 t) * 256 ^ i + number_of (drop 8 t)) k in
    octets_of-mod 8 1 (number_of t) ∙ ap (octets_of 8) n ∙ octets_of-high 8 (number_of (take 8 t)) (number_of (drop 8 t))
    ∙ ap (λ i. octets_of i (number_of (drop 8 t))) (sym k) ∙ octets_of-number_of (drop 8 t) (drop_octets 8 t h)

-- The lowest 14 bits of the number of octets are those of the last two octets.
pub last_14 : (xs : List ℕ) (n : ℕ) → length xs ≡ suc (suc n) → number_of xs % 16384 ≡ (get_or xs n 0 * 256 + get_or xs (suc n) 0) % 16384
unfolding number_of
last_14 [] n h = cc
last_14 (x ∷ []) n h = absurd (omega (arith, h))
last_14 (x ∷ y ∷ []) n h =
    let k : n ≡ 0 = omega (arith, h) in
    let s : x * 256 + (y * 1 + 0) ≡ x * 256 + y = omega arith in
    rw (k, s) refl
last_14 (x ∷ y ∷ z ∷ zs) n h =
    let k : n ≡ suc (length zs) = omega (arith, h) in
    let i : number_of (y ∷ z ∷ zs) % 16384 ≡ (get_or (y ∷ z ∷ zs) (length zs) 0 * 256 + get_or (y ∷ z ∷ zs) (suc (length zs)) 0) % 16384 =
    last_14 (y ∷ z ∷ zs) (length zs) refl in
    let p : x * 256 ^ suc (suc (length zs)) ≡ x * 4 * 256 ^ length zs * 16384 =
    rw (pow-succ' 256 (suc (length zs)), pow-succ' 256 (length zs)) (omega arith) in
    rw (k, p, mul-add-mod_self_right (x * 4 * 256 ^ length zs) 16384 (number_of (y ∷ z ∷ zs))) i
