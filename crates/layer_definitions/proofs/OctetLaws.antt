-- Laws of octets that the texts of several layers share.
use Rattle.std.proofs.Common.{◌≡◌, ℕ, ◌+◌, ◌*◌, ◌/◌, ◌%◌, ◌^◌, ◌<◌, ◌≤◌, List, [], ◌∷◌, ◌++◌, length, take, drop, get_or, refl, sym, ap, ◌∙◌, arith}
use Rattle.std.proofs.lemmas.List.{length-take-le, take_at, drop_at}
use Rattle.std.proofs.lemmas.List.FromFn.{fill_by_all}
use Rattle.cipher_definitions.specs.Octets.{two_octets, three_octets, four_octets}
use Rattle.cipher_definitions.specs.Ccm.{ccm_mic, ccm_tag}
use Rattle.cipher_definitions.proofs.Lengths.{length-chained}
use Rattle.cipher_definitions.proofs.Sums.{length-xor_lists}

-- the front of a block is as long as is asked for
pub length-block_front : (n : ℕ) (block : List ℕ) → n ≤ 16 → length block ≡ 16 → length (take n block) ≡ n
length-block_front n block h e = length-take-le n block (omega (arith, h, e))

-- a MIC has as many octets as are asked for, up to a block
pub length-ccm_mic : (key nonce additional text : List ℕ) (n : ℕ) → n ≤ 16 → length (ccm_mic key nonce additional text n) ≡ n
unfolding ccm_mic ccm_tag
length-ccm_mic key nonce additional text n h = length-xor_lists _ _ ∙ length-block_front n _ h (length-chained key _ _ refl)

-- what stands before, and behind, a place of known length is determined by the whole
pub append_fronts : (xs ys zs ws : List ℕ) → length xs ≡ length zs → xs ++ ys ≡ zs ++ ws → xs ≡ zs
append_fronts xs ys zs ws e h =
    sym (take_at xs ys (length zs) e) ∙ ap (λ l. take (length zs) l) h ∙ take_at zs ws (length zs) refl

pub append_backs : (xs ys zs ws : List ℕ) → length xs ≡ length zs → xs ++ ys ≡ zs ++ ws → ys ≡ ws
append_backs xs ys zs ws e h =
    sym (drop_at xs ys (length zs) e) ∙ ap (λ l. drop (length zs) l) h ∙ drop_at zs ws (length zs) refl

-- six octets are the list of what is read at their places
pub six_octets : (h : List ℕ) → length h ≡ 6
    → h ≡ get_or h 0 0 ∷ get_or h 1 0 ∷ get_or h 2 0 ∷ get_or h 3 0 ∷ get_or h 4 0 ∷ get_or h 5 0 ∷ []
six_octets h e = fill_by_all (λ i. get_or h i 0) h 6 0 e (λ k below. refl)

-- a number of 24 bits is determined by what stands at its three octets
pub three_octets_once : (m n : ℕ) → m < 2 ^ 24 → n < 2 ^ 24
    → m / 65536 % 256 ≡ n / 65536 % 256 → m / 256 % 256 ≡ n / 256 % 256 → m % 256 ≡ n % 256 → m ≡ n
three_octets_once m n h k e f g = omega arith

-- numbers of 16 and of 24 bits are determined by their octets
pub two_octets-injective : (a b : ℕ) → a < 2 ^ 16 → b < 2 ^ 16 → two_octets a ≡ two_octets b → a ≡ b
two_octets-injective a b h k e =
    let high : a / 256 % 256 ≡ b / 256 % 256 = ap (λ l. get_or l 0 0) e in
    let low : a % 256 ≡ b % 256 = ap (λ l. get_or l 1 0) e in
    omega arith

pub three_octets-injective : (a b : ℕ) → a < 2 ^ 24 → b < 2 ^ 24 → three_octets a ≡ three_octets b → a ≡ b
three_octets-injective a b h k e =
    let high : a / 65536 % 256 ≡ b / 65536 % 256 = ap (λ l. get_or l 0 0) e in
    let middle : a / 256 % 256 ≡ b / 256 % 256 = ap (λ l. get_or l 1 0) e in
    let low : a % 256 ≡ b % 256 = ap (λ l. get_or l 2 0) e in
    omega arith
