-- Columns as words: their sums, and what four octets add to one.
use Rattle.std.proofs.Common.{◌≡◌, ℕ, ◌/◌, ◌%◌, ◌^◌, List, [], ◌∷◌, ◌++◌, bit_xor, refl, ap, ◌∙◌}
use Rattle.std.specs.Int.{to_be_bytes, w32}
use Rattle.std.specs.Int.Bits.{xor_assoc}
use Rattle.std.proofs.lemmas.Nat.{xor_shr, xor_mod, xor_comm}
use Rattle.cipher_definitions.specs.Octets.{xor_lists}
use Rattle.cipher_definitions.specs.Aes.{times, mixed, turned_word, words_after, next_key}
use Rattle.aes_block.specs.Columns.{octets, mixed_rows, added_from_row_0, added_from_row_1, added_from_row_2, added_from_row_3}

-- lists that are the same piece by piece
pub cons_same : {x y : ℕ} {xs ys : List ℕ} → x ≡ y → xs ≡ ys → x ∷ xs ≡ y ∷ ys
cons_same {x = x} {ys = ys} e f = ap (λ zs. x ∷ zs) f ∙ ap (λ z. z ∷ ys) e

pub four_same : {k l m n p q r s : List ℕ} → k ≡ p → l ≡ q → m ≡ r → n ≡ s → k ++ l ++ m ++ n ≡ p ++ q ++ r ++ s
four_same {k = k} {l = l} {m = m} {q = q} {r = r} {s = s} a b c d =
    ap (λ x. k ++ l ++ m ++ x) d ∙ ap (λ x. k ++ l ++ x ++ s) c ∙ ap (λ x. k ++ x ++ r ++ s) b ∙ ap (λ x. x ++ q ++ r ++ s) a

pub sum_same : {k l m n : List ℕ} → k ≡ l → m ≡ n → xor_lists k m ≡ xor_lists l n
sum_same {k = k} {n = n} e f = ap (λ x. xor_lists k x) f ∙ ap (λ x. xor_lists x n) e

-- an octet of a sum is the sum of the octets
octet_of_sum : (x y k : ℕ) → bit_xor x y / 2 ^ k % 2 ^ 8 ≡ bit_xor (x / 2 ^ k % 2 ^ 8) (y / 2 ^ k % 2 ^ 8)
octet_of_sum x y k = ap (λ n. n % 2 ^ 8) (xor_shr x y k) ∙ xor_mod (x / 2 ^ k) (y / 2 ^ k) 8

-- the octets of a sum of words are the sums of their octets
pub sum_of_words : (x y : ℕ) → to_be_bytes w32 (bit_xor x y) ≡ xor_lists (to_be_bytes w32 x) (to_be_bytes w32 y)
unfolding xor_lists
sum_of_words x y =
    cons_same (octet_of_sum x y 24)
    (cons_same (octet_of_sum x y 16) (cons_same (octet_of_sum x y 8) (cons_same (xor_mod x y 8) refl)))

-- a sum in a circle
turn : (a b c d : ℕ) → bit_xor (bit_xor (bit_xor a b) c) d ≡ bit_xor (bit_xor (bit_xor b c) d) a
turn a b c d =
    ap (λ n. bit_xor n d) (xor_assoc a b c)
    ∙ xor_assoc a (bit_xor b c) d
    ∙ xor_comm a (bit_xor (bit_xor b c) d)

-- what four octets add, each from its row, is their mixed column
pub mixed_of_added : (p q r s : ℕ)
    → xor_lists (xor_lists (xor_lists (added_from_row_0 p) (added_from_row_1 q)) (added_from_row_2 r)) (added_from_row_3 s) ≡ mixed_rows p q r s
unfolding xor_lists mixed
mixed_of_added p q r s =
    cons_same refl
    (cons_same (turn p (times 2 q) (times 3 r) s)
    (cons_same (turn p q (times 2 r) (times 3 s) ∙ turn q (times 2 r) (times 3 s) p)
    (cons_same (turn (times 3 p) q r (times 2 s) ∙ turn q r (times 2 s) (times 3 p) ∙ turn r (times 2 s) (times 3 p) q) refl)))

-- and so is the sum of the words that they add
pub mixed_of_words : (a b c d p q r s : ℕ) → to_be_bytes w32 a ≡ added_from_row_0 p → to_be_bytes w32 b ≡ added_from_row_1 q
    → to_be_bytes w32 c ≡ added_from_row_2 r → to_be_bytes w32 d ≡ added_from_row_3 s
    → to_be_bytes w32 (bit_xor (bit_xor (bit_xor a b) c) d) ≡ mixed_rows p q r s
mixed_of_words a b c d p q r s ea eb ec ed =
    sum_of_words (bit_xor (bit_xor a b) c) d
    ∙ sum_same (sum_of_words (bit_xor a b) c ∙ sum_same (sum_of_words a b ∙ sum_same ea eb) ec) ed
    ∙ mixed_of_added p q r s

-- the words of a round key are those after the words of the one before it
pub next_words : (constant a b c d t : ℕ) → to_be_bytes w32 t ≡ turned_word constant (to_be_bytes w32 d)
    → to_be_bytes w32 (bit_xor a t)
    ++ to_be_bytes w32 (bit_xor b (bit_xor a t))
    ++ to_be_bytes w32 (bit_xor c (bit_xor b (bit_xor a t)))
    ++ to_be_bytes w32 (bit_xor d (bit_xor c (bit_xor b (bit_xor a t))))
    ≡ next_key constant (octets (a ∷ b ∷ c ∷ d ∷ []))
unfolding next_key words_after
next_words constant a b c d t e =
    let first = sum_of_words a t ∙ sum_same refl e in
    let second = sum_of_words b (bit_xor a t) ∙ sum_same refl first in
    let third = sum_of_words c (bit_xor b (bit_xor a t)) ∙ sum_same refl second in
    four_same first second third (sum_of_words d (bit_xor c (bit_xor b (bit_xor a t))) ∙ sum_same refl third)
