-- The order of pairs is that of their words, and what is newer or expired stays so.
use Rattle.std.proofs.Common.{◌≡◌, ℕ, ◌<◌, ◌≤◌, ◌⊎◌, true, false, ap₂, arith}
use Rattle.std.proofs.lemmas.Bool.Decides.{nat_tests}
use Rattle.mesh_base.specs.declared.pair.Pair.{Pair}
use Rattle.mesh_base.specs.Pairs.{word_of, pair_of, IsPair, is_newer, newer_of, is_expired}

-- pairs with equal fields are equal
pub pairs_equal : (p q : Pair) → p.iv ≡ q.iv → p.seq ≡ q.seq → p ≡ q
pairs_equal p q e f = ap₂ (λ (i s : ℕ). let r : Pair = record { iv = i; seq = s } in r) e f

-- Words.

-- each number is the word of its pair
pub word-pair_of : (w : ℕ) → word_of (pair_of w) ≡ w
word-pair_of w = omega arith

-- within widths no two pairs have one word
pub words_differ : (p q : Pair) → IsPair p → IsPair q → word_of p ≡ word_of q → p ≡ q
words_differ p q (_, hp) (_, hq) e = pairs_equal p q (omega (arith, hp, hq, e)) (omega (arith, hp, hq, e))

-- within widths a pair is newer exactly where its word is above
pub word_above : (p q : Pair) → IsPair p → IsPair q → is_newer p q ≡ true → word_of q < word_of p
word_above p q (_, hp) (_, hq) h = grind (arith, nat_tests)

pub above_word : (p q : Pair) → IsPair p → IsPair q → word_of q < word_of p → is_newer p q ≡ true
above_word p q (_, hp) (_, hq) h = grind (arith, nat_tests)

pub word_up_to : (p q : Pair) → IsPair p → IsPair q → is_newer p q ≡ false → word_of p ≤ word_of q
word_up_to p q (_, hp) (_, hq) h = grind (arith, nat_tests)

-- Order.

-- what isn't newer than a pair is that pair or below it
pub up_to : (p q : Pair) → is_newer p q ≡ false → (p.iv < q.iv) ⊎ ((p.iv ≡ q.iv) × (p.seq ≤ q.seq))
up_to p q h = grind (arith, nat_tests)

pub not_newer : (p q : Pair) → (p.iv < q.iv) ⊎ ((p.iv ≡ q.iv) × (p.seq ≤ q.seq)) → is_newer p q ≡ false
not_newer p q h = grind (arith, nat_tests)

pub not_newer_itself : (p : Pair) → is_newer p p ≡ false
not_newer_itself p = grind (arith, nat_tests)

pub newer_later : (p q r : Pair) → is_newer p q ≡ true → is_newer q r ≡ true → is_newer p r ≡ true
newer_later p q r h k = grind (arith, nat_tests)

pub not_newer_later : (p q r : Pair) → is_newer p q ≡ false → is_newer q r ≡ false → is_newer p r ≡ false
not_newer_later p q r h k = grind (arith, nat_tests)

-- of two pairs that aren't newer than one another there is one
pub not_newer_both : (p q : Pair) → is_newer p q ≡ false → is_newer q p ≡ false → p ≡ q
not_newer_both p q h k = pairs_equal p q (grind (arith, nat_tests)) (grind (arith, nat_tests))

-- what isn't newer than a pair isn't newer than the newer one of it and another
pub not_newer_left : (n p q : Pair) → is_newer n p ≡ false → is_newer n (newer_of p q) ≡ false
not_newer_left n p q h = grind (arith, nat_tests)

pub not_newer_right : (p q : Pair) → is_newer q (newer_of p q) ≡ false
not_newer_right p q = grind (arith, nat_tests)

-- Expiry.

-- what isn't newer than an expired pair is expired
pub expired_below : (c : ℕ) (n p : Pair) → is_newer n p ≡ false → is_expired c p ≡ true → is_expired c n ≡ true
expired_below c n p h k = grind (arith, nat_tests)

-- what is expired stays so
pub expired_later : (c d : ℕ) (n : Pair) → c ≤ d → is_expired c n ≡ true → is_expired d n ≡ true
expired_later c d n h k = grind (arith, nat_tests)
