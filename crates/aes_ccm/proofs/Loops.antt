-- The loops that chain blocks and that add the key stream: one turn more.
use Rattle.std.proofs.Common.{◌≡◌, ℕ, ◌+◌, ◌-◌, ◌<◌, ◌≤◌, min, List, [], ◌∷◌, ◌++◌, length, take, drop, replicate, eqb, false, refl, ap, sym, ◌∙◌, arith, append_assoc, length-drop}
use Rattle.std.proofs.lemmas.List.{take_min, drop_min, drop-drop, length-take-le}
use Rattle.std.proofs.lemmas.Bool.{ne_eqb}
use Rattle.std.proofs.lemmas.Slice.{take-put_mid, drop-put_mid}
use borrow.Rule.Slice.PartMut.{put_mid}
use Rattle.cipher_definitions.specs.Octets.{two_octets, xor_lists, block_count, whole_block, whole_blocks}
use Rattle.cipher_definitions.specs.Aes.{aes, chained}
use Rattle.cipher_definitions.specs.Ccm.{first_block, additional_blocks, ccm_tag, counter_block, stream}
use Rattle.cipher_definitions.proofs.Sums.{length-xor_lists}
use Rattle.cipher_definitions.proofs.Blocks.{whole_blocks_turn, whole_blocks_empty, chained_append, stream_turn}

-- one block more is chained
pub chain_turn : (key x m : List ℕ) → 0 < length m
    → chained key (aes key (xor_lists x (whole_block (take 16 m)))) (whole_blocks (drop 16 m)) ≡ chained key x (whole_blocks m)
unfolding chained
chain_turn key x m h = rw (whole_blocks_turn m h) refl

-- no block is left
pub chain_end : (key x m : List ℕ) → length m ≤ 0 → chained key x (whole_blocks m) ≡ x
unfolding chained
chain_end key x [] h = rw whole_blocks_empty refl
chain_end key x (y ∷ ys) h = absurd (omega arith)

-- the first block of additional data is chained
pub additional_turn : (key x a : List ℕ) → 0 < length a
    → chained key (aes key (xor_lists x (whole_block (two_octets (length a) ++ take 14 a)))) (whole_blocks (drop 14 a)) ≡ chained key x (additional_blocks a)
unfolding additional_blocks
additional_turn key x a h =
    let some : eqb (length a) 0 ≡ false = ne_eqb (length a) 0 (λ e. omega arith) in
    rw some (chain_turn key x (two_octets (length a) ++ a) (omega arith))

-- there is no additional data
pub additional_none : (key x a : List ℕ) → length a ≡ 0 → x ≡ chained key x (additional_blocks a)
unfolding chained additional_blocks
additional_none key x a h = rw h refl

-- the chaining of the first block, of additional data and of a text gives T
pub tag_is : (key nonce additional text : List ℕ) (mic_length : ℕ)
    → take mic_length (chained key (chained key (aes key (xor_lists (replicate 16 0) (first_block nonce additional (length text) mic_length))) (additional_blocks additional)) (whole_blocks text))
    ≡ ccm_tag key nonce additional text mic_length
unfolding ccm_tag chained
tag_is key nonce additional text mic_length =
    ap (λ x. take mic_length x)
    (sym (chained_append key (aes key (xor_lists (replicate 16 0) (first_block nonce additional (length text) mic_length))) (additional_blocks additional) (whole_blocks text)))

-- the part of at most 16 octets from d on
part_is : (xs : List ℕ) (d e : ℕ) → e ≡ min (d + 16) (length xs) → take (e - d) (drop d xs) ≡ take 16 (drop d xs)
part_is xs d e h =
    let m : e - d ≡ min 16 (length (drop d xs)) = omega (arith, length-drop d xs) in
    rw m (take_min 16 (drop d xs))

-- what lies behind it
rest_is : (xs : List ℕ) (d e : ℕ) → e ≡ min (d + 16) (length xs) → drop e xs ≡ drop 16 (drop d xs)
rest_is xs d e h = rw (h, drop-drop) (drop_min (d + 16) xs)

-- the key stream is added to one part more
pub stream_step : (key nonce xs ys : List ℕ) (d e i : ℕ) → d < length xs → e ≡ min (d + 16) (length xs)
    → ys ≡ xor_lists (take (e - d) (drop d xs)) (aes key (counter_block nonce i))
    → take e (put_mid d (e - d) xs ys) ++ xor_lists (drop e (put_mid d (e - d) xs ys)) (stream key nonce (i + 1) (block_count (length (drop e (put_mid d (e - d) xs ys)))))
    ≡ take d xs ++ xor_lists (drop d xs) (stream key nonce i (block_count (length (drop d xs))))
stream_step key nonce xs ys d e i h k y =
    let within : e - d ≤ length (drop d xs) = omega (arith, length-drop d xs) in
    let long : length ys ≡ e - d = ap (λ (zs : List ℕ). length zs) y ∙ length-xor_lists _ _ ∙ length-take-le (e - d) (drop d xs) within in
    let left : 0 < length (drop d xs) = omega (arith, length-drop d xs) in
    rw (take-put_mid d (e - d) xs ys e (omega arith) (omega arith), drop-put_mid d (e - d) xs ys e (omega arith) (omega arith) long, rest_is xs d e k, y, part_is xs d e k, append_assoc)
    (ap (λ zs. take d xs ++ zs) (sym (stream_turn key nonce (drop d xs) i left)))
