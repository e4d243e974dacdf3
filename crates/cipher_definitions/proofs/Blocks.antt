-- Laws of blocks, of their chaining and of the key stream: one block more.
use Rattle.std.proofs.Common.{◌≡◌, ℕ, suc, ◌+◌, ◌<◌, List, [], ◌∷◌, ◌++◌, length, take, drop, refl, arith, length-drop}
use Rattle.cipher_definitions.specs.Octets.{xor_lists, block_count, blocks, whole_block, whole_blocks}
use Rattle.cipher_definitions.specs.Aes.{aes, chained}
use Rattle.cipher_definitions.specs.Ccm.{counter_block, stream}
use Rattle.cipher_definitions.proofs.Sums.{xor_lists_append}
use Rattle.cipher_definitions.proofs.Lengths.{length-aes}

-- a list that is not empty has one block more than what is left of it after 16 octets
pub block_count_turn : (m : List ℕ) → 0 < length m → block_count (length m) ≡ suc (block_count (length (drop 16 m)))
block_count_turn m h = omega (arith, length-drop 16 m)

-- the blocks of a list that is not empty are that of its first 16 octets and those of the others
pub whole_blocks_turn : (m : List ℕ) → 0 < length m → whole_blocks m ≡ whole_block (take 16 m) ∷ whole_blocks (drop 16 m)
unfolding whole_blocks blocks
whole_blocks_turn m h = rw (block_count_turn m h) refl

-- the empty list has no blocks
pub whole_blocks_empty : whole_blocks [] ≡ []
unfolding whole_blocks blocks
whole_blocks_empty = refl

-- a chaining of two lists of blocks is that of the second after that of the first
pub chained_append : (key x : List ℕ) (bs cs : List (List ℕ)) → chained key x (bs ++ cs) ≡ chained key (chained key x bs) cs
unfolding chained
chained_append key x [] cs = refl
chained_append key x (b ∷ bs) cs = chained_append key (aes key (xor_lists x b)) bs cs

-- the sum of a list that is not empty and the key stream from block i on is that of its first 16
-- octets and block i, and that of the others and the stream from block i + 1 on
pub stream_turn : (key nonce m : List ℕ) (i : ℕ) → 0 < length m
    → xor_lists m (stream key nonce i (block_count (length m)))
    ≡ xor_lists (take 16 m) (aes key (counter_block nonce i)) ++ xor_lists (drop 16 m) (stream key nonce (i + 1) (block_count (length (drop 16 m))))
unfolding stream
stream_turn key nonce m i h = rw (block_count_turn m h)
    (rw (length-aes key (counter_block nonce i)) at (xor_lists_append m (aes key (counter_block nonce i)) (stream key nonce (i + 1) (block_count (length (drop 16 m))))))
