-- The loop of AES-CMAC over the blocks before the last.
use Rattle.std.proofs.Common.{◌≡◌, ℕ, suc, ◌+◌, ◌-◌, ◌*◌, ◌/◌, ◌<◌, ◌≤◌, List, [], ◌∷◌, ◌++◌, length, take, drop, refl, arith, length-drop, ◌∙◌, sym, replicate, nat_eq, false}
use Rattle.std.proofs.lemmas.List.{drop-drop}
use Rattle.std.proofs.lemmas.Bool.Decides.{nat_tests}
use Rattle.cipher_definitions.specs.Octets.{xor_lists, blocks}
use Rattle.cipher_definitions.specs.Aes.{aes, chained}
use Rattle.cipher_definitions.specs.Cmac.{last_block, blocks_before_last, doubled, first_subkey, second_subkey, filled_block}

-- AES-CMAC of what is left of a message, from the sum of the blocks so far
abbrev pub mac_from : List ℕ → List ℕ → List ℕ → List ℕ
mac_from key sum rest =
    chained key sum
    (blocks (blocks_before_last (length rest)) rest ++ last_block key (drop (16 * blocks_before_last (length rest)) rest) ∷ [])

at_block : (key sum rest : List ℕ) (n k : ℕ) → n ≡ suc k
    → chained key sum (blocks n rest ++ last_block key (drop (16 * n) rest) ∷ [])
    ≡ chained key (aes key (xor_lists sum (take 16 rest))) (blocks k (drop 16 rest) ++ last_block key (drop (16 * k) (drop 16 rest)) ∷ [])
unfolding chained blocks
at_block key sum rest n k e =
    let m : 16 * suc k ≡ 16 + 16 * k = omega arith in
    rw (e, m, drop-drop (16 * k) 16 rest) refl

pub mac_turn : (key sum rest z : List ℕ) → 16 < length rest → mac_from key sum rest ≡ z
    → mac_from key (aes key (xor_lists sum (take 16 rest))) (drop 16 rest) ≡ z
mac_turn key sum rest z h e =
    let d : length (drop 16 rest) ≡ length rest - 16 = length-drop 16 rest in
    let n : (length rest - 1) / 16 ≡ suc ((length (drop 16 rest) - 1) / 16) = omega arith in
    sym (at_block key sum rest ((length rest - 1) / 16) ((length (drop 16 rest) - 1) / 16) n) ∙ e

pub mac_end : (key sum rest z : List ℕ) → length rest ≤ 16 → mac_from key sum rest ≡ z
    → aes key (xor_lists sum (last_block key rest)) ≡ z
unfolding chained blocks
mac_end key sum rest z h e =
    let n : (length rest - 1) / 16 ≡ 0 = omega arith in
    rw n at e

-- the last block where it is complete, and where it is filled
pub complete_block : (key b e s z : List ℕ) → length b ≡ 16 → e ≡ aes key (replicate 16 0) → s ≡ doubled e → z ≡ xor_lists b s
    → z ≡ last_block key b
unfolding last_block first_subkey
complete_block key b e s z h p q r = rw (h, r, q, p) refl

pub incomplete_block : (key b e s f t z : List ℕ) → (length b ≡ 16 → ⊥) → e ≡ aes key (replicate 16 0) → s ≡ doubled e
    → f ≡ filled_block b → t ≡ doubled s → z ≡ xor_lists f t → z ≡ last_block key b
unfolding last_block first_subkey second_subkey
incomplete_block key b e s f t z h p q u v r =
    let n : nat_eq (length b) 16 ≡ false = grind (arith, nat_tests) in
    rw (n, r, v, q, p, u) refl
