-- Every block that AES gives, and every result of AES-CMAC, has 16 octets, whatever it is given.
use Rattle.std.proofs.Common.{◌≡◌, ℕ, List, [], ◌∷◌, ◌++◌, length}
use Rattle.cipher_definitions.specs.Octets.{xor_lists}
use Rattle.cipher_definitions.specs.Aes.{shift_rows, last_round, cipher, aes, chained}
use Rattle.cipher_definitions.specs.Cmac.{cmac}
use Rattle.cipher_definitions.specs.Kdf.{s1, k1}
use Rattle.cipher_definitions.proofs.Sums.{length-xor_lists}

-- a block that AES gives has 16 octets
pub length-aes : (key block : List ℕ) → length (aes key block) ≡ 16
unfolding aes cipher last_round shift_rows
length-aes key block = length-xor_lists _ _

-- a chaining that begins with 16 octets ends with 16
pub length-chained : (key x : List ℕ) (bs : List (List ℕ)) → length x ≡ 16 → length (chained key x bs) ≡ 16
unfolding chained
length-chained key x [] h = h
length-chained key x (b ∷ bs) h = length-chained key (aes key (xor_lists x b)) bs (length-aes key (xor_lists x b))

-- a chaining of blocks has 16 octets where there is a last block
pub length-chained_last : (key x last : List ℕ) (bs : List (List ℕ)) → length (chained key x (bs ++ last ∷ [])) ≡ 16
unfolding chained
length-chained_last key x last [] = length-aes key (xor_lists x last)
length-chained_last key x last (b ∷ bs) = length-chained_last key (aes key (xor_lists x b)) last bs

-- a result of AES-CMAC has 16 octets
pub length-cmac : (key message : List ℕ) → length (cmac key message) ≡ 16
unfolding cmac
length-cmac key message = length-chained_last key _ _ _

-- a result of s1 has 16 octets
pub length-s1 : (m : List ℕ) → length (s1 m) ≡ 16
unfolding s1
length-s1 m = length-cmac _ m

-- a result of k1 has 16 octets
pub length-k1 : (n salt p : List ℕ) → length (k1 n salt p) ≡ 16
unfolding k1
length-k1 n salt p = length-cmac _ p
