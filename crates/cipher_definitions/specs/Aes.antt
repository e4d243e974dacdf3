-- AES-128 (FIPS 197) on lists of 16 octets. The state has its columns one after the other, so octet
-- r + 4 * c of the list is row r of column c (3.4). Section numbers are the standard's.
use Rattle.std.specs.Prelude.{ℕ, zero, suc, ◌+◌, ◌-◌, ◌*◌, ◌/◌, ◌%◌, List, [], ◌∷◌, ◌++◌, map, take, bit_xor, nat_lt, ◌==◌, if◌then◌else◌, slice_index, slice_index_or}
use Rattle.std.specs.Int.{w8, rotate_left}
use Rattle.std.specs.List.{range_with_len}
use Rattle.cipher_definitions.specs.Octets.{xor_lists}

-- an octet times x in GF(2^8), modulo x^8 + x^4 + x^3 + x + 1 (4.2.1)
unfoldable pub times_x : ℕ → ℕ
times_x a = if nat_lt a 128 then 2 * a else bit_xor (2 * a - 256) 27

-- the sum of b times x^i over those of the low n bits i of a that are set (4.2)
unfoldable pub times_low_bits : ℕ → ℕ → ℕ → ℕ
times_low_bits zero a b = 0
times_low_bits (suc n) a b = bit_xor (if (a % 2) == 1 then b else 0) (times_low_bits n (a / 2) (times_x b))

-- the product of two octets in GF(2^8) (4.2)
abbrev pub times : ℕ → ℕ → ℕ
times a b = times_low_bits 8 a b

-- the least of the n octets from b on whose product with a is 1, or 0 where there is none
unfoldable pub inverse_from : ℕ → ℕ → ℕ → ℕ
inverse_from zero b a = 0
inverse_from (suc n) b a = if (times a b) == 1 then b else inverse_from n (b + 1) a

-- the multiplicative inverse of an octet in GF(2^8), and 0 for 0 (4.2, 5.1.1)
unfoldable pub inverse : ℕ → ℕ
inverse a = inverse_from 255 1 a

-- the affine map of SubBytes: bit i of the result is the sum of bits i, i + 4, i + 5, i + 6 and
-- i + 7 of b, modulo 8, and of bit i of 63 in hexadecimal (5.1.1, equation 5.1)
unfoldable pub affine : ℕ → ℕ
affine b =
    bit_xor
    (bit_xor (bit_xor (bit_xor (bit_xor b (rotate_left w8 b 1)) (rotate_left w8 b 2)) (rotate_left w8 b 3))
    (rotate_left w8 b 4)) 0x63

-- the S-box (5.1.1)
unfoldable pub sub_octet : ℕ → ℕ
sub_octet a = affine (inverse a)

-- SubBytes (5.1.1)
unfoldable pub sub_octets : List ℕ → List ℕ
sub_octets s = map sub_octet s

-- ShiftRows: row r is turned to the left by r octets (5.1.2)
unfoldable pub shift_rows : List ℕ → List ℕ
shift_rows s = map (λ i. slice_index s i) (0 ∷ 5 ∷ 10 ∷ 15 ∷ 4 ∷ 9 ∷ 14 ∷ 3 ∷ 8 ∷ 13 ∷ 2 ∷ 7 ∷ 12 ∷ 1 ∷ 6 ∷ 11 ∷ [])

-- an octet of a mixed column, from the octet in its place and the three below that, in a circle
-- (5.1.3, equation 5.6)
unfoldable pub mixed : ℕ → ℕ → ℕ → ℕ → ℕ
mixed a b c d = bit_xor (bit_xor (bit_xor (times 2 a) (times 3 b)) c) d

-- the octet of the state that is k rows below octet i in its column, in a circle
abbrev pub below : List ℕ → ℕ → ℕ → ℕ
below s i k = slice_index s (4 * (i / 4) + (i + k) % 4)

-- MixColumns (5.1.3)
unfoldable pub mix_columns : List ℕ → List ℕ
mix_columns s = map (λ i. mixed (below s i 0) (below s i 1) (below s i 2) (below s i 3)) (range_with_len 0 16)

-- one of the rounds before the last, with AddRoundKey at its end (5.1, 5.1.4)
unfoldable pub round : List ℕ → List ℕ → List ℕ
round s key = xor_lists (mix_columns (shift_rows (sub_octets s))) key

-- the last round, which has no MixColumns (5.1)
unfoldable pub last_round : List ℕ → List ℕ → List ℕ
last_round s key = xor_lists (shift_rows (sub_octets s)) key

-- a round for each key
unfoldable pub rounds : List (List ℕ) → List ℕ → List ℕ
rounds [] s = s
rounds (key ∷ keys) s = rounds keys (round s key)

-- word i of a round key, of four words
abbrev pub word : List ℕ → ℕ → List ℕ
word key i =
    slice_index key (4 * i) ∷ slice_index key (4 * i + 1) ∷ slice_index key (4 * i + 2) ∷ slice_index key (4 * i + 3)
    ∷ []

-- SubWord of RotWord of a word, with the sum of the round constant to its first octet (5.2)
unfoldable pub turned_word : ℕ → List ℕ → List ℕ
turned_word constant w =
    bit_xor (sub_octet (slice_index w 1)) constant ∷ sub_octet (slice_index w 2) ∷ sub_octet (slice_index w 3)
    ∷ sub_octet (slice_index w 0) ∷ []

-- the words of a round key from the one before it, of which only words 1 to 3 are asked, and from
-- its own first word: each is the sum of the word four before it and the word before it (5.2)
unfoldable pub words_after : List ℕ → List ℕ → List ℕ
words_after key first =
    let second = xor_lists (word key 1) first in
    let third = xor_lists (word key 2) second in
    first ++ second ++ third ++ xor_lists (word key 3) third

-- the round key after a round key, by the constant of its round (5.2, with Nk = 4)
unfoldable pub next_key : ℕ → List ℕ → List ℕ
next_key constant key = words_after key (xor_lists (word key 0) (turned_word constant (word key 3)))

-- the n round keys after a round key, by the constant of the first of them; each constant is the
-- one before it times x (5.2)
unfoldable pub keys_from : ℕ → ℕ → List ℕ → List (List ℕ)
keys_from zero constant key = []
keys_from (suc n) constant key = next_key constant key ∷ keys_from n (times_x constant) (next_key constant key)

-- the round keys of rounds 1 to 10; that of round 0 is the key itself (5.2)
unfoldable pub round_keys : List ℕ → List (List ℕ)
round_keys key = keys_from 10 1 key

-- AES-128 of a block, with the round keys given (5.1)
unfoldable pub cipher : List (List ℕ) → List ℕ → List ℕ → List ℕ
cipher keys key block = last_round (rounds (take 9 keys) (xor_lists block key)) (slice_index_or keys 9 [])

-- AES-128 of a block of 16 octets under a key of 16 octets (5.1)
unfoldable pub aes : List ℕ → List ℕ → List ℕ
aes key block = cipher (round_keys key) key block

-- cipher block chaining from x on, of which the last block alone is kept: each block is added to
-- what stands, and the sum enciphered (RFC 3610, 2.2; RFC 4493, 2.4)
unfoldable pub chained : List ℕ → List ℕ → List (List ℕ) → List ℕ
chained key x [] = x
chained key x (block ∷ more) = chained key (aes key (xor_lists x block)) more
