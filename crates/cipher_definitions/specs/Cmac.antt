-- AES-CMAC (RFC 4493), of a list of octets of any length. Section numbers are the RFC's.
use Rattle.std.specs.Prelude.{ℕ, ◌-◌, ◌*◌, ◌/◌, ◌^◌, List, [], ◌∷◌, ◌++◌, length, drop, replicate, bit_xor, nat_lt, ◌==◌, if◌then◌else◌}
use Rattle.std.specs.Int.{w128, from_be_bytes, to_be_bytes}
use Rattle.cipher_definitions.specs.Octets.{xor_lists, blocks}
use Rattle.cipher_definitions.specs.Aes.{aes, chained}

-- a number of 128 bits shifted to the left by one bit, with 87 in hexadecimal added where a bit was
-- shifted out: its product with x in GF(2^128) (2.3)
abbrev pub doubled_number : ℕ → ℕ
doubled_number n = if nat_lt n (2 ^ 127) then 2 * n else bit_xor (2 * (n - 2 ^ 127)) 0x87

-- the same of a block of 16 octets (2.3)
unfoldable pub doubled : List ℕ → List ℕ
doubled block = to_be_bytes w128 (doubled_number (from_be_bytes w128 block))

-- K1, for a last block that is complete (2.3)
unfoldable pub first_subkey : List ℕ → List ℕ
first_subkey key = doubled (aes key (replicate 16 0))

-- K2, for a last block that is filled (2.3)
unfoldable pub second_subkey : List ℕ → List ℕ
second_subkey key = doubled (first_subkey key)

-- a block with one bit 1 and then bits 0 up to 16 octets (2.4, padding)
unfoldable pub filled_block : List ℕ → List ℕ
filled_block b = b ++ 128 ∷ replicate (15 - length b) 0

-- M_last: the last block with the subkey for it (2.4, step 4)
unfoldable pub last_block : List ℕ → List ℕ → List ℕ
last_block key b =
    if (length b) == 16 then xor_lists b (first_subkey key) else xor_lists (filled_block b) (second_subkey key)

-- how many blocks of a message of n octets stand before its last (2.4, steps 2 and 3)
abbrev pub blocks_before_last : ℕ → ℕ
blocks_before_last n = (n - 1) / 16

-- AES-CMAC of a message: the chaining of the blocks before the last, from zeros on, and then of the
-- last block with its subkey (2.4)
unfoldable pub cmac : List ℕ → List ℕ → List ℕ
cmac key message =
    chained key (replicate 16 0)
    (blocks (blocks_before_last (length message)) message
    ++ last_block key (drop (16 * blocks_before_last (length message)) message) ∷ [])
