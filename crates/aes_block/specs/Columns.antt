-- The state and round keys as four columns, each a word of 32 bits with row 0 in its highest octet (FIPS 197, 3.4 and 3.5).
use Rattle.std.specs.Prelude.{ℕ, List, [], ◌∷◌, ◌++◌, slice_index, slice_index_or}
use Rattle.std.specs.Int.{to_be_bytes, w32}
use Rattle.cipher_definitions.specs.Aes.{times, mixed}

-- the 16 octets of four columns
abbrev pub octets : List ℕ → List ℕ
octets s =
    to_be_bytes w32 (slice_index s 0) ++ to_be_bytes w32 (slice_index s 1) ++ to_be_bytes w32 (slice_index s 2)
    ++ to_be_bytes w32 (slice_index s 3)

-- row r of a column
abbrev pub row : ℕ → ℕ → ℕ
row column r = slice_index (to_be_bytes w32 column) r

-- a mixed column, from the octets of the column (5.1.3)
abbrev pub mixed_rows : ℕ → ℕ → ℕ → ℕ → List ℕ
mixed_rows p q r s = mixed p q r s ∷ mixed q r s p ∷ mixed r s p q ∷ mixed s p q r ∷ []

-- what an octet in each row adds to the four rows of its mixed column (5.1.3)
abbrev pub added_from_row_0 : ℕ → List ℕ
added_from_row_0 s = times 2 s ∷ s ∷ s ∷ times 3 s ∷ []

abbrev pub added_from_row_1 : ℕ → List ℕ
added_from_row_1 s = times 3 s ∷ times 2 s ∷ s ∷ s ∷ []

abbrev pub added_from_row_2 : ℕ → List ℕ
added_from_row_2 s = s ∷ times 3 s ∷ times 2 s ∷ s ∷ []

abbrev pub added_from_row_3 : ℕ → List ℕ
added_from_row_3 s = s ∷ s ∷ times 3 s ∷ times 2 s ∷ []

-- round key i, of round keys that stand column by column
abbrev pub round_key : List (List ℕ) → ℕ → List ℕ
round_key columns i =
    octets
    (slice_index (slice_index_or columns 0 []) i ∷ slice_index (slice_index_or columns 1 []) i
    ∷ slice_index (slice_index_or columns 2 []) i ∷ slice_index (slice_index_or columns 3 []) i ∷ [])
