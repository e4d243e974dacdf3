-- Octets of numbers, sums of lists of octets, and blocks of 16 octets. An octet is a number below
-- 256, and the octets of a number stand high octet first.
use Rattle.std.specs.Prelude.{ℕ, zero, suc, ◌+◌, ◌-◌, ◌*◌, ◌/◌, ◌%◌, ◌^◌, List, [], ◌∷◌, ◌++◌, length, take, drop, map, replicate, bit_xor, slice_index}

-- the low two octets of a number
abbrev pub two_octets : ℕ → List ℕ
two_octets n = n / 256 % 256 ∷ n % 256 ∷ []

-- the low three octets of a number
abbrev pub three_octets : ℕ → List ℕ
three_octets n = n / 65536 % 256 ∷ n / 256 % 256 ∷ n % 256 ∷ []

-- the low four octets of a number
abbrev pub four_octets : ℕ → List ℕ
four_octets n = n / 16777216 % 256 ∷ n / 65536 % 256 ∷ n / 256 % 256 ∷ n % 256 ∷ []

-- the numbers that two, three and four octets at a place make
abbrev pub two_at : List ℕ → ℕ → ℕ
two_at b i = slice_index b i * 256 + slice_index b (i + 1)

abbrev pub three_at : List ℕ → ℕ → ℕ
three_at b i = slice_index b i * 65536 + two_at b (i + 1)

abbrev pub four_at : List ℕ → ℕ → ℕ
four_at b i = two_at b i * 65536 + two_at b (i + 2)

-- the low k octets of a number
unfoldable pub octets_of : ℕ → ℕ → List ℕ
octets_of zero n = []
octets_of (suc k) n = n / 256 ^ k % 256 ∷ octets_of k n

-- the number that octets make
unfoldable pub number_of : List ℕ → ℕ
number_of [] = 0
number_of (x ∷ xs) = x * 256 ^ length xs + number_of xs

-- the sum, bit by bit, of a list and a second one, whose octets past its end count as 0 and which
-- counts no further than the first
unfoldable pub xor_lists : List ℕ → List ℕ → List ℕ
xor_lists [] ys = []
xor_lists (x ∷ xs) [] = x ∷ xs
xor_lists (x ∷ xs) (y ∷ ys) = bit_xor x y ∷ xor_lists xs ys

-- how many blocks of 16 octets hold n octets
abbrev pub block_count : ℕ → ℕ
block_count n = (n + 15) / 16

-- the first n blocks of a list of octets
unfoldable pub blocks : ℕ → List ℕ → List (List ℕ)
blocks zero m = []
blocks (suc n) m = take 16 m ∷ blocks n (drop 16 m)

-- a block with zeros up to 16 octets
unfoldable pub whole_block : List ℕ → List ℕ
whole_block b = b ++ replicate (16 - length b) 0

-- a list of octets in blocks, the last of them with zeros up to 16 octets
unfoldable pub whole_blocks : List ℕ → List (List ℕ)
whole_blocks m = map whole_block (blocks (block_count (length m)) m)
