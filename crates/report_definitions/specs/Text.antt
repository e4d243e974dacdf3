-- Texts of numbers and octets in the report. A text is the list of its characters' codes.
use Rattle.std.specs.Prelude.{ℕ, zero, suc, ◌/◌, ◌%◌, ◌^◌, List, [], ◌∷◌, ◌++◌, slice_index, codes}
use Rattle.hex.specs.Hex.{lower_digits, encode_lower}
use Rattle.mesh_base.specs.declared.address.Address.{Address}
use Rattle.mesh_base.specs.declared.pair.Pair.{Pair}
use Rattle.mesh_base.specs.declared.pair.Name.{Name}

-- k hexadecimal digits of a number in lower case, the high digit first
unfoldable pub hex_digits : ℕ → ℕ → List ℕ
hex_digits zero n = []
hex_digits (suc k) n = slice_index lower_digits (n / 16 ^ k % 16) ∷ hex_digits k n

-- a word: a space and then its characters
abbrev pub word_text : List ℕ → List ℕ
word_text w = codes " " ++ w

-- octets as a word, two hexadecimal digits for each
abbrev pub octets_text : List ℕ → List ℕ
octets_text octets = word_text (encode_lower octets)

-- an address as a word of four digits
abbrev pub address_text : Address → List ℕ
address_text a = word_text (hex_digits 4 a.0)

-- an IV Index as a word of eight digits
abbrev pub iv_text : ℕ → List ℕ
iv_text iv = word_text (hex_digits 8 iv)

-- a pair as two words: the IV Index, and SEQ with six digits
abbrev pub pair_text : Pair → List ℕ
pair_text p = iv_text p.iv ++ word_text (hex_digits 6 p.seq)

-- a name as one word, SRC/IV/SEQ
abbrev pub name_text : Name → List ℕ
name_text n =
    address_text n.src ++ (codes "/" ++ hex_digits 8 n.pair.iv) ++ (codes "/" ++ hex_digits 6 n.pair.seq)

-- TTL, SRC and DST as three words
abbrev pub route_text : ℕ → Address → Address → List ℕ
route_text ttl src dst = word_text (hex_digits 2 ttl) ++ address_text src ++ address_text dst
