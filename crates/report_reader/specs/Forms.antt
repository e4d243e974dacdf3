-- The fields of a line, and what they stand for. A field is read where it may be one; whether the line has that very text is seen from the
-- line's own text.
use Rattle.std.specs.Prelude.{ℕ, ◌+◌, ◌-◌, ◌*◌, ◌^◌, ◌==◌, ◌&&◌, ◌||◌, nat_le, nat_lt, if◌then◌else◌, Bool, List, [], ◌∷◌, length, take, drop, codes, Option, Some, None}
use Rattle.std.specs.List.{slice_split}
use Rattle.std.specs.Option.{option_map}
use Rattle.std.specs.Result.{result_ok}
use Rattle.std.specs.Str.{bytes_eq}
use Rattle.hex.specs.Hex.{decode_of}
use Rattle.mesh_base.specs.declared.address.Address.{Address}
use Rattle.mesh_base.specs.declared.pair.Name.{Name}
use Rattle.mesh_base.specs.declared.pair.Pair.{Pair}
use Rattle.mesh_types.specs.declared.answers.KeyName.{KeyName}
use Rattle.mesh_types.specs.declared.answers.KeyName.TheVariants as N
use Rattle.script_definitions.specs.Digits.{◌>>=◌, number_word}
use Rattle.script_definitions.specs.Forms.{address_word}
use Rattle.script_definitions.specs.Words.{word_at}

-- what parts two fields: a space, a dot, a slash or LF
abbrev pub is_gap : ℕ → Bool
is_gap b = (b == 32) || (b == 46) || (b == 47) || (b == 10)

-- the fields of a text; the text of a line ends with LF, so its last field is empty
abbrev pub fields_of : List ℕ → List (List ℕ)
fields_of text = slice_split is_gap text

-- the number n with one more decimal digit, as long as it has 64 bits; `0` to `9` are 48 to 57
abbrev pub next_digit : ℕ → ℕ → Option ℕ
next_digit n c =
    if nat_le 48 c && nat_le c 57 && nat_lt (10 * n + (c - 48)) (2 ^ 64) then Some (10 * n + (c - 48)) else None

-- the number of the decimal digits, behind those that gave n
unfoldable pub decimal_from : ℕ → List ℕ → Option ℕ
decimal_from n [] = Some n
decimal_from n (c ∷ cs) = next_digit n c >>= λ m. decimal_from m cs

-- a decimal number below a bound
unfoldable pub below_word : ℕ → List ℕ → Option ℕ
below_word bound word = decimal_from 0 word >>= λ n. if nat_lt n bound then Some n else None

-- an IV Index and a SEQ in two fields
unfoldable pub pair_at : List (List ℕ) → ℕ → Option Pair
pair_at ws i =
    number_word 8 (word_at ws i) >>= λ iv.
    number_word 6 (word_at ws (i + 1)) >>= λ seq.
    Some (record { iv = iv; seq = seq })

-- a name in three fields
unfoldable pub name_at : List (List ℕ) → ℕ → Option Name
name_at ws i =
    address_word (word_at ws i) >>= λ src.
    pair_at ws (i + 1) >>= λ pair.
    Some (record { src = src; pair = pair })

-- TTL, SRC and DST in three fields
unfoldable pub route_at : List (List ℕ) → ℕ → Option (ℕ × Address × Address)
route_at ws i =
    number_word 2 (word_at ws i) >>= λ ttl.
    address_word (word_at ws (i + 1)) >>= λ src.
    address_word (word_at ws (i + 2)) >>= λ dst.
    Some (ttl, src, dst)

-- `dev`, or `app:` and the three digits of an index
unfoldable pub key_name_word : List ℕ → Option KeyName
key_name_word word =
    if bytes_eq word (codes "dev") then Some N.Dev
    else if bytes_eq (take 4 word) (codes "app:") then option_map N.App (number_word 3 (drop 4 word))
    else None

-- at most so many octets
unfoldable pub octets_word : ℕ → List ℕ → Option (List ℕ)
octets_word most word = if nat_le (length word) (2 * most) then result_ok (decode_of word) else None
