-- Numbers and octets that are written in digits. Hexadecimal digits are read in either case.
use Rattle.std.specs.Prelude.{ℕ, ◌+◌, ◌-◌, ◌*◌, ◌==◌, ◌&&◌, ◌||◌, not, nat_le, if◌then◌else◌, List, [], ◌∷◌, length, slice_index, Option, Some, None}
use Rattle.std.specs.Result.{result_ok}
use Rattle.hex.specs.Hex.{hex_digit_value, decode_of, decode_sized}

-- the second step, where the first gave a value
infixl 10 ◌>>=◌
abbrev pub ◌>>=◌ : {A B : Type 0} → Option A → (A → Option B) → Option B
(Some x) >>= f = f x
None >>= f = None

-- the number of the hexadecimal digits, behind those that gave n
unfoldable pub number_from : ℕ → List ℕ → Option ℕ
number_from n [] = Some n
number_from n (c ∷ cs) = hex_digit_value c >>= λ d. number_from (16 * n + d) cs

-- a number of exactly so many hexadecimal digits
unfoldable pub number_word : ℕ → List ℕ → Option ℕ
number_word digits word = if length word == digits then number_from 0 word else None

-- the value of a decimal digit, `0` to `9` being 48 to 57
abbrev pub decimal_value : ℕ → Option ℕ
decimal_value c = if nat_le 48 c && nat_le c 57 then Some (c - 48) else None

-- the number of the decimal digits, behind those that gave n
unfoldable pub decimal_from : ℕ → List ℕ → Option ℕ
decimal_from n [] = Some n
decimal_from n (c ∷ cs) = decimal_value c >>= λ d. decimal_from (10 * n + d) cs

-- a number of at least one decimal digit and at most so many; zeros may lead
unfoldable pub decimal_word : ℕ → List ℕ → Option ℕ
decimal_word most word = if nat_le 1 (length word) && nat_le (length word) most then decimal_from 0 word else None

-- a decimal number in which no zero leads
unfoldable pub plain_decimal_word : ℕ → List ℕ → Option ℕ
plain_decimal_word most word =
    if (length word == 1) || not (slice_index word 0 == 48) then decimal_word most word else None

-- a key: 16 octets
unfoldable pub key_word : List ℕ → Option (List ℕ)
key_word word = result_ok (decode_sized word 16)

-- octets, two digits each: at least one, and at most so many
unfoldable pub octets_word : ℕ → List ℕ → Option (List ℕ)
octets_word most word =
    if nat_le 2 (length word) && nat_le (length word) (2 * most) then result_ok (decode_of word) else None
