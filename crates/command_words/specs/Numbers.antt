-- Numbers that words stand for.
use Rattle.std.specs.Prelude.{ℕ, ◌^◌, ◌&&◌, nat_le, nat_lt, if◌then◌else◌, Bool, List, length, Option, Some, None, option_and_then}
use Rattle.std.specs.Str.{all_ascii_digits}
use Rattle.std.specs.Str.Parse.{digits_value}

-- 1 to 10 decimal digits
abbrev pub is_digits : List ℕ → Bool
is_digits word = nat_le 1 (length word) && nat_le (length word) 10 && all_ascii_digits word

-- the number of 32 bits that the digits write; zeros may lead
abbrev pub number_word : List ℕ → Option ℕ
number_word word =
    if is_digits word && nat_lt (digits_value 10 word) (2 ^ 32) then Some (digits_value 10 word) else None

-- how many lines a generated script may have
abbrev pub is_count : ℕ → Bool
is_count n = nat_le 1 n && nat_le n 32768

abbrev pub count_word : List ℕ → Option ℕ
count_word word = option_and_then (λ n. if is_count n then Some n else None) (number_word word)
