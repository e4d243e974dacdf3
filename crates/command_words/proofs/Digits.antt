-- What `parse` reads of digits.
use Rattle.std.proofs.Common.{◌≡◌, ◌<◌, ◌≤◌, ◌^◌, ◌&&◌, ℕ, Bool, true, false, List, length, refl, sym, ap, ◌∙◌, Some, None, Result, Ok, Err}
use Rattle.std.specs.Prelude.{nat_le, nat_lt, if◌then◌else◌}
use Rattle.std.specs.Result.{result_ok}
use Rattle.std.specs.Str.{all_ascii_digits}
use Rattle.std.specs.Str.Parse.{ParsesUnsigned, digits_value}
use Rattle.std.proofs.lemmas.Bool.{leb-true, lt-ltb, ltb-true}
use Rattle.std.proofs.lemmas.Str.Parse.{numerals_by_value, parse_digits, tells_all_ascii_digits}
use Rattle.command_words.specs.Numbers.{is_digits, number_word}

pub and_left : (a b : Bool) → (a && b) ≡ true → a ≡ true
and_left true b e = refl
and_left false b e = e

pub and_right : (a b : Bool) → (a && b) ≡ true → b ≡ true
and_right true b e = e
and_right false b e = absurd cc

-- what the digits of a word are
pub digits_are : (w : List ℕ) → is_digits w ≡ true → (1 ≤ length w) × (all_ascii_digits w ≡ true)
digits_are w e =
    let front = nat_le 1 (length w) && nat_le (length w) 10 in
    (leb-true 1 (length w) (and_left (nat_le 1 (length w)) (nat_le (length w) 10) (and_left front (all_ascii_digits w) e)), and_right front (all_ascii_digits w) e)

-- where the word is digits, its number is what `parse` reads
pub parsed : {E : Type 0} (w : List ℕ) (r : Result ℕ E) → is_digits w ≡ true → ParsesUnsigned 32 10 w r → result_ok r ≡ number_word w
parsed {E} w (Ok n) digits h =
    let are = digits_are w digits in
    let (fits, is) = parse_digits (numerals_by_value (λ ds. all_ascii_digits ds ≡ true) tells_all_ascii_digits) {E = E} 32 w (Ok n) h are.1 in
    ap Some is ∙ sym (ap (λ b. if b && nat_lt (digits_value 10 w) (2 ^ 32) then Some (digits_value 10 w) else None) digits
    ∙ ap (λ b. if b then Some (digits_value 10 w) else None) (lt-ltb (digits_value 10 w) (2 ^ 32) fits.1))
parsed {E} w (Err e) digits h =
    let are = digits_are w digits in
    let none = parse_digits (numerals_by_value (λ ds. all_ascii_digits ds ≡ true) tells_all_ascii_digits) {E = E} 32 w (Err e) h are.1 in
    sym (ap (λ b. if b && nat_lt (digits_value 10 w) (2 ^ 32) then Some (digits_value 10 w) else None) digits ∙ by_test (nat_lt (digits_value 10 w) (2 ^ 32)) refl none)
  where
    by_test : (b : Bool) → nat_lt (digits_value 10 w) (2 ^ 32) ≡ b → ((0 < length w) × (digits_value 10 w < 2 ^ 32) → ⊥)
        → (if b then Some (digits_value 10 w) else None) ≡ None
    by_test false e none = refl
    by_test true e none = absurd (none ((digits_are w digits).0, ltb-true (digits_value 10 w) (2 ^ 32) e))

-- else it has none
pub no_number : (w : List ℕ) → is_digits w ≡ false → None ≡ number_word w
no_number w digits = sym (ap (λ b. if b && nat_lt (digits_value 10 w) (2 ^ 32) then Some (digits_value 10 w) else None) digits)
