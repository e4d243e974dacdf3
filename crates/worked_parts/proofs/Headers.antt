-- Which of two banks counts, evaluated at octets of headers.
use Rattle.std.proofs.Common.{◌≡◌, ℕ, List, [], ◌∷◌, ◌++◌, refl}
use Rattle.std.specs.Prelude.{replicate, Some, None}
use Rattle.slot_definitions.specs.Slots.{text_of, header_of, is_sound, counting_by}

-- kind f0, a format, a generation with its complement, zeros, and a gate
abbrev header : ℕ → List ℕ → ℕ → List ℕ
header format numbers gate = 0xf0 ∷ format ∷ numbers ++ replicate 21 0 ++ gate ∷ []

-- some generations, the high octet first, each with its complement
abbrev number_0 : List ℕ
number_0 = 0 ∷ 0 ∷ 0 ∷ 0 ∷ 0xff ∷ 0xff ∷ 0xff ∷ 0xff ∷ []

abbrev number_1 : List ℕ
number_1 = 0 ∷ 0 ∷ 0 ∷ 1 ∷ 0xff ∷ 0xff ∷ 0xff ∷ 0xfe ∷ []

abbrev number_2 : List ℕ
number_2 = 0 ∷ 0 ∷ 0 ∷ 2 ∷ 0xff ∷ 0xff ∷ 0xff ∷ 0xfd ∷ []

abbrev number_65536 : List ℕ
number_65536 = 0 ∷ 1 ∷ 0 ∷ 0 ∷ 0xff ∷ 0xfe ∷ 0xff ∷ 0xff ∷ []

abbrev number_last : List ℕ
number_last = 0xff ∷ 0xff ∷ 0xff ∷ 0xff ∷ 0 ∷ 0 ∷ 0 ∷ 0 ∷ []

-- a complement that is one off
abbrev untrue : List ℕ
untrue = 0 ∷ 0 ∷ 0 ∷ 1 ∷ 0xff ∷ 0xff ∷ 0xff ∷ 0xfd ∷ []

abbrev blank : List ℕ
blank = replicate 32 0xff

first_header : text_of (header_of 1 1) ≡ header 1 number_1 0
first_header = refl

last_header : text_of (header_of 2 0xffffffff) ≡ header 2 number_last 0
last_header = refl

-- of two that follow one another the next one counts, whichever bank it is in, and whatever its format
second_is_next : counting_by (header 1 number_1 0) (header 2 number_2 0) ≡ Some 1
unfolding counting_by is_sound
second_is_next = refl

first_is_next : counting_by (header 2 number_2 0) (header 1 number_1 0) ≡ Some 0
unfolding counting_by is_sound
first_is_next = refl

-- behind ffffffff comes 0
second_wraps : counting_by (header 2 number_last 0) (header 2 number_0 0) ≡ Some 1
unfolding counting_by is_sound
second_wraps = refl

first_wraps : counting_by (header 2 number_0 0) (header 2 number_last 0) ≡ Some 0
unfolding counting_by is_sound
first_wraps = refl

-- of others the greater one, and of equal ones that of bank 0
second_is_greater : counting_by (header 2 number_2 0) (header 2 number_65536 0) ≡ Some 1
unfolding counting_by is_sound
second_is_greater = refl

first_is_greater : counting_by (header 2 number_65536 0) (header 2 number_2 0) ≡ Some 0
unfolding counting_by is_sound
first_is_greater = refl

both_are_equal : counting_by (header 2 number_2 0) (header 2 number_2 0) ≡ Some 0
unfolding counting_by is_sound
both_are_equal = refl

-- a bank counts alone where the other has no sound header
only_second : counting_by blank (header 1 number_1 0) ≡ Some 1
unfolding counting_by is_sound
only_second = refl

only_first : counting_by (header 2 number_1 0) (header 2 number_2 0xff) ≡ Some 0
unfolding counting_by is_sound
only_first = refl

-- formats and gates beside the sound ones
of_format_0 : counting_by blank (header 0 number_1 0) ≡ None
unfolding counting_by is_sound
of_format_0 = refl

of_format_3 : counting_by blank (header 3 number_1 0) ≡ None
unfolding counting_by is_sound
of_format_3 = refl

of_format_ff : counting_by blank (header 0xff number_1 0) ≡ None
unfolding counting_by is_sound
of_format_ff = refl

with_gate_1 : counting_by blank (header 2 number_1 1) ≡ None
unfolding counting_by is_sound
with_gate_1 = refl

with_gate_ff : counting_by blank (header 2 number_1 0xff) ≡ None
unfolding counting_by is_sound
with_gate_ff = refl

not_true : counting_by blank (header 2 untrue 0) ≡ None
unfolding counting_by is_sound
not_true = refl
