-- Words: an IV Index and a SEQ in one number (`word_of`), in the order in which pairs are drawn. Here: the parts of a word, and which
-- numbers are words.
use Rattle.std.specs.Prelude.{ℕ, ◌/◌, ◌%◌, ◌^◌, ◌<◌, ◌≤◌}

abbrev pub iv_of : ℕ → ℕ
iv_of word = word / 2 ^ 25

abbrev pub seq_of : ℕ → ℕ
seq_of word = word % 2 ^ 25

-- The IV Index has 32 bits, and SEQ is at most 2^24. Where it is 2^24, no number is left under the IV Index
abbrev pub IsWord : ℕ → Type 0
IsWord word = (iv_of word < 2 ^ 32) × (seq_of word ≤ 2 ^ 24)
