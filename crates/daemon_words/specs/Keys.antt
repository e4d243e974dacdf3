-- The keys of a new node, as a text.
use Rattle.std.specs.Prelude.{ℕ, ◌==◌, ◌||◌, not, if◌then◌else◌, Bool, List, filter, length, Option, Some, None}
use Rattle.std.specs.List.{slice_split}
use Rattle.script_definitions.specs.Digits.{◌>>=◌, key_word}
use Rattle.daemon_words.specs.Commands.{word_at}
use Rattle.daemon_words.specs.declared.keys.NodeKeys.{NodeKeys}

-- what parts words: a space, a LF, a CR
abbrev pub is_blank : ℕ → Bool
is_blank c = (c == 32) || (c == 10) || (c == 13)

-- the pieces that blanks part, but the empty ones
abbrev pub words_of : List ℕ → List (List ℕ)
words_of text = filter (λ w. not (length w == 0)) (slice_split is_blank text)

-- the network key and the device key: two words of 32 digits
abbrev pub keys_in : List (List ℕ) → Option NodeKeys
keys_in words =
    if length words == 2
    then (key_word (word_at words 0) >>= λ net_key.
    key_word (word_at words 1) >>= λ dev_key.
    Some (record { net_key = net_key; dev_key = dev_key }))
    else None

abbrev pub keys_of : List ℕ → Option NodeKeys
keys_of text = keys_in (words_of text)
