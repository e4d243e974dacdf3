-- The commands of the program, by the words after its name.
use Rattle.std.specs.Prelude.{ℕ, ◌==◌, ◌+◌, ◌-◌, ◌++◌, ◌&&◌, ◌||◌, not, nat_le, nat_lt, take, drop, if◌then◌else◌, Bool, true, false, List, [], ◌∷◌, length, slice_index_or, codes, Option, Some, None, ⊤}
use Rattle.std.specs.Str.{bytes_eq}
use Rattle.daemon_words.specs.Numbers.{IsBearers, IsNumbers, bearers_word, node_numbers}
use Rattle.daemon_words.specs.declared.commands.Command.{Command}
use Rattle.daemon_words.specs.declared.commands.Command.TheVariants as C
use Rattle.daemon_words.specs.declared.numbers.NodeNumbers.{NodeNumbers}

-- a word that can be the name of a file, or a number: it isn't empty, and doesn't begin with a dash
abbrev pub is_plain : List ℕ → Bool
is_plain [] = false
is_plain (c ∷ cs) = not (c == 45)

-- the word that is wanted, or a plain one where the empty one is
abbrev pub fits : List ℕ → List ℕ → Bool
fits [] word = is_plain word
fits (c ∷ cs) word = bytes_eq word (c ∷ cs)

abbrev pub all_fit : List (List ℕ) → List (List ℕ) → Bool
all_fit [] words = true
all_fit (wanted ∷ form) [] = false
all_fit (wanted ∷ form) (word ∷ words) = fits wanted word && all_fit form words

-- words of a form: each is the one that stands there, or a plain one where the empty one does
abbrev pub is_like : List (List ℕ) → List (List ℕ) → Bool
is_like form words = (length words == length form) && all_fit form words

abbrev pub help : List (List ℕ)
help = codes "--help" ∷ []

abbrev pub version : List (List ℕ)
version = codes "--version" ∷ []

-- `init FILE UNICAST ELEMENTS IV FLAGS NETIDX`
abbrev pub init : List (List ℕ)
init = codes "init" ∷ [] ∷ [] ∷ [] ∷ [] ∷ [] ∷ [] ∷ []

-- `run FILE`, and `--hex` and `--bearers N` in any order
abbrev pub plain : List (List ℕ)
plain = codes "run" ∷ [] ∷ []

abbrev pub hex : List (List ℕ)
hex = codes "run" ∷ [] ∷ codes "--hex" ∷ []

abbrev pub bearers : List (List ℕ)
bearers = codes "run" ∷ [] ∷ codes "--bearers" ∷ [] ∷ []

abbrev pub hex_bearers : List (List ℕ)
hex_bearers = codes "run" ∷ [] ∷ codes "--hex" ∷ codes "--bearers" ∷ [] ∷ []

abbrev pub bearers_hex : List (List ℕ)
bearers_hex = codes "run" ∷ [] ∷ codes "--bearers" ∷ [] ∷ codes "--hex" ∷ []

-- `show FILE` and `check FILE`
abbrev pub show : List (List ℕ)
show = codes "show" ∷ [] ∷ []

abbrev pub check : List (List ℕ)
check = codes "check" ∷ [] ∷ []

abbrev pub word_at : List (List ℕ) → ℕ → List ℕ
word_at words place = slice_index_or words place []

abbrev pub init_with : Option NodeNumbers → Option Command
init_with None = None
init_with (Some numbers) = Some (C.Init numbers)

abbrev pub run_with : Bool → Option ℕ → Option Command
run_with shown None = None
run_with shown (Some n) = Some (C.Run (record { bearers = n; hex = shown; clock = false }))

-- the command that words are which name a file, without a clock
abbrev pub file_command : List (List ℕ) → Option Command
file_command words =
    if is_like init words
    then init_with (node_numbers (word_at words 2) (word_at words 3) (word_at words 4) (word_at words 5) (word_at words 6))
    else if is_like plain words then run_with false (Some 1)
    else if is_like hex words then run_with true (Some 1)
    else if is_like bearers words then run_with false (bearers_word (word_at words 3))
    else if is_like hex_bearers words then run_with true (bearers_word (word_at words 4))
    else if is_like bearers_hex words then run_with true (bearers_word (word_at words 3))
    else if is_like show words then Some C.Show
    else if is_like check words then Some C.Check
    else None

-- `run FILE` with `--clock` among its options: behind FILE, but not behind `--bearers`, which has a word of its own. It is the command of the words
-- without the first `--clock`, with a clock.
abbrev pub clock_place : List (List ℕ) → ℕ
clock_place [] = 0
clock_place (word ∷ words) = if bytes_eq word (codes "--clock") then 0 else clock_place words + 1

abbrev pub is_clocked : List (List ℕ) → ℕ → Bool
is_clocked words place =
    nat_lt place (length words) && (nat_le 2 place && not (bytes_eq (word_at words (place - 1)) (codes "--bearers")))

abbrev pub without_place : List (List ℕ) → ℕ → List (List ℕ)
without_place words place = take place words ++ drop (place + 1) words

abbrev pub with_clock : Option Command → Option Command
with_clock (Some (C.Run ways)) = Some (C.Run (record ways { clock = true }))
with_clock _ = None

abbrev pub option_command : List (List ℕ) → Option Command
option_command words =
    if is_clocked words (clock_place words) then with_clock (file_command (without_place words (clock_place words)))
    else file_command words

abbrev pub command_of : List (List ℕ) → Option Command
command_of words =
    if is_like help words then Some C.Help
    else if is_like version words then Some C.Version
    else option_command words

abbrev pub is_run : List (List ℕ) → Bool
is_run words =
    is_like plain words || is_like hex words || is_like bearers words || is_like hex_bearers words
    || is_like bearers_hex words

-- words of a command of this kind, which names a file
abbrev pub is_spelled : Command → List (List ℕ) → Bool
is_spelled (C.Init numbers) words = is_like init words
is_spelled (C.Run ways) words = is_run words
is_spelled C.Show words = is_like show words
is_spelled C.Check words = is_like check words
is_spelled C.Help words = false
is_spelled C.Version words = false

-- the command, where these are words of its kind
abbrev pub kept : Option Command → List (List ℕ) → Option Command
kept None words = None
kept (Some command) words = if is_spelled command words then Some command else None

-- what a new node is provisioned with is in range, and so is the number of bearers
abbrev pub HasNumbers : Command → Type 0
HasNumbers (C.Init numbers) = IsNumbers numbers
HasNumbers (C.Run ways) = IsBearers ways.bearers
HasNumbers _ = ⊤
