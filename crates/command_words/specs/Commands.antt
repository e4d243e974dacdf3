-- The commands of the program, by the words after its name.
use Rattle.std.specs.Prelude.{ℕ, ◌==◌, ◌||◌, ◌&&◌, if◌then◌else◌, Bool, true, false, List, [], length, slice_index_or, codes, Option, Some, None, ◌≤◌, ⊤}
use Rattle.std.specs.Option.{option_map_or}
use Rattle.std.specs.Str.{bytes_eq}
use Rattle.command_words.specs.Numbers.{count_word, number_word}
use Rattle.command_words.specs.declared.commands.Command.{Command}
use Rattle.command_words.specs.declared.commands.Command.TheVariants as C
use Rattle.command_words.specs.declared.commands.NodeKind.TheVariants as N
use Rattle.command_words.specs.declared.commands.RunFlags.{RunFlags}

abbrev pub is_at : List (List ℕ) → ℕ → List ℕ → Bool
is_at words place word = bytes_eq (slice_index_or words place []) word

-- one word
abbrev pub is_word : List (List ℕ) → List ℕ → Bool
is_word words word = (length words == 1) && is_at words 0 word

-- the word of a command and one flag
abbrev pub has_flag : List (List ℕ) → List ℕ → List ℕ → Bool
has_flag words command flag = (length words == 2) && is_at words 0 command && is_at words 1 flag

-- `run` and two flags
abbrev pub has_flags : List (List ℕ) → List ℕ → List ℕ → Bool
has_flags words first second =
    (length words == 3) && is_at words 0 (codes "run") && is_at words 1 first && is_at words 2 second

-- `run` with its flags, each once, in any order
abbrev pub is_run : RunFlags → List (List ℕ) → Bool
is_run flags words =
    if flags.hex && flags.old
    then has_flags words (codes "--hex") (codes "--old") || has_flags words (codes "--old") (codes "--hex")
    else if flags.hex then has_flag words (codes "run") (codes "--hex")
    else if flags.old then has_flag words (codes "run") (codes "--old")
    else is_word words (codes "run")

-- `lpn`, alone or with `--hex`
abbrev pub is_low_power : RunFlags → List (List ℕ) → Bool
is_low_power flags words =
    if flags.old then false
    else if flags.hex then has_flag words (codes "lpn") (codes "--hex")
    else is_word words (codes "lpn")

-- the word at a place stands for this number
abbrev pub is_number : Option ℕ → ℕ → Bool
is_number o n = option_map_or (λ m. m == n) o false

-- `gen`, and two words
abbrev pub is_generate : List (List ℕ) → Bool
is_generate words = (length words == 3) && is_at words 0 (codes "gen")

abbrev pub word_at : List (List ℕ) → ℕ → List ℕ
word_at words place = slice_index_or words place []

-- the words of a command
abbrev pub is_spelled : Command → List (List ℕ) → Bool
is_spelled (C.Run N.Node flags) words = is_run flags words
is_spelled (C.Run N.LowPower flags) words = is_low_power flags words
is_spelled C.Audit words = is_word words (codes "audit")
is_spelled (C.Generate count start) words =
    is_generate words && is_number (count_word (word_at words 1)) count
    && is_number (number_word (word_at words 2)) start

abbrev pub run : Bool → Bool → Command
run hex old = C.Run N.Node (record { hex = hex; old = old })

abbrev pub low_power : Bool → Command
low_power hex = C.Run N.LowPower (record { hex = hex; old = false })

-- `gen` with these numbers, where there are both
abbrev pub generate : Option ℕ → Option ℕ → Option Command
generate (Some count) (Some start) = Some (C.Generate count start)
generate _ _ = None

-- `gen COUNT START`
abbrev pub generate_of : List (List ℕ) → Option Command
generate_of words = generate (count_word (word_at words 1)) (number_word (word_at words 2))

-- the command that is spelled so
abbrev pub command_of : List (List ℕ) → Option Command
command_of words =
    if is_spelled (run false false) words then Some (run false false)
    else if is_spelled (run true false) words then Some (run true false)
    else if is_spelled (run false true) words then Some (run false true)
    else if is_spelled (run true true) words then Some (run true true)
    else if is_spelled (low_power false) words then Some (low_power false)
    else if is_spelled (low_power true) words then Some (low_power true)
    else if is_spelled C.Audit words then Some C.Audit
    else if is_generate words then generate_of words
    else None

-- the command, where these are its words
abbrev pub kept : Option Command → List (List ℕ) → Option Command
kept None words = None
kept (Some command) words = if is_spelled command words then Some command else None

-- a script that is generated has 1 to 32,768 lines
abbrev pub HasFew : Command → Type 0
HasFew (C.Generate count start) = (1 ≤ count) × (count ≤ 32768)
HasFew _ = ⊤
