-- What `clap` is told of the commands that name a file, and what its matches tell.
use Rattle.std.specs.Prelude.{◌≡◌, ◌⊎◌, ℕ, true, false, Bool, if◌then◌else◌, List, codes, Option, Some, None, ⊤}
use Rattle.std.specs.Option.{option_map_or}
use Rattle.std.specs.Str.{bytes_eq}
use Rattle.clap.specs.Walk.{Row, Rule, Text, first_of, one_of}
use Rattle.clap.specs.Simple.{App, new_app, new_rule, with_rule, with_subcommand}
use Rattle.clap.specs.declared.builder.action.ArgAction.TheVariants.{Set, SetTrue}
use Rattle.clap.specs.declared.builder.command.Command.{Command as ClapCommand}
use Rattle.clap.specs.declared.builder.command.Command.TheViews.{out-Command}
use Rattle.script_definitions.specs.Digits.{◌>>=◌}
use Rattle.daemon_words.specs.Commands.{init_with, run_with}
use Rattle.daemon_words.specs.Numbers.{bearers_word, node_numbers}
use Rattle.daemon_words.specs.declared.commands.Command.{Command}
use Rattle.daemon_words.specs.declared.commands.Command.TheVariants as C
use Rattle.daemon_words.specs.declared.numbers.NodeNumbers.{NodeNumbers}

abbrev pub flag : Text → Rule
flag name = record (new_rule name) { long = Some name; action = Some SetTrue }

abbrev pub choice : Text → Rule
choice name = record (new_rule name) { long = Some name; action = Some Set }

-- a word that has to stand there
abbrev pub place : Text → Rule
place name = record (new_rule name) { required = true }

-- whether no argument of a command is one of its subcommands too
abbrev pub IsLocal : ClapCommand → Type 0
IsLocal c = (out-Command c).has_globals ≡ false

-- a command that names a file
abbrev pub file_reader : Text → App
file_reader name = with_rule (new_app name) (place (codes "FILE"))

abbrev pub init : App
init = with_rule (with_rule (with_rule (with_rule (with_rule (file_reader (codes "init")) (place (codes "UNICAST")))
    (place (codes "ELEMENTS"))) (place (codes "IV"))) (place (codes "FLAGS"))) (place (codes "NETIDX"))

abbrev pub run : App
run = with_rule (with_rule (file_reader (codes "run")) (choice (codes "bearers"))) (flag (codes "hex"))

abbrev pub bare : App
bare = record (new_app (codes "meshnoded")) { top = record (new_app (codes "meshnoded")).top { no_binary_name = true } }

abbrev pub reader : App
reader = with_subcommand (with_subcommand (with_subcommand (with_subcommand bare init.top) run.top)
    (file_reader (codes "show")).top) (file_reader (codes "check")).top

-- the numbers, where all words are there
abbrev pub read_numbers : Option Text → Option Text → Option Text → Option Text → Option Text → Option NodeNumbers
read_numbers unicast elements iv flags net_index =
    unicast >>= λ unicast. elements >>= λ elements. iv >>= λ iv. flags >>= λ flags. net_index >>= λ net_index.
    node_numbers unicast elements iv flags net_index

-- the number of bearers, which is 1 where it isn't said
abbrev pub read_bearers : Option Text → Option ℕ
read_bearers None = Some 1
read_bearers (Some word) = bearers_word word

-- whether a flag was given
abbrev pub has_flag : Text → List Row → Bool
has_flag id rows = option_map_or (λ text. bytes_eq text (codes "true")) (one_of id rows) false

-- the command of a subcommand that was entered
abbrev pub told_of : Text → List Row → Option Command
told_of name rows =
    if bytes_eq name (codes "init")
    then init_with (read_numbers (first_of (codes "UNICAST") rows) (first_of (codes "ELEMENTS") rows)
    (first_of (codes "IV") rows) (first_of (codes "FLAGS") rows) (first_of (codes "NETIDX") rows))
    else if bytes_eq name (codes "run")
    then run_with (has_flag (codes "hex") rows) (read_bearers (first_of (codes "bearers") rows))
    else if bytes_eq name (codes "show") then Some C.Show
    else if bytes_eq name (codes "check") then Some C.Check
    else None

abbrev pub told : Option (Text × List Row) → Option Command
told None = None
told (Some p) = told_of p.0 p.1

-- the text of a flag that was given or not
abbrev pub IsFlag : Option Text → Type 0
IsFlag None = ⊤
IsFlag (Some text) = (text ≡ codes "true") ⊎ (text ≡ codes "false")

abbrev pub AreFlags : Option (Text × List Row) → Type 0
AreFlags None = ⊤
AreFlags (Some p) = IsFlag (one_of (codes "hex") p.1)
