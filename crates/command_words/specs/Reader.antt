-- What `clap` is told of the commands, and what its matches tell.
use Rattle.std.specs.Prelude.{◌≡◌, ◌⊎◌, true, false, Bool, if◌then◌else◌, List, codes, Option, Some, None, option_and_then, ⊤}
use Rattle.std.specs.Option.{option_map_or}
use Rattle.std.specs.Str.{bytes_eq}
use Rattle.clap.specs.Walk.{Row, Rule, Text, first_of, one_of}
use Rattle.clap.specs.Simple.{App, new_app, new_rule, with_rule, with_subcommand}
use Rattle.clap.specs.declared.builder.action.ArgAction.TheVariants.{SetTrue}
use Rattle.clap.specs.declared.builder.command.Command.{Command as ClapCommand}
use Rattle.clap.specs.declared.builder.command.Command.TheViews.{out-Command}
use Rattle.command_words.specs.Commands.{generate, low_power}
use Rattle.command_words.specs.Commands as Said
use Rattle.command_words.specs.Numbers.{count_word, number_word}
use Rattle.command_words.specs.declared.commands.Command.{Command}
use Rattle.command_words.specs.declared.commands.Command.TheVariants as C

abbrev pub flag : Text → Rule
flag name = record (new_rule name) { long = Some name; action = Some SetTrue }

abbrev pub hex : Rule
hex = flag (codes "hex")

abbrev pub old : Rule
old = flag (codes "old")

abbrev pub named_run : App
named_run = new_app (codes "run")

abbrev pub run : App
run = with_rule (with_rule named_run hex) old

abbrev pub named_lpn : App
named_lpn = new_app (codes "lpn")

abbrev pub lpn : App
lpn = with_rule named_lpn hex

-- whether no argument of a command is one of its subcommands too
abbrev pub IsLocal : ClapCommand → Type 0
IsLocal c = (out-Command c).has_globals ≡ false

abbrev pub audit : App
audit = new_app (codes "audit")

-- a word that has to stand there
abbrev pub place : Text → Rule
place name = record (new_rule name) { required = true }

abbrev pub named_gen : App
named_gen = new_app (codes "gen")

abbrev pub gen : App
gen = with_rule (with_rule named_gen (place (codes "COUNT"))) (place (codes "START"))

abbrev pub bare : App
bare = record (new_app (codes "meshnode")) { top = record (new_app (codes "meshnode")).top { no_binary_name = true } }

abbrev pub reader : App
reader =
    with_subcommand (with_subcommand (with_subcommand (with_subcommand bare run.top) lpn.top) audit.top) gen.top

-- whether a flag was given
abbrev pub has_flag : Text → List Row → Bool
has_flag id rows = option_map_or (λ text. bytes_eq text (codes "true")) (one_of id rows) false

-- the command of a subcommand that was entered
abbrev pub told_of : Text → List Row → Option Command
told_of name rows =
    if bytes_eq name (codes "run")
    then Some (Said.run (has_flag (codes "hex") rows) (has_flag (codes "old") rows))
    else if bytes_eq name (codes "lpn") then Some (low_power (has_flag (codes "hex") rows))
    else if bytes_eq name (codes "audit") then Some C.Audit
    else if bytes_eq name (codes "gen")
    then generate (option_and_then count_word (first_of (codes "COUNT") rows))
    (option_and_then number_word (first_of (codes "START") rows))
    else None

abbrev pub told : Option (Text × List Row) → Option Command
told None = None
told (Some p) = told_of p.0 p.1

-- the text of a flag that was given or not
abbrev pub IsFlag : Option Text → Type 0
IsFlag None = ⊤
IsFlag (Some text) = (text ≡ codes "true") ⊎ (text ≡ codes "false")

abbrev pub AreFlags : Option (Text × List Row) → Type 0
AreFlags None = ⊤
AreFlags (Some p) = IsFlag (one_of (codes "hex") p.1) × IsFlag (one_of (codes "old") p.1)
