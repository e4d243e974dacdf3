use Rattle.std.proofs.Common.{◌∙◌, ap, refl, sym}
use Rattle.clap.specs.Matches.{found_of}
use Rattle.clap.specs.Words.{subcommand_rows_of}
use Rattle.daemon_words.specs.Commands.{init_with, run_with}
use Rattle.daemon_words.proofs.Spelled.{name_is, told_init, told_run}
use Rattle.daemon_words.proofs.reading.told.Goals as goal

pub returns-in-Some : goal.returns-in-Some
returns-in-Some c =
    let found = c.in-Some in
    record {
      value = λ flags. c.init_with.ensures.value ∙ ap init_with c.read_numbers.ensures.value
          ∙ told_init (subcommand_rows_of c.args.matches.now) (found_of found.found.now) (sym (name_is c.args.matches.now) ∙ found.ensures.found.0 refl) found.ensures.rows;
      numbers = c.init_with.ensures.numbers c.read_numbers.ensures.ranges;
    }

pub returns-in-Some-subcommand_matches : goal.returns-in-Some-subcommand_matches
returns-in-Some-subcommand_matches c =
    let found = c.in-Some-subcommand_matches in
    record {
      value = λ flags. c.run_with.ensures.value ∙ ap (run_with c.get_flag.result) c.read_bearers.ensures.value
          ∙ told_run (subcommand_rows_of c.args.matches.now) (found_of found.found.now) c.get_flag.result
          (sym (name_is c.args.matches.now) ∙ found.ensures.found.0 refl) found.ensures.rows
          c.get_flag.ensures.none c.get_flag.ensures.value c.get_flag.ensures.other flags;
      numbers = c.run_with.ensures.numbers c.read_bearers.ensures.bound;
    }
