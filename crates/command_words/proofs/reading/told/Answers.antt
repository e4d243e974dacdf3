use Rattle.std.proofs.Common.{◌∙◌, refl, sym}
use Rattle.clap.specs.Matches.{found_of}
use Rattle.clap.specs.Words.{subcommand_rows_of}
use Rattle.command_words.proofs.Spelled.{name_is, told_gen, told_low, told_run}
use Rattle.command_words.proofs.reading.told.Goals as goal

pub returns-in-Some : goal.returns-in-Some
returns-in-Some c = record {
  value = λ flags. told_run (subcommand_rows_of c.args.matches.now) (found_of c.in-Some.run'.now) c.get_flag.result c.get_flag-in-Some.result
      (sym (name_is c.args.matches.now) ∙ c.in-Some.ensures.found.0 refl) c.in-Some.ensures.rows
      c.get_flag.ensures.none c.get_flag.ensures.value c.get_flag.ensures.other
      c.get_flag-in-Some.ensures.none c.get_flag-in-Some.ensures.value c.get_flag-in-Some.ensures.other flags;
}

pub returns-in-Some-subcommand_matches-3 : goal.returns-in-Some-subcommand_matches-3
returns-in-Some-subcommand_matches-3 c =
    let found = c.in-Some-subcommand_matches-3 in
    record {
      value = λ flags. c.generate.ensures.value
          ∙ told_gen (subcommand_rows_of c.args.matches.now) (found_of found.found.now) (sym (name_is c.args.matches.now) ∙ found.ensures.found.0 refl) found.ensures.rows;
    }

pub returns-in-Some-subcommand_matches : goal.returns-in-Some-subcommand_matches
returns-in-Some-subcommand_matches c =
    let found = c.in-Some-subcommand_matches in
    record {
      value = λ flags. told_low (subcommand_rows_of c.args.matches.now) (found_of found.low_power.now) c.get_flag-in-Some-subcommand_matches.result
          (sym (name_is c.args.matches.now) ∙ found.ensures.found.0 refl) found.ensures.rows
          c.get_flag-in-Some-subcommand_matches.ensures.none c.get_flag-in-Some-subcommand_matches.ensures.value c.get_flag-in-Some-subcommand_matches.ensures.other flags;
    }
