use Rattle.std.proofs.Common.{ap, arith}
use Rattle.seq_word.proofs.Moves.{begins, opens}
use Rattle.seq_word.proofs.numbers.Numbers.start.Goals as goal

pub of_words-requires : goal.of_words-requires
of_words-requires c = begins c.args.first c.requires.word

pub split_seat-requires : goal.split_seat-requires
split_seat-requires c =
    let made = c.in_ok-table.ensures in
    (made.2, omega (arith, made.0), opens _ _ _ (ap (λ m. m.0.draws) made.4) (omega (arith, ap (λ m. m.0.parts) made.4)))
