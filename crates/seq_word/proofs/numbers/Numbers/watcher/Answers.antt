use Rattle.std.proofs.Common.{sym, ap, ◌∙◌, arith}
use Rattle.seq_word.proofs.Moves.{watches}
use Rattle.seq_word.proofs.numbers.Numbers.watcher.Goals as goal

pub split_seat-requires : goal.split_seat-requires
split_seat-requires c =
    let own = ap (λ d. d.which) c.d.view_is ∙ c.requires.made ∙ sym (ap (λ n. n.which) c.self.view_is) in
    (own, omega (arith, c.self.invariant.0), watches _ _ _)
