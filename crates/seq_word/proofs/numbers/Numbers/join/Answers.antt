use Rattle.std.proofs.Common.{sym, ap, ◌∙◌, arith}
use Rattle.seq_word.proofs.Moves.{joins}
use Rattle.seq_word.proofs.numbers.Numbers.join.Goals as goal

pub join_seat-requires : goal.join_seat-requires
join_seat-requires c =
    let own = ap (λ d. d.which) c.d.view_is ∙ c.requires.made ∙ sym (ap (λ n. n.which) c.self.view_is) in
    let theirs = ap (λ d. d.which) c.other.view_is ∙ c.requires.other_made ∙ sym (ap (λ n. n.which) c.self.view_is) in
    (own, theirs, c.other.invariant.1, omega (arith, c.self.invariant.0), joins _ _ _ _ _)
