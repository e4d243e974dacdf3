use Rattle.std.proofs.Common.{sym, ap, ◌∙◌, arith}
use Rattle.seq_word.proofs.Moves.{sees_mark, sees_next}
use Rattle.seq_word.proofs.numbers.Numbers.look.Goals as goal

pub load-mark-requires : goal.load-mark-requires
load-mark-requires c =
    let own = ap (λ d. d.which) c.d.view_is ∙ c.requires.made ∙ sym (ap (λ n. n.which) c.self.view_is) in
    (own, omega (arith, c.self.invariant.0), sees_mark _ _ _ _)

pub load-next-requires : goal.load-next-requires
load-next-requires c =
    let own = c.load-mark.ensures.0 ∙ ap (λ d. d.which) c.d.view_is ∙ c.requires.made ∙ sym (ap (λ n. n.which) c.self.view_is) in
    (own, omega (arith, c.self.invariant.0), sees_next _ _ _ _)
