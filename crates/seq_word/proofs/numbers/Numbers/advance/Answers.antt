use Rattle.std.proofs.Common.{sym, ap, ◌∙◌, arith}
use Rattle.seq_word.proofs.Moves.{lifts, advances}
use Rattle.seq_word.proofs.numbers.Numbers.advance.Goals as goal

pub store-requires : goal.store-requires
store-requires c =
    let own = ap (λ k. k.which) c.k.view_is ∙ c.requires.made ∙ sym (ap (λ n. n.which) c.self.view_is) in
    let same = ap (λ k. k.mark) c.k.view_is in
    (own, omega (arith, c.self.invariant.0), lifts _ _ _ _ _ c.k.invariant.0.keeps (omega (arith, same, c.requires.up, c.from-to.ensures)) (omega (arith, c.from-to.ensures), omega (arith, c.from-to.ensures)))

pub fetch_max-requires : goal.fetch_max-requires
fetch_max-requires c =
    let own = c.store.ensures.0 ∙ ap (λ k. k.which) c.k.view_is ∙ c.requires.made ∙ sym (ap (λ n. n.which) c.self.view_is) in
    let keeps = ap (λ m. m.0.keeps) c.store.ensures.2 ∙ c.k.invariant.0.keeps in
    (own, omega (arith, c.self.invariant.0), advances _ _ _ _ _ keeps (ap (λ m. m.0.mark) c.store.ensures.2) (omega (arith, c.from-to.ensures), omega (arith, c.from-to.ensures)) (omega (arith, c.from-to.ensures)))
