use Rattle.std.proofs.Common.{[], ◌∷◌, ◌++◌, append_assoc, sym, ap, ◌∙◌, arith}
use Rattle.seq_word.specs.declared.looks.Look.TheVariants as saw
use Rattle.seq_word.proofs.Moves.{draws}
use Rattle.seq_word.proofs.numbers.Numbers.try_draw.Goals as goal

pub returns-then-next-mark-clause-cause : goal.returns-then-next-mark-clause-cause
returns-then-next-mark-clause-cause c =
    (c.look-mark.ensures.looks, c.if-next-mark.true, omega (arith, c.pair_of-pair.ensures.seq, c.look-mark.ensures.word.1), ap (λ s. s.table_id) c.of-by.ensures ∙ ap (λ d. d.which) c.d.view_is)

pub compare_exchange-found-requires : goal.compare_exchange-found-requires
compare_exchange-found-requires c =
    let own = ap (λ d. d.which) c.d.view_is ∙ c.look-mark.ensures.unchanged.which ∙ c.requires.made ∙ sym (ap (λ n. n.which) c.self.view_is) in
    let seen = ap (λ d. d.looks) c.d.view_is ∙ c.look-mark.ensures.looks in
    (own, omega (arith, c.self.invariant.0), draws _ _ _ _ c.args.d.now.looks c.look-mark.result.next c.look-mark.result.mark c.d.invariant.0.draws seen (omega arith) (omega (arith, c.pair_of-pair.ensures.seq, c.look-mark.ensures.word.1)))

pub returns-then-found-next-clause-cause : goal.returns-then-found-next-clause-cause
returns-then-found-next-clause-cause c =
    let found = c.compare_exchange-found.result in
    let lost = c.compare_exchange-found.ensures.2.3 c.if-found-next.true in
    let looks = ap (λ m. m.0.looks) lost.0 ∙ ap (λ d. d.looks ++ saw.Counter found ∷ []) c.d.view_is ∙ ap (λ l. l ++ saw.Counter found ∷ []) c.look-mark.ensures.looks ∙ append_assoc c.args.d.now.looks (saw.Mark c.look-mark.result.mark ∷ saw.Counter c.look-mark.result.next ∷ []) (saw.Counter found ∷ []) in
    (c.look-mark.result.mark, looks, lost.1, omega arith, omega (arith, c.pair_of-pair.ensures.seq, c.look-mark.ensures.word.1))

pub returns-clause-found : goal.returns-clause-found
returns-clause-found c =
    let won = (c.compare_exchange-found.ensures.2.2 c.if-found-next.false).0 in
    record {
      mark = c.look-mark.result.mark;
      looks = ap (λ m. m.0.looks) won ∙ ap (λ d. d.looks) c.d.view_is ∙ c.look-mark.ensures.looks ∙ ap (λ w. c.args.d.now.looks ++ saw.Mark c.look-mark.result.mark ∷ saw.Counter w ∷ []) (sym c.pair_of-pair.ensures.value);
      below = omega (arith, c.pair_of-pair.ensures.value);
    }
