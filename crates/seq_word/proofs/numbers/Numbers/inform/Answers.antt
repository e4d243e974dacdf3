use Rattle.std.proofs.Common.{◌≡◌, ◌||◌, sym, ap, ◌∙◌, subst, arith}
use Rattle.seq_word.specs.Rule.{IsOver, both, draws_of}
use Rattle.seq_word.specs.Seen.{IsAbove}
use Rattle.seq_word.proofs.Moves.{bounds, informs, joins, shows}
use Rattle.seq_word.proofs.Shown.{shown_above}
use Rattle.seq_word.proofs.numbers.Numbers.inform.Goals as goal

pub split_seat-shown-requires : goal.split_seat-shown-requires
split_seat-shown-requires c =
    let own = ap (λ d. d.which) c.d.view_is ∙ c.requires.drawer_made ∙ sym (ap (λ n. n.which) c.self.view_is) in
    (own, omega (arith, c.self.invariant.0), shows _ _ _)

pub join_seat-requires : goal.join_seat-requires
join_seat-requires c =
    let own = ap (λ k. k.which) c.k.view_is ∙ c.requires.made ∙ sym (ap (λ n. n.which) c.self.view_is) in
    let drawers = ap (λ d. d.which) c.d.view_is ∙ c.requires.drawer_made ∙ sym (ap (λ n. n.which) c.self.view_is) in
    let shown = c.split_seat-shown.ensures in
    (own, shown.3 ∙ drawers, ap (λ m. m.1) shown.4, omega (arith, c.self.invariant.0), joins _ _ _ _ _)

pub load-requires : goal.load-requires
load-requires c =
    let own = c.join_seat.ensures.0 ∙ ap (λ k. k.which) c.k.view_is ∙ c.requires.made ∙ sym (ap (λ n. n.which) c.self.view_is) in
    let keeps = ap (λ m. m.0.keeps) c.join_seat.ensures.2 ∙ ap (λ b. b || c.split_seat-shown.result.me.0.keeps) c.k.invariant.0.keeps in
    (own, omega (arith, c.self.invariant.0), bounds _ _ _ _ keeps)

pub split_seat-seat-requires : goal.split_seat-seat-requires
split_seat-seat-requires c =
    let own = c.load.ensures.0 ∙ c.join_seat.ensures.0 ∙ ap (λ k. k.which) c.k.view_is ∙ c.requires.made ∙ sym (ap (λ n. n.which) c.self.view_is) in
    (own, omega (arith, c.self.invariant.0), informs _ _ _)

pub join_seat-requires-2 : goal.join_seat-requires-2
join_seat-requires-2 c =
    let own = c.split_seat-shown.ensures.0 ∙ ap (λ d. d.which) c.d.view_is ∙ c.requires.drawer_made ∙ sym (ap (λ n. n.which) c.self.view_is) in
    let keepers = c.load.ensures.0 ∙ c.join_seat.ensures.0 ∙ ap (λ k. k.which) c.k.view_is ∙ c.requires.made ∙ sym (ap (λ n. n.which) c.self.view_is) in
    let told = c.split_seat-seat.ensures in
    (own, told.3 ∙ keepers, ap (λ m. m.1) told.4, omega (arith, c.self.invariant.0), joins _ _ _ _ _)

-- the keeper's mark is over what it was told
pub returns-clause-below : goal.returns-clause-below
returns-clause-below c =
    let v = c.k.inside.seat.me.0 in
    let d = c.d.inside.seat.me.0 in
    let met = c.join_seat.new.seat.me.0 in
    let is : met ≡ both v (draws_of d) = ap (λ m. m.0) c.join_seat.ensures.2 ∙ ap (λ m. both v m.0) c.split_seat-shown.ensures.4 in
    let mark : met.mark ≡ c.args.k.now.mark = ap (λ w. w.mark) is ∙ ap (λ k. k.mark) c.k.view_is in
    subst (λ y. IsAbove y c.args.k.now.mark) c.d.view_is (shown_above _ v d met c.args.k.now.mark is (subst (λ x. IsOver x met) mark c.load.ensures.2.1))
