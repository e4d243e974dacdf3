use Rattle.std.proofs.Common.{◌≡◌, false, subst, sym, ap, ◌∙◌, arith}
use Rattle.turn_lock.specs.Entries.{IsLongerOf, StandFrom}
use Rattle.turn_lock.specs.Views.{IsAtRest, informed}
use Rattle.turn_lock.proofs.Moves.{joins, is_told}
use Rattle.turn_lock.proofs.Rests.{joined_rests}
use Rattle.turn_lock.proofs.turn.Turn.join.Goals as goal

pub join_seat-requires : goal.join_seat-requires
join_seat-requires g c =
    let lock = sym (ap (λ t. t.which) c.self.view_is) in
    let own = ap (λ p. p.which) c.p.view_is ∙ c.requires.pass.which ∙ lock in
    let other_own = ap (λ p. p.which) c.other.view_is ∙ c.requires.other.which ∙ lock in
    let outside : c.p.inside.seat.me.0.inside ≡ false = ap (λ p. p.inside) c.p.view_is ∙ c.requires.outside.0 in
    let other_outside : c.other.inside.seat.me.0.inside ≡ false = ap (λ p. p.inside) c.other.view_is ∙ c.requires.outside.1 in
    (own, other_own, c.other.invariant.outside other_outside, omega (arith, c.self.invariant.0), joins _ _ _ _ c.p.inside.seat.me.0 _ c.other.inside.seat.me.0 (c.p.invariant.ticket ∙ outside) (c.other.invariant.ticket ∙ other_outside) c.p.invariant.parts)

pub load-requires : goal.load-requires
load-requires g c =
    let own = c.join_seat.ensures.0 ∙ ap (λ p. p.which) c.p.view_is ∙ c.requires.pass.which ∙ sym (ap (λ t. t.which) c.self.view_is) in
    let outside : c.join_seat.new.seat.me.0.inside ≡ false = ap (λ m. m.0.inside) c.join_seat.ensures.2 ∙ ap (λ p. p.inside) c.p.view_is ∙ c.requires.outside.0 in
    (own, omega (arith, c.self.invariant.0), is_told _ _ _ _ _ c.join_seat.new.seat.me outside)

-- what the seat has after both steps
pub invariant_of-p : goal.invariant_of-p
invariant_of-p g c =
    let v = c.p.inside.seat.me.0 in
    let w = c.other.inside.seat.me.0 in
    let told = c.load.ensures.2 in
    let outside : v.inside ≡ false = ap (λ p. p.inside) c.p.view_is ∙ c.requires.outside.0 in
    let met = c.join_seat.ensures.2 in
    let longest = subst (λ m. IsLongerOf m.0.seen m.0.told told.0) met told.3 in
    let stands = subst (λ m. StandFrom 0 told.1 m.0.own) met told.5 in
    let after = told.2 ∙ ap (λ m. (informed m.0 told.0, m.1)) met in
    subst (λ m. IsAtRest m c.p.inside.found) (sym after) (joined_rests v w _ _ _ _ told.0 told.1 c.p.invariant c.other.invariant outside longest told.4 stands)

pub returns-clause-stands : goal.returns-clause-stands
returns-clause-stands g c = (invariant_of-p g c).own
