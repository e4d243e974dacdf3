use Rattle.std.proofs.Common.{◌≡◌, ◌<◌, false, subst, sym, ap, ◌∙◌, arith}
use Rattle.turn_lock.proofs.Moves.{splits}
use Rattle.turn_lock.proofs.turn.Turn.split.Goals as goal

pub split_seat-seat-requires : goal.split_seat-seat-requires
split_seat-seat-requires g c =
    let own = ap (λ p. p.which) c.p.view_is ∙ c.requires.pass.which ∙ sym (ap (λ t. t.which) c.self.view_is) in
    let waits : c.p.inside.seat.me.0.waits ≡ false = c.p.invariant.ticket ∙ ap (λ p. p.inside) c.p.view_is ∙ c.requires.outside in
    let two : 1 < c.p.inside.seat.me.0.parts = subst (λ n. 1 < n) (sym (ap (λ p. p.parts) c.p.view_is)) c.requires.two in
    (own, omega (arith, c.self.invariant.0), splits _ _ _ _ c.p.inside.seat.me.0 waits two)
