use Rattle.std.proofs.Common.{sym, ap, ◌∙◌, arith}
use Rattle.turn_lock.proofs.Moves.{takes_ticket}
use Rattle.turn_lock.proofs.turn.Turn.queue.Goals as goal

pub fetch_add-requires : goal.fetch_add-requires
fetch_add-requires g c =
    let own = c.requires.table ∙ sym (ap (λ t. t.which) c.self.view_is) in
    (own, omega (arith, c.self.invariant.0), takes_ticket _ _ _ _ _ c.args.seat.now.me c.requires.outside c.requires.parts)
