use Rattle.mesh_node.proofs.HandedOn.{handed_on}
use Rattle.mesh_node.proofs.Holding.{held_view}
use Rattle.mesh_node.proofs.held.HeldLife+M+NotedFlash.take_writes.Goals as goal

pub returns-clause-held : goal.returns-clause-held
returns-clause-held g c phases did h =
    let old = c.self.inside.going in
    handed_on _ (held_view old.node old.seats.numbers old.seats.drawer old.seats.counts.items) c.self.view_is phases did h c.take_writes-writes.new.self c.take_writes-writes.ensures.frame c.known.ensures.known
