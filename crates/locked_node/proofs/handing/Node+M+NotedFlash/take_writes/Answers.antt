use Rattle.locked_node.proofs.HandedOut.{holds_at, holds_handed}
use Rattle.locked_node.proofs.handing.Node+M+NotedFlash.take_writes.Goals as goal

pub invariant_of-self : goal.invariant_of-self
invariant_of-self g c =
    let held = c.deref_mut.result.now in
    let flash = c.take_writes-writes.new.self in
    holds_handed g.M.Machine.stands g.M.Machine.view _ held.machine held.watcher held.start held.flash flash held.stops c.take_writes-writes.ensures.frame
    (λ first over same. c.stays.ensures.kept first held.flash flash over held.machine same)
    (holds_at c.deref_mut.ensures.value (λ x. x.machine) (λ x. x.watcher) (λ x. x.start) (λ x. x.flash) (λ x. x.stops) c.self.invariant)
