use Rattle.std.proofs.Common.{subst, sym}
use Rattle.locked_node.specs.Asked.{WasAsked}
use Rattle.locked_node.specs.Node.{node_marks}
use Rattle.node_bearer.proofs.Turning.{asked_front, did_left, did_owing, did_visited, entered, front_by, if_err, off_left, on_ok, on_stop, stopped_bare, taken_same}
use Rattle.node_bearer.proofs.acting.refill.Goals as goal

-- it has seen the job that it draws for, and so the node has it
pub refill-result-requires-clause-asked : goal.refill-result-requires-clause-asked
refill-result-requires-clause-asked g c κs lives =
    let marks = node_marks c.enter-node.result in
    subst (λ n. WasAsked n marks) (sym (taken_same g.F.Flash.chip c.enter-node.result c.args.place.now.turn.now.first c.enter-node.ensures.origin))
    (asked_front c.args.place.now.turn.now.first.machine.taken c.args.b.now.pass.seen marks c.enter-node.ensures.seen c.requires.asked)

pub returns-clause-did : goal.returns-clause-did
returns-clause-did g c = λ k first tasks rest h.
    let b = record c.args.b.now { pass = c.enter-node.new.p; drawer = c.refill-result.new.drawer } in
    let node = c.enter-node.result in
    let owing = did_owing k first tasks rest c.args.b.now c.refill-result.new.drawer c.refill-result.ensures.drawer h in
    let inside = entered k first tasks rest (record c.args.b.now { drawer = c.refill-result.new.drawer }) c.enter-node.new.p node c.enter-node.ensures.seen c.enter-node.ensures.frame owing in
    let front = front_by c.args.b.now.pass c.enter-node.new.p (node_marks node) c.enter-node.ensures.frame in
    on_ok c.refill-result.result (λ same. did_left k first tasks b c.leave.new.p c.refill-result.new.self c.leave.ensures.own c.leave.ensures.frame rest
    (did_visited k first tasks b node c.refill-result.new.self front rest same inside)) c.refill-result.ensures.ok

pub returns-clause-stopped : goal.returns-clause-stopped
returns-clause-stopped g c = λ k first tasks rest h.
    let b = record c.args.b.now { pass = c.enter-node.new.p; drawer = c.refill-result.new.drawer } in
    let node = c.enter-node.result in
    let owing = did_owing k first tasks rest c.args.b.now c.refill-result.new.drawer c.refill-result.ensures.drawer h in
    let inside = entered k first tasks rest (record c.args.b.now { drawer = c.refill-result.new.drawer }) c.enter-node.new.p node c.enter-node.ensures.seen c.enter-node.ensures.frame owing in
    let front = front_by c.args.b.now.pass c.enter-node.new.p (node_marks node) c.enter-node.ensures.frame in
    if_err c.refill-result.result (λ stop. on_stop stop (λ s. off_left k first tasks b c.leave.new.p c.refill-result.new.self c.leave.ensures.own c.leave.ensures.frame rest
    (stopped_bare k first tasks b node c.refill-result.new.self front rest inside s))) c.refill-result.ensures.stopped
