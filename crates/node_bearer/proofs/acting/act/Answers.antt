use Rattle.std.proofs.Common.{◌++◌, ◌∷◌, ◌≤◌, ap, subst, sym}
use Rattle.run_definitions.specs.Order.{write_tasks}
use Rattle.node_bearer.specs.Marked.{HasEntry}
use Rattle.locked_node.specs.Node.{node_marks}
use Rattle.node_bearer.proofs.Turning.{broke_left, did_left, entered, front_by, if_err, if_ok, on_stop, taken_same}
use Rattle.node_bearer.proofs.acting.act.Goals as goal

pub returns-clause-did : goal.returns-clause-did
returns-clause-did g c = λ first tasks rest task is h.
    let k = c.args.place.now.bearer in
    let b = c.handle_one-result.new.b in
    if_ok c.handle_one-result.result (λ a. did_left k first tasks b c.leave.new.p c.handle_one-result.new.node c.leave.ensures.own c.leave.ensures.frame (write_tasks a.at 0 c.args.event.now a.jobs ++ rest))
    (c.handle_one-result.ensures.did first tasks rest task is (entered k first tasks (task ∷ rest) c.args.b.now c.enter-node.new.p c.enter-node.result c.enter-node.ensures.seen c.enter-node.ensures.frame h))

pub returns-clause-entry : goal.returns-clause-entry
returns-clause-entry g c =
    if_ok c.handle_one-result.result (λ a. subst (λ ms. HasEntry ms a.at c.args.event.now a.jobs c.handle_one-result.new.b.drawer.informed) (sym (ap (λ p. p.seen) c.leave.ensures.frame))) c.handle_one-result.ensures.entry

pub returns-clause-since : goal.returns-clause-since
returns-clause-since g c =
    if_ok c.handle_one-result.result (λ a. subst (λ n. n ≤ a.at) (taken_same g.F.Flash.chip c.enter-node.result c.args.place.now.turn.now.first c.enter-node.ensures.origin)) c.handle_one-result.ensures.since

pub returns-clause-stopped : goal.returns-clause-stopped
returns-clause-stopped g c = λ first tasks rest task is h.
    let k = c.args.place.now.bearer in
    let b = c.handle_one-result.new.b in
    if_err c.handle_one-result.result (λ stop. on_stop stop (broke_left k first tasks b c.leave.new.p c.handle_one-result.new.node c.leave.ensures.own c.leave.ensures.frame))
    (c.handle_one-result.ensures.stopped first tasks rest task is (entered k first tasks (task ∷ rest) c.args.b.now c.enter-node.new.p c.enter-node.result c.enter-node.ensures.seen c.enter-node.ensures.frame h))

pub handle_one-result-requires-clause-seen : goal.handle_one-result-requires-clause-seen
handle_one-result-requires-clause-seen g c κs lives =
    front_by c.args.b.now.pass c.enter-node.new.p (node_marks c.enter-node.result) c.enter-node.ensures.frame
