use Rattle.std.proofs.Common.{◌++◌, ◌≤◌, ap, map, subst, sym}
use Rattle.std.specs.Prelude.{slice_index_or}
use Rattle.run_definitions.specs.Order.{handle}
use Rattle.node_bearer.specs.Turns.{left_of}
use Rattle.node_bearer.specs.Marked.{HasEntry}
use Rattle.locked_node.specs.Node.{node_marks}
use Rattle.node_bearer.proofs.Turning.{broke_left, did_left, entered, front_by, if_err, if_ok, on_stop, taken_same}
use Rattle.node_bearer.proofs.acting.act_on.Goals as goal

pub returns-clause-did : goal.returns-clause-did
returns-clause-did g c = λ first tasks rest e h.
    let k = c.args.place.now.bearer in
    let b = c.handle_all-result.new.b in
    let events = c.args.events.now in
    if_ok c.handle_all-result.result (λ a. did_left k first tasks b c.leave.new.p c.handle_all-result.new.node c.leave.ensures.own c.leave.ensures.frame (left_of a e events rest))
    (c.handle_all-result.ensures.did first tasks rest e (entered k first tasks (map (λ x. handle x) events ++ rest) c.args.b.now c.enter-node.new.p c.enter-node.result c.enter-node.ensures.seen c.enter-node.ensures.frame h))

pub returns-clause-entry : goal.returns-clause-entry
returns-clause-entry g c = λ e.
    if_ok c.handle_all-result.result (λ a. subst (λ ms. HasEntry ms a.answered.at (slice_index_or c.args.events.now a.last e) a.answered.jobs c.handle_all-result.new.b.drawer.informed) (sym (ap (λ p. p.seen) c.leave.ensures.frame))) (c.handle_all-result.ensures.entry e)

pub returns-clause-since : goal.returns-clause-since
returns-clause-since g c =
    if_ok c.handle_all-result.result (λ a. subst (λ n. n ≤ a.answered.at) (taken_same g.F.Flash.chip c.enter-node.result c.args.place.now.turn.now.first c.enter-node.ensures.origin)) c.handle_all-result.ensures.since

pub returns-clause-stopped : goal.returns-clause-stopped
returns-clause-stopped g c = λ first tasks rest h.
    let k = c.args.place.now.bearer in
    let b = c.handle_all-result.new.b in
    let events = c.args.events.now in
    if_err c.handle_all-result.result (λ stop. on_stop stop (broke_left k first tasks b c.leave.new.p c.handle_all-result.new.node c.leave.ensures.own c.leave.ensures.frame))
    (c.handle_all-result.ensures.stopped first tasks rest (entered k first tasks (map (λ x. handle x) events ++ rest) c.args.b.now c.enter-node.new.p c.enter-node.result c.enter-node.ensures.seen c.enter-node.ensures.frame h))

pub handle_all-result-requires-clause-seen : goal.handle_all-result-requires-clause-seen
handle_all-result-requires-clause-seen g c κs lives =
    front_by c.args.b.now.pass c.enter-node.new.p (node_marks c.enter-node.result) c.enter-node.ensures.frame
