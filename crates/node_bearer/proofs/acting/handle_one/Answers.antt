use Rattle.std.proofs.Common.{◌≡◌, ◌⊎◌, ◌∙◌, ◌+◌, ◌∷◌, ◌++◌, inl, inr, map, refl, sym}
use Rattle.node_bearer.specs.Turns.{after_turn}
use Rattle.mesh_types.specs.declared.history.Entry.{Entry}
use Rattle.machine_contract.specs.View.{entry_for}
use Rattle.run_definitions.specs.Order.{write_tasks}
use Rattle.locked_node.specs.Node.{behind_last, node_marks}
use Rattle.machine_contract.specs.Opening.{found_of}
use Rattle.seq_word.specs.Seen.{IsAbove, last_word}
use Rattle.locked_node.proofs.Told.{moves_long}
use Rattle.node_bearer.specs.Marked.{move_of}
use Rattle.node_bearer.proofs.Moving.{last_told}
use Rattle.node_bearer.proofs.Turning.{did_handled, did_told, entry_here, on_stop, stopped_at, stops}
use Rattle.node_bearer.proofs.acting.handle_one.Goals as goal

pub returns-clause-did : goal.returns-clause-did
returns-clause-did g c = λ first tasks rest task is h.
    let b = c.args.b.now in
    let a = c.in_ok-answered.answered in
    let k = c.args.place.now.bearer in
    let e : Entry = entry_for c.args.node.now.machine k (b.number + 1) c.args.event.now a.answer a.jobs in
    let node = c.args.node.now in
    let new = c.handle.new.self in
    let behind = behind_last new in
    let long = moves_long g.M.Machine.role g.M.Machine.image (found_of (g.F.Flash.chip node.start)) (g.F.Flash.chip node.flash) c.known.ensures.known.over node.machine c.known.ensures.known.life in
    let until : (behind.moved ≡ last_word (map move_of (node_marks node))) ⊎ IsAbove b.drawer behind.moved = elim (c.in_ok-answered.ensures.until) [
      | inl same ↦ inl (same ∙ sym (last_told node new e behind long c.in_ok-answered.ensures.ok))
      | inr above ↦ inr above
    ] in
    let did =
    did_handled k first tasks b node new c.requires.seen task rest c.args.event.now e behind a.at is h c.in_ok-answered.ensures.ok c.in_ok-answered.ensures.place refl refl refl until c.in_ok-answered.ensures.above in
    did_told k first tasks (write_tasks a.at 0 c.args.event.now a.jobs ++ rest) (after_turn (record b { number = b.number + 1 }) new) c.handle.new.drawer c.handle.ensures.drawer did

pub returns-clause-entry : goal.returns-clause-entry
returns-clause-entry g c =
    let a = c.in_ok-answered.answered in
    let e : Entry = entry_for c.args.node.now.machine c.args.place.now.bearer (c.args.b.now.number + 1) c.args.event.now a.answer a.jobs in
    entry_here (node_marks c.args.node.now) (node_marks c.handle.new.self) c.args.event.now e (behind_last c.handle.new.self) a.at c.handle.new.drawer.informed
    c.in_ok-answered.ensures.ok c.in_ok-answered.ensures.place c.in_ok-answered.ensures.informed refl

pub returns-in_err-answered-clause-stopped : goal.returns-in_err-answered-clause-stopped
returns-in_err-answered-clause-stopped g c = λ first tasks rest task is h.
    let k = c.args.place.now.bearer in
    let b = c.args.b.now in
    let told = did_told k first tasks (task ∷ rest) (after_turn b c.args.node.now) c.handle.new.drawer c.handle.ensures.drawer h in
    stops _ c.from_residual.result c.in_err-answered.field-0.0 c.from_residual.ensures.1 (on_stop c.in_err-answered.field-0.0
    (stopped_at k first tasks (record b { drawer = c.handle.new.drawer }) c.args.node.now c.handle.new.self c.requires.seen task rest c.args.event.now is told) c.in_err-answered.ensures.stopped)
