use Rattle.std.proofs.Common.{refl, false, List, ◌+◌, ◌≤◌, ◌≢◌, None, ◌≡◌, ◌∙◌, Some, map, ap, sym, subst}
use Rattle.std.specs.Prelude.{All, IfSome}
use Rattle.flash_model.specs.Chip.{Setting}
use Rattle.mesh_types.specs.declared.report.Opened.TheVariants as W
use Rattle.store_definitions.specs.Config.{config_of}
use Rattle.life_laws.specs.declared.plan.LifeLog.{LifeLog}
use Rattle.run_definitions.specs.Order.{phases_of}
use Rattle.mesh_node.specs.Going.{IsOver}
use Rattle.mesh_node.specs.Lives.{cut_calls}
use Rattle.life_laws.specs.Plan.{IsStep, steps_of}
use Rattle.mesh_node.specs.Ran.{Ran}
use Rattle.mesh_node.specs.Steps.{HasGiven, IsSameOrOf, MayFollow}
use Rattle.mesh_node.proofs.Arming.{behind_all, behind_phases, order_whole}
use Rattle.mesh_node.proofs.Closing.{ran}
use Rattle.mesh_node.specs.Left.{Closes}
use Rattle.mesh_node.proofs.Placed.{given_right}
use Rattle.record_types.specs.declared.records.StoreRecord.{StoreRecord}
use Rattle.mesh_node.specs.Given.{IsSameOrPlaced, WasGiven}
use Rattle.seq_word.specs.Rule.{once_below, passed_over, times}
use Rattle.seq_word.specs.Word.{seq_of}
use Rattle.store_definitions.specs.Recovered.{IsRecovered}
use Rattle.mesh_node.proofs.Giving.{given_whole}
use Rattle.mesh_node.proofs.living.run_life.Goals as goal
use Rattle.mesh_node.proofs.Moving.{moved_by}
use Rattle.machine_contract.specs.Moved.{HasMoved}
use Rattle.machine_contract.specs.Opening.{found_of}

pub new-requires-clause-later : goal.new-requires-clause-later
new-requires-clause-later g c κs lives =
    let kept = c.requires.kept in
    record { faults = kept.later; steady = kept.steady; began = ap (λ (s : Setting). s.faults) kept.setting; cycles = ap (λ (s : Setting). s.cycles) kept.setting; past = kept.past }

-- it opens at the mark that the records say
pub new-requires-clause-published : goal.new-requires-clause-published
new-requires-clause-published g c κs lives = λ over read.
    let s = c.requires.started in
    s.published ∙ ap (λ o. (config_of o).mark) (c.one_list_is_recovered.ensures.one_list (g.F.Flash.chip c.args.start).now s.over over s.read read)

-- the elements of the node are those that the records say
pub do_steps-requires-clause-steps : goal.do_steps-requires-clause-steps
do_steps-requires-clause-steps g c κs lives =
    let s = c.requires.started in
    let bearers = c.args.plan.now.bearers in
    let life = c.tells.ensures.known (found_of (g.F.Flash.chip c.args.start)) c.args.flash s.over c.args.started.machine s.tie in
    let elements = ap (λ n. n.machine.elements) c.in_ok-opened.ensures.value ∙ life.elements in
    let whole = c.args.plan.now.steps.items in
    subst (λ n. All (IsStep bearers n) c.args.steps.now) (sym elements)
    (subst (All (IsStep bearers (config_of s.over).elements)) (sym c.requires.behind) (behind_all (IsStep bearers (config_of s.over).elements) whole (c.requires.steps s.over s.read)))

pub do_steps-requires-clause-may : goal.do_steps-requires-clause-may
do_steps-requires-clause-may g c κs lives =
    subst (λ n. MayFollow c.args.steps.now (g.F.Flash.chip n.flash).setting.arm) (sym c.in_ok-opened.ensures.value) c.requires.may

-- the node as `do_steps` left it, and what `close` says of the two words
pub returns : goal.returns
returns g c =
    let chip = g.F.Flash.chip in
    let started = c.args.started in
    let s = c.requires.started in
    let start = c.args.start in
    let node = c.in_ok-node.node in
    let machine = c.into_parts-machine.ensures.machine in
    let items = c.args.plan.now.steps.items in
    let plan = steps_of items in
    let did = c.in_ok-node.ensures in
    let lines = map (λ v. v.items) c.in_ok-node.told.sends.items in
    let phases = ap (λ xs. phases_of (steps_of xs)) c.requires.behind ∙ behind_phases items in
    let over = subst (λ ps. IsOver ps node c.do_steps.new.seats.drawer lines) phases did.over in
    let before = (chip c.args.flash).setting.arm in
    let order = order_whole items before (chip node.flash).setting.arm c.requires.order
    (subst (λ xs. IsSameOrOf (steps_of xs) before (chip node.flash).setting.arm) c.requires.behind
    (subst (λ n. IsSameOrOf (steps_of c.args.steps.now) (chip n.flash).setting.arm (chip node.flash).setting.arm) c.in_ok-opened.ensures.value did.arm)) in
    let log : LifeLog = record { opened = W.On started.state started.mark; history = record { entries = c.in_ok-node.told.entries; refills = c.finish-left.result.0.refills }; sends = c.in_ok-node.told.sends; drawn = Some c.close-drawn.result; end = c.end_of-end.result; early = c.early_reads-early.result } in
    let opened : log.opened ≡ W.On (config_of s.over).iv (config_of s.over).mark = ap (λ v. W.On v started.mark) s.state ∙ ap (W.On (config_of s.over).iv) s.mark in
    let held = subst (λ n. (chip n.flash).setting.arm ≢ None → (chip node.flash).setting.arm ≢ None) c.in_ok-opened.ensures.value did.held in
    let given : node.stops ≡ 0 → HasGiven plan (chip node.flash).setting.arm =
    λ live. given_whole items before (chip node.flash).setting.arm c.requires.first held (subst (λ xs. HasGiven (steps_of xs) (chip node.flash).setting.arm) c.requires.behind (did.given live)) in
    let calls = subst (λ k. IfSome (cut_calls c.end_of-end.result) (λ n. n ≡ k)) (c.changes.ensures ∙ ap (λ f. (chip f).changes) c.into_parts-machine.ensures.flash) c.end_of-end.ensures.calls in
    let placed : (over : List StoreRecord) → IsRecovered (chip start).now over → IfSome (chip node.flash).setting.arm (WasGiven g.M.Machine.view (g.M.Machine.stands (found_of (chip start))) chip over node.machine lines plan) = λ over read. given_right g.M.Machine.view (g.M.Machine.stands (found_of (chip start))) chip over node.machine lines items before (chip node.flash).setting.arm c.requires.armed
    (subst (λ xs. IsSameOrPlaced g.M.Machine.view (g.M.Machine.stands (found_of (chip start))) chip over node.machine lines (steps_of xs) before (chip node.flash).setting.arm) c.requires.behind
    (subst (λ n. IsSameOrPlaced g.M.Machine.view (g.M.Machine.stands (found_of (chip n.start))) chip over node.machine lines (steps_of c.args.steps.now) (chip n.flash).setting.arm (chip node.flash).setting.arm) c.in_ok-opened.ensures.value
    (did.placed over (subst (λ n. IsRecovered (chip n.start).now over) (sym c.in_ok-opened.ensures.value) read)))) in
    let close = c.close-drawn.ensures in
    let words = c.do_steps.new.seats in
    let closes : Closes words.drawer c.close-drawn.result words.numbers.opened = record {
      drawn = close.drawn;
      looks = close.looks;
      apart = close.distinct;
      since = close.since;
      ends = close.ends did.parts;
      all = λ x. ap (λ l. times x words.drawer.drawn + passed_over x l + once_below x words.numbers.opened) close.advances ∙ close.all did.parts x;
      firsts = subst (All (λ a. seq_of a.1 ≡ 0)) (sym close.advances) close.firsts;
      reached = subst (All (λ a. a.1 ≤ c.close-drawn.result.next)) (sym close.advances) close.advanced;
      near = close.paid did.parts did.free;
    } in
    let is_start = did.frame.start ∙ ap (λ n. n.start) c.in_ok-opened.ensures.value in
    let stands = c.into_parts-machine.ensures.stands in
    let found = subst (λ s. IsRecovered (chip s).now stands.0) is_start stands.1 in
    let entries : log.history.entries.items ≡ node.machine.entries = sym did.told.entries_are in
    let refills : log.history.refills ≡ node.machine.fills = c.finish-left.ensures.refills ∙ ap (λ m. m.fills) machine in
    let moved : (over : List StoreRecord) → IsRecovered (chip start).now over → node.machine.closed ≡ false
    → HasMoved g.M.Machine.role over log.history.entries.items log.history.refills c.close-drawn.result.advances =
    λ over read runs. moved_by g.M.Machine.view g.M.Machine.advances g.M.Machine.role stands.0 over c.into_parts-machine.result.0 node.machine c.close-drawn.result.advances
    log.history.entries.items log.history.refills (c.one_list_is_recovered.ensures.one_list (chip start).now stands.0 over found read) machine
    (close.advances ∙ c.finish-left.ensures.advances) entries refills
    (c.tells.ensures.moved (found_of (chip node.start)) c.into_parts-machine.result.1 stands.0 c.into_parts-machine.result.0 stands.2) runs in
    let whole = ran g.M.Machine.view g.M.Machine.stands g.M.Machine.role g.M.Machine.image chip plan start node c.do_steps.new.seats.drawer log c.one_list_is_recovered.ensures.one_list
    s.over s.read s.runs opened c.known.ensures.known is_start over entries refills
    (c.end_of-end.ensures.cut ∙ c.is_closed.ensures.value ∙ ap (λ m. m.closed) machine)
    c.close-drawn.result.next c.close-drawn.result.mark c.do_steps.new.seats.numbers.opened c.close-drawn.ensures.order.1
    (c.close-drawn.ensures.mark ∙ c.finish-left.ensures.keeper.1 ∙ ap (λ m. m.mark) machine)
    (ap (λ n. n.opened) (c.do_steps.ensures.numbers ∙ c.in_ok-seats.ensures.words.0) ∙ s.opened)
    c.close-drawn.ensures.since c.close-drawn.ensures.below c.close-drawn.ensures.once c.close-drawn.ensures.seen
    c.close-drawn.result refl closes c.known.ensures.stands moved
    c.args.plan.now.bearers c.requires.few did.many ((g.met.F.Bench g.world.𝓛 g.world.𝓜 g.world.𝓡 ((λ s x. x), (λ x. x), (λ x. x), λ x. x)).explained node.flash) given order placed calls
    (did.saved ∙ ap (λ n. (chip n.flash).setting.saved) c.in_ok-opened.ensures.value ∙ ap (λ (s : Setting). s.saved) c.requires.kept.setting) in
    record { ran = subst (Ran g.M.Machine.view g.M.Machine.stands chip g.M.Machine.role g.M.Machine.image plan (chip start) log) (sym c.into_parts-machine.ensures.flash) whole }
