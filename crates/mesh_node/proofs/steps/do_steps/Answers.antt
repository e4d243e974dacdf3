use Rattle.std.proofs.Common.{◌∙◌, ◌+◌, length, map, take, drop, refl, sym, ap, subst, arith, inl}
use Rattle.std.specs.Prelude.{[]}
use Rattle.std.proofs.lemmas.List.{length-map, length-replicate, take_all}
use Rattle.std.proofs.lemmas.List.Elements.{All-get_or}
use Rattle.run_definitions.specs.Order.{phases_of}
use Rattle.mesh_node.specs.Going.{IsGoing, IsOver}
use Rattle.life_laws.specs.Plan.{IsStep, steps_of}
use Rattle.mesh_node.specs.Steps.{HasGiven, MayFollow}
use Rattle.mesh_node.proofs.Following.{among_steps, dropped, going_first, may_arm, may_more, order_more, over_whole, phases_around, phases_taken, same_more, taken}
use Rattle.mesh_node.proofs.Giving.{given_more, given_none, held_more}
use Rattle.mesh_node.proofs.Placed.{placed_held}
use Rattle.mesh_node.proofs.Unfilled.{none_in_hand}
use Rattle.mesh_node.proofs.steps.do_steps.Goals as goal

pub loop-step-init : goal.loop-step-init
loop-step-init g c =
    let node = c.args.node in
    let sends = c.in_ok-log.log.sends.items in
    let counts = c.args.seats.now.counts.items in
    let no_sends = c.in_ok-log.ensures.sends in
    let no_counts = c.requires.counts in
    record {
      between = c.requires.between;
      which = refl;
      numbers = refl;
      same = record { start = refl; which = refl; elements = refl };
      counts = ap length no_counts ∙ length-replicate c.args.bearers 0;
      sends = sym (length-map sends (λ v. v.items)) ∙ ap length no_sends ∙ length-replicate c.args.bearers [];
      going = going_first node c.args.seats.now.drawer c.args.bearers (map (λ v. v.items) sends) counts c.requires.begins c.requires.uncounted c.requires.between.live c.requires.drawn no_sends no_counts;
      told = record { entries_are = c.requires.begins ∙ sym c.in_ok-log.ensures.entries; taken = c.requires.between.taken };
      order = inl refl;
      saved = refl;
      held = λ some. some;
      given = given_none (g.F.Flash.chip node.flash).setting.arm;
      placed = λ over read. inl refl;
      may = c.requires.may;
    }

pub do_step-requires-clause-step : goal.do_step-requires-clause-step
do_step-requires-clause-step g c κs lives =
    let l = c.loop-step in
    let steps = c.args.steps.now in
    let x = c.step-item.result in
    let here = subst (IsStep c.args.bearers c.args.node.machine.elements) (sym c.step-item.is) (All-get_or (IsStep c.args.bearers c.args.node.machine.elements) steps l.step-index x c.loop-step-test.true c.requires.steps) in
    subst (λ n. IsStep n l.node.machine.elements x) (sym l.invariant.counts) (subst (λ n. IsStep c.args.bearers n x) (sym l.invariant.same.elements) here)

pub do_step-requires-clause-arm : goal.do_step-requires-clause-arm
do_step-requires-clause-arm g c κs lives =
    let l = c.loop-step in
    let steps = c.args.steps.now in
    let x = c.step-item.result in
    let chip = g.F.Flash.chip l.node.flash in
    may_arm x (drop (l.step-index + 1) steps) chip (subst (λ ss. MayFollow ss chip.setting.arm) (dropped steps l.step-index x c.loop-step-test.true c.step-item.is) l.invariant.may)

pub loop-step-preserved : goal.loop-step-preserved
loop-step-preserved g c =
    let l = c.loop-step in
    let inv = l.invariant in
    let steps = c.args.steps.now in
    let i = l.step-index in
    let x = c.step-item.result in
    let lt = c.loop-step-test.true in
    let is = c.step-item.is in
    let old = g.F.Flash.chip l.node.flash in
    let next = c.in_ok-next.next in
    let new = g.F.Flash.chip next.flash in
    let first = (g.F.Flash.chip c.args.node.flash).setting.arm in
    let did = c.in_ok-next.ensures in
    record {
      between = did.between c.if-closed.false;
      which = c.do_step.ensures.which ∙ inv.which;
      numbers = c.do_step.ensures.numbers ∙ inv.numbers;
      same = same_more c.args.node l.node next inv.same did.frame;
      counts = did.many.0 ∙ inv.counts;
      sends = did.many.1 ∙ inv.sends;
      going = subst (λ ps. IsGoing ps next c.do_step.new.seats.drawer (map (λ v. v.items) c.do_step.new.log.sends.items) c.do_step.new.seats.counts.items) (sym (phases_taken steps i x lt is))
          (did.going (phases_of (steps_of (take i steps))) inv.going c.if-closed.false);
      told = did.told inv.told;
      order = order_more (steps_of steps) x first old new (among_steps steps i x lt is) inv.order did.arm;
      saved = did.saved ∙ inv.saved;
      held = λ some. held_more x old new did.arm (inv.held some);
      given = subst (λ ss. HasGiven (steps_of ss) new.setting.arm) (sym (taken steps i x lt is)) (given_more (take i steps) x old new did.arm inv.given);
      placed = λ over read.
          placed_held g.M.Machine.view g.M.Machine.stands g.F.Flash.chip over steps i l.node l.seats.drawer (map (λ v. v.items) l.log.sends.items) l.seats.counts.items inv.going
          x lt is c.known.ensures.stands c.one_list_is_recovered.ensures.one_list c.args.node.start inv.same.start read first new (inv.placed over read) did.arm next.machine
          (did.unfilled (none_in_hand l.node c.known.ensures.known inv.between.live)) (map (λ v. v.items) c.do_step.new.log.sends.items) did.longer;
      may = may_more x (drop (i + 1) steps) old new (subst (λ ss. MayFollow ss old.setting.arm) (dropped steps i x lt is) inv.may) did.arm;
    }

pub returns-clause-over : goal.returns-clause-over
returns-clause-over g c =
    let l = c.loop-step in
    let steps = c.args.steps.now in
    let sends = map (λ v. v.items) l.log.sends.items in
    let done = over_whole (phases_of (steps_of (take l.step-index steps))) l.node l.seats.drawer sends l.seats.counts.items l.invariant.going in
    subst (λ ss. IsOver (phases_of (steps_of ss)) l.node l.seats.drawer sends) (take_all l.step-index steps (omega arith)) done

pub returns-clause-placed : goal.returns-clause-placed
returns-clause-placed g c = c.loop-step.invariant.placed

pub returns-then-closed-clause-placed : goal.returns-then-closed-clause-placed
returns-then-closed-clause-placed g c = λ over read.
    let l = c.loop-step in
    let chip = g.F.Flash.chip in
    placed_held g.M.Machine.view g.M.Machine.stands chip over c.args.steps.now l.step-index l.node l.seats.drawer (map (λ v. v.items) l.log.sends.items) l.seats.counts.items l.invariant.going
    c.step-item.result c.loop-step-test.true c.step-item.is c.known.ensures.stands c.one_list_is_recovered.ensures.one_list c.args.node.start l.invariant.same.start read
    (chip c.args.node.flash).setting.arm (chip c.in_ok-next.next.flash) (l.invariant.placed over read) c.in_ok-next.ensures.arm c.in_ok-next.next.machine
    (c.in_ok-next.ensures.unfilled (none_in_hand l.node c.known.ensures.known l.invariant.between.live)) (map (λ v. v.items) c.do_step.new.log.sends.items) c.in_ok-next.ensures.longer

pub returns-clause-parts : goal.returns-clause-parts
returns-clause-parts g c = c.loop-step.invariant.between.parts

pub returns-clause-free : goal.returns-clause-free
returns-clause-free g c = c.loop-step.invariant.between.free

pub returns-clause-given : goal.returns-clause-given
returns-clause-given g c = λ live.
    let l = c.loop-step in
    let steps = c.args.steps.now in
    subst (λ ss. HasGiven (steps_of ss) (g.F.Flash.chip l.node.flash).setting.arm) (take_all l.step-index steps (omega arith)) l.invariant.given

pub returns-clause-saved : goal.returns-clause-saved
returns-clause-saved g c = c.loop-step.invariant.saved

pub returns-then-closed-clause-saved : goal.returns-then-closed-clause-saved
returns-then-closed-clause-saved g c = c.in_ok-next.ensures.saved ∙ c.loop-step.invariant.saved

pub returns-clause-held : goal.returns-clause-held
returns-clause-held g c = c.loop-step.invariant.held

pub returns-clause-arm : goal.returns-clause-arm
returns-clause-arm g c = c.loop-step.invariant.order

pub returns-clause-frame : goal.returns-clause-frame
returns-clause-frame g c = c.loop-step.invariant.same

pub returns-then-closed-clause-held : goal.returns-then-closed-clause-held
returns-then-closed-clause-held g c = λ some.
    held_more c.step-item.result (g.F.Flash.chip c.loop-step.node.flash) (g.F.Flash.chip c.in_ok-next.next.flash) c.in_ok-next.ensures.arm (c.loop-step.invariant.held some)

pub returns-then-closed-clause-given : goal.returns-then-closed-clause-given
returns-then-closed-clause-given g c = λ live.
    let some = c.in_ok-next.ensures.stopped c.if-closed.true in
    absurd (omega (arith, some, live))

pub returns-then-closed-clause-arm : goal.returns-then-closed-clause-arm
returns-then-closed-clause-arm g c =
    let l = c.loop-step in
    let steps = c.args.steps.now in
    let x = c.step-item.result in
    let old = g.F.Flash.chip l.node.flash in
    let new = g.F.Flash.chip c.in_ok-next.next.flash in
    let first = (g.F.Flash.chip c.args.node.flash).setting.arm in
    order_more (steps_of steps) x first old new (among_steps steps l.step-index x c.loop-step-test.true c.step-item.is) l.invariant.order c.in_ok-next.ensures.arm

pub returns-clause-told : goal.returns-clause-told
returns-clause-told g c = c.loop-step.invariant.told

pub returns-then-closed-clause-told : goal.returns-then-closed-clause-told
returns-then-closed-clause-told g c = c.in_ok-next.ensures.told c.loop-step.invariant.told

pub returns-then-closed-clause-over : goal.returns-then-closed-clause-over
returns-then-closed-clause-over g c =
    let l = c.loop-step in
    let steps = c.args.steps.now in
    let i = l.step-index in
    let x = c.step-item.result in
    let sends = map (λ v. v.items) c.do_step.new.log.sends.items in
    subst (λ ps. IsOver ps c.in_ok-next.next c.do_step.new.seats.drawer sends) (phases_around steps i x c.loop-step-test.true c.step-item.is)
    (c.in_ok-next.ensures.over (phases_of (steps_of (take i steps))) (phases_of (steps_of (drop (i + 1) steps))) l.invariant.going c.if-closed.true)
