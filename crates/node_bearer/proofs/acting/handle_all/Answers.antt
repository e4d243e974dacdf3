use Rattle.std.proofs.Common.{◌+◌, ◌∙◌, ◌∷◌, ◌++◌, ◌≤◌, IsTrue, ap, drop, map, refl, subst, sym}
use Rattle.std.proofs.lemmas.List.{at_drop_more, get_or_default}
use Rattle.run_definitions.specs.Order.{handle, is_outside, write_tasks}
use Rattle.locked_node.specs.Node.{node_marks}
use Rattle.node_bearer.specs.Did.{DidBy, IsFor}
use Rattle.node_bearer.specs.Turns.{after_turn}
use Rattle.node_bearer.proofs.Turning.{front_more, numbered, stops, taken_same}
use Rattle.node_bearer.proofs.acting.handle_all.Goals as goal

pub returns-in_err-answered-clause-stopped : goal.returns-in_err-answered-clause-stopped
returns-in_err-answered-clause-stopped g c = λ first tasks rest h.
    let k = c.args.place.now.bearer in
    let events = c.args.events.now in
    let i = c.loop-i.i in
    let event = c.index-events-i.result in
    let later = map (λ x. handle x) (drop (i + 1) events) ++ rest in
    let left = at_drop_more (λ es. map (λ x. handle x) es ++ rest) events i event c.loop-i-test.true ∙ ap (λ x. handle x ∷ later) (sym c.index-events-i.is) in
    let is : IsFor event (handle event) = (refl, subst (λ x. IsTrue (is_outside x)) (sym c.index-events-i.is) (c.requires.events i event c.loop-i-test.true).0) in
    let was = subst (λ ts. DidBy k first tasks ts (after_turn c.loop-i.b c.loop-i.node)) left (c.loop-i.invariant.did first tasks rest h) in
    stops _ c.from_residual.result c.in_err-answered.field-0.0 c.from_residual.ensures.1 (c.in_err-answered.ensures.stopped first tasks later (handle event) is was)

pub returns-then-ends_turn-clause-did : goal.returns-then-ends_turn-clause-did
returns-then-ends_turn-clause-did g c = λ first tasks rest e h.
    let k = c.args.place.now.bearer in
    let events = c.args.events.now in
    let i = c.loop-i.i in
    let event = c.index-events-i.result in
    let later = map (λ x. handle x) (drop (i + 1) events) ++ rest in
    let left = at_drop_more (λ es. map (λ x. handle x) es ++ rest) events i event c.loop-i-test.true ∙ ap (λ x. handle x ∷ later) (sym c.index-events-i.is) in
    let is : IsFor event (handle event) = (refl, subst (λ x. IsTrue (is_outside x)) (sym c.index-events-i.is) (c.requires.events i event c.loop-i-test.true).0) in
    let was = subst (λ ts. DidBy k first tasks ts (after_turn c.loop-i.b c.loop-i.node)) left (c.loop-i.invariant.did first tasks rest h) in
    let a = c.in_ok-answered.answered in
    subst (λ x. DidBy k first tasks (write_tasks a.at 0 x a.jobs ++ later) (after_turn c.handle_one.new.b c.handle_one.new.node))
    (c.index-events-i.is ∙ get_or_default events i event e c.loop-i-test.true) (c.in_ok-answered.ensures.did first tasks later (handle event) is was)

pub returns-then-ends_turn-clause-since : goal.returns-then-ends_turn-clause-since
returns-then-ends_turn-clause-since g c =
    subst (λ n. n ≤ c.in_ok-answered.answered.at) (taken_same g.F.Flash.chip c.loop-i.node c.args.node.now c.loop-i.invariant.origin) c.in_ok-answered.ensures.since

pub loop-i-preserved : goal.loop-i-preserved
loop-i-preserved g c =
    let goes_on = c.ends_turn.ensures.goes_on c.if-ends_turn.false in
    record {
      more = goes_on.0;
      origin = c.handle_one.ensures.origin ∙ c.loop-i.invariant.origin;
      front = front_more (node_marks c.args.node.now) (node_marks c.loop-i.node) (node_marks c.handle_one.new.node) c.loop-i.invariant.front c.handle_one.ensures.front;
      frame = c.handle_one.ensures.frame ∙ ap (λ b. numbered b c.handle_one.new.b.number c.handle_one.new.b.drawer.informed) c.loop-i.invariant.frame;
      told = front_more c.args.b.now.drawer.informed c.loop-i.b.drawer.informed c.handle_one.new.b.drawer.informed c.loop-i.invariant.told c.handle_one.ensures.told;
      did = λ first tasks rest h.
          let k = c.args.place.now.bearer in
          let events = c.args.events.now in
          let i = c.loop-i.i in
          let event = c.index-events-i.result in
          let later = map (λ x. handle x) (drop (i + 1) events) ++ rest in
          let left = at_drop_more (λ es. map (λ x. handle x) es ++ rest) events i event c.loop-i-test.true ∙ ap (λ x. handle x ∷ later) (sym c.index-events-i.is) in
          let is : IsFor event (handle event) = (refl, subst (λ x. IsTrue (is_outside x)) (sym c.index-events-i.is) (c.requires.events i event c.loop-i-test.true).0) in
          let was = subst (λ ts. DidBy k first tasks ts (after_turn c.loop-i.b c.loop-i.node)) left (c.loop-i.invariant.did first tasks rest h) in
          let a = c.in_ok-answered.answered in
          subst (λ js. DidBy k first tasks (write_tasks a.at 0 event js ++ later) (after_turn c.handle_one.new.b c.handle_one.new.node)) goes_on.1
          (c.in_ok-answered.ensures.did first tasks later (handle event) is was);
    }
