use Rattle.std.proofs.Common.{arith, rules, ◌+◌, ◌-◌, ◌∙◌, ap, drop, map, subst, sym}
use Rattle.std.proofs.lemmas.List.{drop-drop}
use Rattle.run_definitions.specs.Order.{handle}
use Rattle.node_bearer.specs.Did.{DidBy}
use Rattle.node_bearer.proofs.Lists.{drop_front, few_left, take_front}
use Rattle.node_bearer.proofs.Turning.{goes_on, on_still, stops}
use Rattle.node_bearer.proofs.working.work.Goals as goal

pub returns-in_err-stride-clause-stopped : goal.returns-in_err-stride-clause-stopped
returns-in_err-stride-clause-stopped g c = λ first tasks h.
    let k = c.args.place.now.bearer in
    let l = c.loop-done in
    let rest = drop l.done c.args.events.now in
    let later = map (λ x. handle x) (drop (l.done + c.min-count.result - l.done) rest) in
    let was = subst (λ ts. DidBy k first tasks ts l.b) (sym (take_front (λ x. handle x) rest (l.done + c.min-count.result - l.done))) (l.invariant.did first tasks h) in
    stops _ c.from_residual.result c.in_err-stride.field-0.0 c.from_residual.ensures.1 (c.in_err-stride.ensures.stopped first tasks later was)

pub loop-done-init : goal.loop-done-init
loop-done-init g c = record {
  rider = c.requires.rider;
  on = on_still c.args.b.now;
  within = omega arith;
  some = omega arith;
  few = c.most_at_once-most.ensures.some;
  did = λ first tasks h. h;
}

pub loop-done-preserved : goal.loop-done-preserved
loop-done-preserved g c = record {
  rider = c.do_events.ensures.rider;
  on = goes_on c.args.b.now c.loop-done.b c.do_events.new.b c.loop-done.invariant.on c.do_events.ensures.on;
  within = few_left c.in_ok-stride.stride.events (c.loop-done.done + c.min-count.result - c.loop-done.done) c.loop-done.done c.args.events.now c.in_ok-stride.ensures.few c.loop-done.invariant.within;
  some = search rules;
  few = search rules;
  did = λ first tasks h.
      let k = c.args.place.now.bearer in
      let l = c.loop-done in
      let rest = drop l.done c.args.events.now in
      let later = map (λ x. handle x) (drop (l.done + c.min-count.result - l.done) rest) in
      let was = subst (λ ts. DidBy k first tasks ts l.b) (sym (take_front (λ x. handle x) rest (l.done + c.min-count.result - l.done))) (l.invariant.did first tasks h) in
      let n = c.in_ok-stride.stride.events in
      subst (λ ts. DidBy k first tasks ts c.do_events.new.b)
      (drop_front (λ x. handle x) rest n (l.done + c.min-count.result - l.done) c.in_ok-stride.ensures.few ∙ ap (map (λ x. handle x)) (drop-drop n l.done c.args.events.now))
      (c.in_ok-stride.ensures.did first tasks later was);
}
