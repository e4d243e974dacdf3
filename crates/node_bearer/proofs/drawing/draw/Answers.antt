use Rattle.std.proofs.Common.{◌∙◌, ◌++◌, ◌∷◌, [], ap, append_assoc, refl, subst, sym}
use Rattle.node_bearer.specs.Did.{SawDry, freed}
use Rattle.node_bearer.proofs.Doing.{did_looked, saw_dry, saw_end}
use Rattle.turn_lock.specs.Entries.{IsPrefix}
use Rattle.node_bearer.proofs.Turning.{asked_on, front_more, on_any, on_freed, stops}
use Rattle.node_bearer.proofs.drawing.draw.Goals as goal

pub returns-in-Err-Some-Spent-clause-did : goal.returns-in-Err-Some-Spent-clause-did
returns-in-Err-Some-Spent-clause-did g c = λ k first tasks rest h.
    let b = c.loop.b in
    let e = c.in-Err-Some-Spent.ensures in
    let cause = rw c.in-Err-Some-Spent.field-0-0-is at rw c.in-Err-Some-Spent.field-0-is at e.cause in
    let above = rw c.in-Err-Some-Spent.field-0-0-is at rw c.in-Err-Some-Spent.field-0-is at e.end in
    record { before = b.drawer; did = c.loop.invariant.did k first tasks rest h; saw = saw_end c.in-Err-Some-Spent.iv b.drawer c.draw_below.new.d e.err cause above }

pub returns-in-Err-Some-Spent-clause-tries : goal.returns-in-Err-Some-Spent-clause-tries
returns-in-Err-Some-Spent-clause-tries g c =
    let cause = rw c.in-Err-Some-Spent.field-0-0-is at rw c.in-Err-Some-Spent.field-0-is at c.in-Err-Some-Spent.ensures.cause in
    (c.loop.invariant.dry.0, c.loop.b.drawer, c.loop.invariant.dry.1, cause)

pub returns-in-Ok-clause-tries : goal.returns-in-Ok-clause-tries
returns-in-Ok-clause-tries g c = (c.loop.invariant.dry.0, c.loop.b.drawer, c.loop.invariant.dry.1, c.in-Ok.ensures.found)

-- what is asked with is what this seat found last
pub raise-requires-clause-found : goal.raise-requires-clause-found
raise-requires-clause-found g c κs lives =
    let e = c.in-Err-Some-Dry.ensures in
    let cause = rw c.in-Err-Some-Dry.field-0-0-is at rw c.in-Err-Some-Dry.field-0-is at e.cause in
    (cause.1.looks, cause.3.0)

pub raise-requires-clause-asked : goal.raise-requires-clause-asked
raise-requires-clause-asked g c κs lives = asked_on c.args.place.now.turn.now.first.machine.taken c.args.b.now (freed c.loop.b) c.loop.invariant.on c.requires.asked

pub loop-init : goal.loop-init
loop-init g c = record {
  rider = c.requires.rider;
  on = on_freed c.args.b.now;
  dry = ([], refl);
  frame = refl;
  did = λ k first tasks rest h. h;
}

pub loop-preserved : goal.loop-preserved
loop-preserved g c =
    let b = c.loop.b in
    let e = c.in-Err-Some-Dry.ensures in
    let was = c.loop.invariant in
    let cause = rw c.in-Err-Some-Dry.field-0-0-is at rw c.in-Err-Some-Dry.field-0-is at e.cause in
    record {
      rider = c.raise.ensures.rider;
      on = record {
        rest = was.on.rest ++ c.raise.ensures.on.rest;
        more = c.raise.ensures.on.more ∙ ap (λ l. l ++ c.raise.ensures.on.rest) was.on.more ∙ append_assoc _ was.on.rest c.raise.ensures.on.rest;
        noted = c.raise.ensures.on.noted ∙ e.err.noted ∙ was.on.noted;
        known = c.raise.ensures.on.known ∙ e.err.known ∙ was.on.known;
        told = front_more c.args.b.now.drawer.informed b.drawer.informed c.raise.new.b.drawer.informed was.on.told (subst (λ x. IsPrefix x c.raise.new.b.drawer.informed) e.err.informed c.raise.ensures.on.told);
        parts = c.raise.ensures.on.parts ∙ e.err.parts ∙ was.on.parts;
        free = λ _. refl;
        stop = c.raise.ensures.on.stop ∙ was.on.stop;
      };
      dry = (c.in-Err-Some-Dry.dry ∷ was.dry.0, (b.drawer, c.draw_below.new.d, was.dry.1, cause, c.raise.ensures.frame.1));
      frame = c.raise.ensures.frame.0 ∙ was.frame;
      did = λ k first tasks rest h. c.in_ok-raise-in-Err-Some-Dry.ensures.did k first tasks rest
          (did_looked k first tasks rest b.pass.own b.pass.seen b.lines.items b.number b.drawer c.draw_below.new.d e.err.drawn e.err.noted e.err.known e.looks (was.did k first tasks rest h));
    }

pub returns-in_err-raise-in-Err-Some-Dry-clause-stopped : goal.returns-in_err-raise-in-Err-Some-Dry-clause-stopped
returns-in_err-raise-in-Err-Some-Dry-clause-stopped g c = λ k first tasks rest h.
    let b = c.loop.b in
    let e = c.in-Err-Some-Dry.ensures in
    stops _ c.from_residual.result c.in_err-raise-in-Err-Some-Dry.field-0.0 c.from_residual.ensures.1 (c.in_err-raise-in-Err-Some-Dry.ensures.stopped k first tasks rest
    (did_looked k first tasks rest b.pass.own b.pass.seen b.lines.items b.number b.drawer c.draw_below.new.d e.err.drawn e.err.noted e.err.known e.looks (c.loop.invariant.did k first tasks rest h)))

-- nothing is drawn or looked at behind the draw that found it so
pub returns-in_err-raise-in-Err-Some-Dry-clause-dry : goal.returns-in_err-raise-in-Err-Some-Dry-clause-dry
returns-in_err-raise-in-Err-Some-Dry-clause-dry g c =
    let b = c.loop.b in
    let stop = c.in_err-raise-in-Err-Some-Dry.field-0.0 in
    let cause = rw c.in-Err-Some-Dry.field-0-0-is at rw c.in-Err-Some-Dry.field-0-is at c.in-Err-Some-Dry.ensures.cause in
    let dry = saw_dry c.in-Err-Some-Dry.dry b.drawer c.draw_below.new.d cause in
    stops _ c.from_residual.result stop c.from_residual.ensures.1 (on_any stop (subst SawDry (sym c.in_err-raise-in-Err-Some-Dry.ensures.failed) dry))

-- and so behind the loop
pub returns-in-Err-Some-Spent-draw_below-clause-did : goal.returns-in-Err-Some-Spent-draw_below-clause-did
returns-in-Err-Some-Spent-draw_below-clause-did g c = λ k first tasks rest h.
    let b = c.loop.b in
    let spent = c.in-Err-Some-Spent-draw_below in
    let cause = rw spent.field-0-0-is at rw spent.field-0-is at spent.ensures.cause in
    let above = rw spent.field-0-0-is at rw spent.field-0-is at spent.ensures.end in
    record { before = b.drawer; did = c.loop.invariant.did k first tasks rest h; saw = saw_end spent.iv b.drawer c.draw_below-2.new.d spent.ensures.err cause above }

pub returns-in-Err-Some-Spent-draw_below-clause-tries : goal.returns-in-Err-Some-Spent-draw_below-clause-tries
returns-in-Err-Some-Spent-draw_below-clause-tries g c =
    let spent = c.in-Err-Some-Spent-draw_below in
    let cause = rw spent.field-0-0-is at rw spent.field-0-is at spent.ensures.cause in
    (c.loop.invariant.dry.0, c.loop.b.drawer, c.loop.invariant.dry.1, cause)

pub returns-in-Ok-draw_below-clause-tries : goal.returns-in-Ok-draw_below-clause-tries
returns-in-Ok-draw_below-clause-tries g c = (c.loop.invariant.dry.0, c.loop.b.drawer, c.loop.invariant.dry.1, c.in-Ok-draw_below.ensures.found)
