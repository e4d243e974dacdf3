-- One element more, and the room for it.
use Rattle.std.proofs.Common.{◌≤◌, ap, arith, length, refl}
use Rattle.access_layer.proofs.Elements.{next_element, elements-room, elements-most}
use Rattle.access_layer.proofs.pages.composition.Goals as goal

pub put_element-requires-in-loop-place-clause-room : goal.put_element-requires-in-loop-place-clause-room
put_element-requires-in-loop-place-clause-room c =
    let written = ap length c.loop-place.invariant in
    omega (arith, written, elements-room c.loop-place._place c.loop-place.auto._place (omega (arith, c.requires, c.loop-place-test.true)))

pub loop-place-preserved : goal.loop-place-preserved
loop-place-preserved c =
    rw (c.put_element-in-loop-place.ensures.value, c.loop-place.invariant, next_element c.loop-place._place c.loop-place.auto._place) refl

pub returns-clause-length : goal.returns-clause-length
returns-clause-length c =
    let some : 1 ≤ c.args.elements = omega (arith, c.if-elements-eq0.false) in
    let most : c.loop-place._place ≤ 4 = omega (arith, c.loop-place.auto._place-end some, c.requires) in
    let written = ap length c.loop-place.invariant in
    omega (arith, written, elements-most c.loop-place._place c.loop-place.auto._place most)
