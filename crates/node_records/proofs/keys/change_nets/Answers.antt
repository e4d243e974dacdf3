use Rattle.std.proofs.Common.{◌≡◌, ◌<◌, length, ap, ◌∙◌, arith}
use Rattle.node_records.specs.Rows.{net_after}
use Rattle.node_records.proofs.Changes.{changed_to, changed_more, changed_all, nets_changed}
use Rattle.node_records.proofs.keys.change_nets.Goals as goal

pub loop-place-preserved : goal.loop-place-preserved
loop-place-preserved c =
    let below : c.loop-place.place < length c.args.nets.now = omega (arith, c.loop-place-test.true, c.len-place-end.ensures.value) in
    rw (c.set.ensures.value, c.net_with-row.ensures) (changed_more (net_after c.args.op c.args.index c.args.key.now) c.args.nets.now c.as_slice.result.now c.loop-place.nets c.loop-place.place _ below c.loop-place.invariant c.as_slice.ensures.value)

pub returns : goal.returns
returns c =
    let f = net_after c.args.op c.args.index c.args.key.now in
    let all : c.loop-place.place ≡ length c.args.nets.now = omega (arith, c.loop-place-test.false, c.len-place-end.ensures.value, c.loop-place.auto.place-end) in
    c.loop-place.invariant ∙ ap (changed_to f c.args.nets.now) all ∙ changed_all f c.args.nets.now
    ∙ nets_changed c.args.op c.args.index c.args.key.now c.args.nets.now c.requires.least c.requires.most
