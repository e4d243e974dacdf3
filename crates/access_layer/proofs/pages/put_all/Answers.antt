-- There is room for the two octets of one more number.
use Rattle.std.proofs.Common.{◌≡◌, ap, arith, length, take}
use Rattle.std.proofs.lemmas.List.{length-append}
use Rattle.std.specs.List.{flat_map}
use Rattle.model_states.specs.Access.{two_low_first}
use Rattle.access_layer.proofs.Elements.{length-lows-taken}
use Rattle.access_layer.proofs.pages.put_all.Goals as goal

pub extend-requires : goal.extend-requires
extend-requires c =
    let written = ap length c.loop-number.invariant in
    let taken = length-lows-taken c.args.numbers.now c.loop-number.number-index c.loop-number-test.true in
    let two : length c.to_le_bytes.result ≡ 2 = ap length c.to_le_bytes.ensures in
    (omega arith, omega (arith, written, taken, two, length-append c.loop-number.page c.to_le_bytes.result, length-append c.args.page.now (flat_map two_low_first (take c.loop-number.number-index c.args.numbers.now)), c.requires, c.loop-number-test.true))
