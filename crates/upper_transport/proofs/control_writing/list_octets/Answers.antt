-- There is room for the two octets of one more address.
use Rattle.std.proofs.Common.{◌≡◌, ap, arith, length}
use Rattle.upper_transport.proofs.ControlRows.{length-addresses-taken}
use Rattle.upper_transport.proofs.control_writing.list_octets.Goals as goal

pub extend-requires-in-loop-address : goal.extend-requires-in-loop-address
extend-requires-in-loop-address c =
    let written = ap length c.loop-address.invariant.value in
    let taken = length-addresses-taken c.as_slice-address-items.result.now c.loop-address.address-index in
    let two : length c.to_be_bytes.result ≡ 2 = ap length c.to_be_bytes.ensures in
    (omega arith, omega (arith, written, taken, two, c.as_slice-address-items.ensures.length, c.loop-address-test.true))
