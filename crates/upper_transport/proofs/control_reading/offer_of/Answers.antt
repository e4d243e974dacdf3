use Rattle.std.proofs.Common.{◌≡◌, ◌+◌, ◌*◌, get_or, arith}
use Rattle.layer_definitions.proofs.OctetLaws.{six_octets}
use Rattle.upper_transport.proofs.ControlRows.{reads_offer}
use Rattle.upper_transport.proofs.control_reading.offer_of.Goals as goal

pub returns : goal.returns
returns c =
    let p = c.args.params.now in
    let listed = six_octets p c.requires in
    let counter : c.read_u16.result ≡ get_or p 4 0 * 256 + get_or p 5 0 = omega (arith, rw listed at c.read_u16.ensures) in
    reads_offer p c.read_u16.result c.requires (λ i. (c.type_inv.params i).fits) counter
