use Rattle.std.proofs.Common.{◌≡◌, ◌+◌, ◌*◌, get_or, arith}
use Rattle.layer_definitions.proofs.OctetLaws.{six_octets}
use Rattle.upper_transport.proofs.ControlRows.{reads_update}
use Rattle.upper_transport.proofs.control_reading.update_of.Goals as goal

pub returns : goal.returns
returns c =
    let p = c.args.params.now in
    let listed = six_octets p c.requires in
    let iv : c.read_u32.result ≡ get_or p 1 0 * 16777216 + (get_or p 2 0 * 65536 + (get_or p 3 0 * 256 + get_or p 4 0)) =
    omega (arith, rw listed at c.read_u32.ensures) in
    reads_update p c.read_u32.result c.requires (λ i. (c.type_inv.params i).fits) iv
