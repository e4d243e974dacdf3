use Rattle.std.proofs.Common.{◌≡◌, ◌+◌, ◌*◌, get_or, arith}
use Rattle.upper_transport.proofs.ControlRows.{reads_request, ten_listed}
use Rattle.upper_transport.proofs.control_reading.request_of.Goals as goal

pub returns : goal.returns
returns c =
    let p = c.args.params.now in
    let listed = ten_listed p c.requires in
    let timeout : c.read_u24.result ≡ get_or p 2 0 * 65536 + (get_or p 3 0 * 256 + get_or p 4 0) = omega (arith, rw listed at c.read_u24.ensures) in
    let previous : c.read_u16.result ≡ get_or p 5 0 * 256 + get_or p 6 0 = omega (arith, rw listed at c.read_u16.ensures) in
    let counter : c.read_u16-2.result ≡ get_or p 8 0 * 256 + get_or p 9 0 = omega (arith, rw listed at c.read_u16-2.ensures) in
    reads_request p c.read_u24.result c.read_u16.result c.read_u16-2.result c.requires (λ i. (c.type_inv.params i).fits) timeout previous counter
