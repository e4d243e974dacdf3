use Rattle.std.proofs.Common.{◌≡◌, ◌+◌, ◌*◌, get_or, arith}
use Rattle.upper_transport.proofs.ControlRows.{four_listed, reads_clear, reads_clear_confirm}
use Rattle.upper_transport.proofs.control_reading.clear_of.Goals as goal

pub returns-clause-clear : goal.returns-clause-clear
returns-clause-clear c =
    let p = c.args.params.now in
    let listed = four_listed p c.requires in
    let lpn : c.read_u16.result ≡ get_or p 0 0 * 256 + get_or p 1 0 = omega (arith, rw listed at c.read_u16.ensures) in
    let counter : c.read_u16-2.result ≡ get_or p 2 0 * 256 + get_or p 3 0 = omega (arith, rw listed at c.read_u16-2.ensures) in
    reads_clear p c.read_u16.result c.read_u16-2.result c.requires (λ i. (c.type_inv.params i).fits) lpn counter

pub returns-clause-confirm : goal.returns-clause-confirm
returns-clause-confirm c =
    let p = c.args.params.now in
    let listed = four_listed p c.requires in
    let lpn : c.read_u16.result ≡ get_or p 0 0 * 256 + get_or p 1 0 = omega (arith, rw listed at c.read_u16.ensures) in
    let counter : c.read_u16-2.result ≡ get_or p 2 0 * 256 + get_or p 3 0 = omega (arith, rw listed at c.read_u16-2.ensures) in
    reads_clear_confirm p c.read_u16.result c.read_u16-2.result c.requires (λ i. (c.type_inv.params i).fits) lpn counter
