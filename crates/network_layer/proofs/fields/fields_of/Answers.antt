use Rattle.std.proofs.Common.{◌≡◌, ◌*◌, ◌+◌, ◌<◌, get_or, arith}
use Rattle.std.proofs.lemmas.List.Elements.{All-take, All-drop, All-from_get_or}
use Rattle.layer_definitions.proofs.OctetLaws.{six_octets}
use Rattle.network_layer.proofs.Headers.{header_of}
use Rattle.network_layer.proofs.fields.fields_of.Goals as goal

pub returns-clause-in_widths : goal.returns-clause-in_widths
returns-clause-in_widths c =
    let octets = All-from_get_or (λ b. b < 256) c.args.text.now 0 (λ i h. (c.type_inv.text i).fits) in
    record {
      iv = c.ranges.iv.fits;
      src = c.read_u16.type_inv;
      dst = c.read_u16-2.type_inv;
      tpdu = rw (c.extend.ensures.value, c.new-tpdu.ensures.value) (All-take (λ b. b < 256) _ _ (All-drop (λ b. b < 256) 2 _ octets));
    }

pub returns-clause-header : goal.returns-clause-header
returns-clause-header c =
    let h = c.args.header.now in
    let listed = six_octets h c.told-header in
    let seq : c.read_u24.result ≡ get_or h 1 0 * 65536 + (get_or h 2 0 * 256 + get_or h 3 0) = omega (arith, rw listed at c.read_u24.ensures) in
    let src : c.read_u16.result ≡ get_or h 4 0 * 256 + get_or h 5 0 = omega (arith, rw listed at c.read_u16.ensures) in
    rw c.control_bit.ensures (header_of h c.read_u24.result c.read_u16.result c.told-header c.fits-header seq src)
