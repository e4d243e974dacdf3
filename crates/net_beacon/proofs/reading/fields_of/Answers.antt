use Rattle.std.proofs.Common.{◌≡◌, ◌+◌, ◌*◌, get_or, sym, ◌∙◌, arith}
use Rattle.net_beacon.proofs.Texts.{all_octets, flags_at, iv_of}
use Rattle.net_beacon.proofs.reading.fields_of.Goals as goal

pub returns : goal.returns
returns c key flags iv r =
    let o = c.args.bytes.now in
    let listed = all_octets o c.requires in
    let number : c.read_u32.result ≡ get_or o 10 0 * 16777216 + (get_or o 11 0 * 65536 + (get_or o 12 0 * 256 + get_or o 13 0)) = omega (arith, rw listed at c.read_u32.ensures) in
    (flags_at key o flags iv r, iv_of key o flags iv r ∙ sym number)
