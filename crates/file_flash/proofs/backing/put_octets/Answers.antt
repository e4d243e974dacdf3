use Rattle.std.proofs.Common.{◌∙◌, ◌+◌, ◌-◌, length, ap, arith}
use borrow.Rule.Slice.PartMut.{put_mid}
use Rattle.file_flash.proofs.Tying.{put_part}
use Rattle.file_flash.proofs.backing.put_octets.Goals as goal

pub returns : goal.returns
returns c =
    let at = c.args.at in
    let bytes = c.args.bytes.now in
    let old = c.args.octets.now in
    ap (put_mid at (at + length bytes - at) old) c.copy_from_slice.ensures.after ∙ put_part at (at + length bytes - at) bytes old (omega arith) c.requires
