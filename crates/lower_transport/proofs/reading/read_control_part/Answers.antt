use Rattle.std.proofs.Common.{arith}
use Rattle.lower_transport.proofs.ReservedBit.{has_segment}
use Rattle.lower_transport.proofs.reading.read_control_part.Goals as goal

pub returns-in-Err-clause-err : goal.returns-in-Err-clause-err
returns-in-Err-clause-err c l r =
    let s = has_segment c.args.first c.args.rest.now l c.requires (let octet = c.type_inv.rest 0 in omega arith) r in
    c.in-Err.ensures.err s.szmic s.seq_zero s.seg_o s.seg_n s.piece s.octets s.seq_zero_bits s.seg_n_bits s.is_piece
