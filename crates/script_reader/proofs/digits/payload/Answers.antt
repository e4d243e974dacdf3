use Rattle.std.proofs.Common.{arith}
use Rattle.hex.proofs.HexLemmas.{decode_of-ok}
use Rattle.script_reader.proofs.digits.payload.Goals as goal

pub returns-in-Ok-clause-bound : goal.returns-in-Ok-clause-bound
returns-in-Ok-clause-bound c =
    let h = decode_of-ok _ _ c.in-Ok.ensures.ok in
    let e = h.2 in
    rw c.of.ensures.value (omega arith, omega arith)
