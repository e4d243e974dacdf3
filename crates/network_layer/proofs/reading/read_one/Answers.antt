-- Octets of another length read as nothing.
use Rattle.std.proofs.Common.{arith}
use Rattle.network_layer.proofs.Openings.{length_of_reading}
use Rattle.network_layer.proofs.reading.read_one.Goals as goal

pub returns-then-bytes-lt14-clause-none : goal.returns-then-bytes-lt14-clause-none
returns-then-bytes-lt14-clause-none c = λ _ f h.
    let lengths = length_of_reading c.args.m.now c.args.current c.args.bytes.now f h in
    omega (arith, lengths.0, lengths.1, c.then-bytes-lt14.either)
