use Rattle.std.proofs.Common.{◌∙◌, arith}
use Rattle.record_texts.proofs.Fields.{number_from}
use Rattle.record_texts.proofs.decoding.eight_of.Goals as goal

pub returns : goal.returns
returns c = c.read_u64.ensures ∙ number_from 8 0 c.args.octets.now (omega (arith, c.requires))
