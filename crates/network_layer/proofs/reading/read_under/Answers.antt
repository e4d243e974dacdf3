-- Octets of another NID read as nothing.
use Rattle.std.proofs.Common.{◌∙◌}
use Rattle.network_layer.proofs.Openings.{nid_of_reading}
use Rattle.network_layer.proofs.reading.read_under.Goals as goal

pub returns-then-nid_of-m-clause-none : goal.returns-then-nid_of-m-clause-none
returns-then-nid_of-m-clause-none c = λ _ f h. c.if-nid_of-m.true (c.nid_of.ensures ∙ nid_of_reading c.args.m.now c.args.current c.args.bytes.now f h)
