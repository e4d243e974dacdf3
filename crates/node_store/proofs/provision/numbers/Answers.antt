use Rattle.std.proofs.Common.{arith}
use Rattle.node_store.proofs.Made.{first_mark}
use Rattle.node_store.specs.Provisioning.{state_of}
use Rattle.node_store.proofs.provision.numbers.Goals as goal

pub returns-clause-range : goal.returns-clause-range
returns-clause-range c = (omega arith, c.requires, first_mark (state_of c.args.iv c.args.flags) c.from.result c.transmit.result c.from.ensures c.transmit.ensures.value (omega arith), omega arith, omega arith)
