use Rattle.upper_transport.proofs.ControlRows.{reads_poll}
use Rattle.upper_transport.proofs.control_reading.fsn_of.Goals as goal

pub returns : goal.returns
returns c = reads_poll c.args.params.now c.requires
