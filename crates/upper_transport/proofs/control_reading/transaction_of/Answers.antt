use Rattle.upper_transport.proofs.ControlRows.{reads_list_confirm}
use Rattle.upper_transport.proofs.control_reading.transaction_of.Goals as goal

pub returns : goal.returns
returns c = reads_list_confirm c.args.params.now c.requires (λ i. (c.type_inv.params i).fits)
