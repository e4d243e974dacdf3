use Rattle.std.proofs.Common.{subst, sym}
use Rattle.std.specs.Prelude.{All}
use Rattle.segment_sender.proofs.Held.{ack_well}
use Rattle.segment_sender.specs.Held.{IsHeldWell}
use Rattle.segment_sender.proofs.senders.Senders.ack.Goals as goal

pub invariant_of-self : goal.invariant_of-self
invariant_of-self c = subst (All IsHeldWell) (sym c.acknowledge.ensures.state) (ack_well c.self.inside.rows.items c.args.from c.args.obo c.args.seq_zero c.args.block c.self.invariant)
