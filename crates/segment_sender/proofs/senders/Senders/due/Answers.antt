use Rattle.std.proofs.Common.{subst, sym}
use Rattle.std.specs.Prelude.{All}
use Rattle.segment_sender.proofs.Held.{due_well}
use Rattle.segment_sender.specs.Held.{IsHeldWell}
use Rattle.segment_sender.proofs.senders.Senders.due.Goals as goal

pub invariant_of-self : goal.invariant_of-self
invariant_of-self c = subst (All IsHeldWell) (sym c.step_all.ensures) (due_well c.self.inside.rows.items c.args.now c.self.invariant)
