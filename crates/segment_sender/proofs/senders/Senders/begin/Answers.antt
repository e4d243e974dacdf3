use Rattle.segment_sender.proofs.Held.{begun_more}
use Rattle.segment_sender.proofs.senders.Senders.begin.Goals as goal

pub invariant_of-self : goal.invariant_of-self
invariant_of-self c = begun_more c.self.inside.rows.items c.push.new.self.items c.args.now c.args.m.now c.begun.result c.requires.outgoing c.begun.ensures c.push.ensures.items c.self.invariant
