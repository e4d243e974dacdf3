use Rattle.layer_states.specs.Reassembly.{live}
use Rattle.segment_reassembly.proofs.Short.{live_short, noted_short, taken_within}
use Rattle.segment_reassembly.proofs.parts.Parts.take.Goals as goal

pub invariant_of-self : goal.invariant_of-self
invariant_of-self c =
    rw (c.take_in.ensures.state, c.expire.ensures)
    (noted_short (live c.args.now c.self.inside.rows.items) c.args.now c.args.h.now c.requires.fits (live_short c.args.now c.self.inside.rows.items c.self.invariant))

pub returns-clause-control : goal.returns-clause-control
returns-clause-control c ctl =
    rw (c.take_in.ensures.value, c.expire.ensures)
    (taken_within (live c.args.now c.self.inside.rows.items) c.args.now c.args.h.now c.requires.fits (live_short c.args.now c.self.inside.rows.items c.self.invariant) ctl)
