use Rattle.segment_reassembly.proofs.Short.{rest_short}
use Rattle.segment_reassembly.proofs.parts.Parts.release.Goals as goal

pub invariant_of-self : goal.invariant_of-self
invariant_of-self c = rw c.drop_name.ensures (rest_short _ c.self.inside.rows.items c.self.invariant)
