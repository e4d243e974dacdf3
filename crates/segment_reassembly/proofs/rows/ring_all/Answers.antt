use Rattle.std.proofs.Common.{arith}
use Rattle.std.proofs.lemmas.Grind.{common_steps}
use Rattle.std.proofs.lemmas.List.Edits.{map_over_more}
use Rattle.layer_states.specs.Reassembly.{rung}
use Rattle.segment_reassembly.proofs.rows.ring_all.Goals as goal

pub loop-a-preserved : goal.loop-a-preserved
loop-a-preserved c = grind (arith, common_steps, map_over_more (rung c.args.now))
