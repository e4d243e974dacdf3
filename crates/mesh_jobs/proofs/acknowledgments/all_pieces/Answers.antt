use Rattle.mesh_jobs.proofs.Numbers.{all_pieces}
use Rattle.mesh_jobs.proofs.acknowledgments.all_pieces.Goals as goal

pub returns : goal.returns
returns c = record { value = all_pieces c.args.seg_n c.requires }
