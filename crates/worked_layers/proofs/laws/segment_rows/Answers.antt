use Rattle.worked_layers.proofs.Segments as proof
use Rattle.worked_layers.proofs.laws.segment_rows.Goals as goal

pub returns : goal.returns
returns c = record { heard = proof.segments_heard; repeated = proof.segments_repeated; timed = proof.segments_timed; unopened = proof.segments_unopened }
