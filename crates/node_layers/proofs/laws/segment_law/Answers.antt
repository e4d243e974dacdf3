use Rattle.node_layers.proofs.Segments as proof
use Rattle.node_layers.proofs.laws.segment_law.Goals as goal

pub returns : goal.returns
returns c =
    record {
      built_answers = proof.built_answers;
      built_whole = proof.built_whole;
      node_answers = proof.node_answers;
      node_whole = proof.node_whole;
    }
