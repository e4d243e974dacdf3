use Rattle.node_layers.proofs.Steps as proof
use Rattle.node_layers.proofs.laws.step_law.Goals as goal

pub returns : goal.returns
returns c =
    record {
      time = proof.time_goes_on;
      parts = proof.parts_go_on;
      own = proof.own_go_on;
      friends = proof.friends_go_on;
      onoff = proof.onoff_goes_on;
      level = proof.level_goes_on;
      publications = proof.published_goes_on;
      cache = proof.cache_goes_on;
      segmented = proof.segmented_goes_on;
      again = proof.segmented_is_any;
    }
