use Rattle.worked_layers.proofs.Models as proof
use Rattle.worked_layers.proofs.laws.model_rows.Goals as goal

pub returns : goal.returns
returns c =
    record {
      onoff = proof.onoff_switches;
      level = proof.level_moves;
      heartbeat = proof.heart_beats;
    }
