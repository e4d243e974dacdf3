use Rattle.event_definitions.specs.Role.{node_role}
use Rattle.layer_laws.proofs.Safe.{node_safe}
use Rattle.node_layers.specs.NodeLayers.{node_layers}
use Rattle.run_safety.proofs.Enough as enough
use Rattle.run_safety.proofs.NodeRole.{node_is_safe}
use Rattle.node_safety.proofs.node_runs_law.Goals as goal

pub returns : goal.returns
returns c =
    record {
      no_reuse = enough.no_reuse (node_role node_layers) (node_is_safe node_layers node_safe);
      at_most_once = enough.at_most_once (node_role node_layers) (node_is_safe node_layers node_safe);
    }
