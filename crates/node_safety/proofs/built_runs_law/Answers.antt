use Rattle.event_definitions.specs.Role.{node_role}
use Rattle.layer_laws.proofs.Built.{built_safe}
use Rattle.node_layers.specs.BuiltLayers.{built_layers}
use Rattle.run_safety.proofs.Enough as enough
use Rattle.run_safety.proofs.NodeRole.{node_is_safe}
use Rattle.node_safety.proofs.built_runs_law.Goals as goal

pub returns : goal.returns
returns c =
    record {
      no_reuse = enough.no_reuse (node_role built_layers) (node_is_safe built_layers built_safe);
      at_most_once = enough.at_most_once (node_role built_layers) (node_is_safe built_layers built_safe);
    }
