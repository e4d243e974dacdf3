use Rattle.event_definitions.specs.Role.{node_role}
use Rattle.layer_laws.proofs.Built.{built_safe}
use Rattle.layer_laws.proofs.Safe.{node_safe}
use Rattle.node_layers.specs.BuiltLayers.{built_layers}
use Rattle.node_layers.specs.NodeLayers.{node_layers}
use Rattle.run_safety.proofs.NodeRole.{node_is_safe}
use Rattle.process_laws.proofs.Running.{deliver_once, processes_run, reuse_nothing}
use Rattle.process_laws.proofs.processes.layers_processes_law.Goals as goal

pub returns : goal.returns
returns g c = record {
  run = λ layers. processes_run (node_role layers) g.F.Flash.chip;
  no_reuse = λ layers safe. reuse_nothing (node_role layers) g.F.Flash.chip (node_is_safe layers safe);
  at_most_once = λ layers safe. deliver_once (node_role layers) g.F.Flash.chip (node_is_safe layers safe);
  node_no_reuse = reuse_nothing (node_role node_layers) g.F.Flash.chip (node_is_safe node_layers node_safe);
  node_at_most_once = deliver_once (node_role node_layers) g.F.Flash.chip (node_is_safe node_layers node_safe);
  built_no_reuse = reuse_nothing (node_role built_layers) g.F.Flash.chip (node_is_safe built_layers built_safe);
  built_at_most_once = deliver_once (node_role built_layers) g.F.Flash.chip (node_is_safe built_layers built_safe);
}
