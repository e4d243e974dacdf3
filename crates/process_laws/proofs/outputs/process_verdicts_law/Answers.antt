use Rattle.audit_laws.proofs.SendOwn.{built_own, node_own}
use Rattle.layer_laws.proofs.Built.{built_safe}
use Rattle.layer_laws.proofs.Safe.{node_safe}
use Rattle.node_layers.specs.BuiltLayers.{built_layers}
use Rattle.node_layers.specs.NodeLayers.{node_layers}
use Rattle.process_laws.proofs.Telling.{processes_safe}
use Rattle.process_laws.proofs.outputs.process_verdicts_law.Goals as goal

pub returns : goal.returns
returns g c = record {
  safe = λ layers safe sends. processes_safe layers safe sends g.F.Flash.chip;
  node = processes_safe node_layers node_safe node_own g.F.Flash.chip;
  built = processes_safe built_layers built_safe built_own g.F.Flash.chip;
}
