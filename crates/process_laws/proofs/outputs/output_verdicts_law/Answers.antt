use Rattle.audit_laws.proofs.SendOwn.{built_own, node_own}
use Rattle.layer_laws.proofs.Built.{built_safe}
use Rattle.layer_laws.proofs.Safe.{node_safe}
use Rattle.node_layers.specs.BuiltLayers.{built_layers}
use Rattle.node_layers.specs.NodeLayers.{node_layers}
use Rattle.process_laws.proofs.Telling.{verdicts_safe}
use Rattle.process_laws.proofs.outputs.output_verdicts_law.Goals as goal

pub returns : goal.returns
returns c = record {
  safe = verdicts_safe;
  node = λ s r asks run. verdicts_safe node_layers node_safe node_own s r asks run;
  built = λ s r asks run. verdicts_safe built_layers built_safe built_own s r asks run;
}
