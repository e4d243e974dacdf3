use Rattle.node_layers.specs.NodeLayers.{node_layers}
use Rattle.mesh_run.proofs.laws.node_kind_law.Goals as goal

pub returns : goal.returns
returns c = record {
  safe = record { safe = c.safety_law.ensures.nodes node_layers c.node_law.ensures.safe; image = λ content. ((λ is. is), λ is. is) };
}
