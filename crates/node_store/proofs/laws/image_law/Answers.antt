use Rattle.node_store.proofs.Holding.{held_node, put_node}
use Rattle.node_store.proofs.laws.image_law.Goals as goal

pub returns : goal.returns
returns c = record {
  held = λ content records held whole. held_node content records held.tidy held.holds whole;
  put = put_node;
  front = λ content records items front whole. held_node content _ front.tidy front.holds (whole front.n front.few);
}
