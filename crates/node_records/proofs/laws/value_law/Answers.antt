use Rattle.node_records.proofs.Said.{iv_in}
use Rattle.node_records.proofs.laws.value_law.Goals as goal

pub returns : goal.returns
returns c = record {
  current = λ p said. (iv_in p said).current;
  transmit = λ p said. (iv_in p said).transmit;
  mark = λ p said. (iv_in p said).mark;
  hours = λ p said. (iv_in p said).hours;
  since = λ p said. (iv_in p said).since;
}
