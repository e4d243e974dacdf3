use Rattle.node_records.proofs.Said.{iv_of}
use Rattle.node_records.proofs.laws.numbers_law.Goals as goal

pub returns : goal.returns
returns c = record {
  current = λ records r. (iv_of records r).current;
  transmit = λ records r. (iv_of records r).transmit;
  mark = λ records r. (iv_of records r).mark;
  hours = λ records r. (iv_of records r).hours;
  since = λ records r. (iv_of records r).since;
}
