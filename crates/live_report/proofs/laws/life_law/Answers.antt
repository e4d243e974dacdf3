use Rattle.live_report.proofs.Telling.{all_written, end_behind_front, end_front, last_front, opening_front, phases_alone_front, phases_front}
use Rattle.live_report.proofs.laws.life_law.Goals as goal

pub returns : goal.returns
returns c = record {
  whole = all_written;
  opening = opening_front;
  phases = phases_front;
  last = last_front;
  open_end = phases_alone_front;
  end = end_front;
  end_behind = end_behind_front;
}
