use Rattle.live_report.proofs.Telling.{all_taken, all_told, failed_at_last}
use Rattle.live_report.proofs.laws.told_law.Goals as goal

pub returns : goal.returns
returns g c = record {
  taken = all_taken g.K.Sink.held g.K.Sink.pieces g.K.Sink.faults;
  told = all_told g.K.Sink.held g.K.Sink.pieces g.K.Sink.faults;
  last = failed_at_last g.K.Sink.held g.K.Sink.pieces g.K.Sink.faults;
}
