use Rattle.low_power_definitions.proofs.Lives as lives
use Rattle.low_power_definitions.proofs.laws.lpn_calls_law.Goals as goal

pub returns : goal.returns
returns c =
    record {
      goes_on = lives.goes_on;
      seeks = lives.counts;
      lists = lives.counts_lists;
      first = lives.first;
      none = lives.unsought;
      previous = lives.previous;
      list = lives.fits;
    }
