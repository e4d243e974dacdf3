use Rattle.life_laws.proofs.Timing.{no_times, times_more}
use Rattle.life_laws.proofs.pairs.times_law.Goals as goal

pub returns-clause-none : goal.returns-clause-none
returns-clause-none g c = no_times

pub returns-clause-more : goal.returns-clause-more
returns-clause-more g c = λ old new d e events counts ends dones sends timed pairs w memory none many moved counted.
    times_more old new d e events counts ends dones sends timed pairs w memory none many moved counted
