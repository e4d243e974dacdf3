use Rattle.process_laws.proofs.Running.{deliver_once, processes_run, reuse_nothing}
use Rattle.process_laws.proofs.processes.processes_law.Goals as goal

pub returns-clause-run : goal.returns-clause-run
returns-clause-run g c = processes_run g.M.Machine.role g.F.Flash.chip

pub returns-clause-no_reuse : goal.returns-clause-no_reuse
returns-clause-no_reuse g c = reuse_nothing g.M.Machine.role g.F.Flash.chip

pub returns-clause-at_most_once : goal.returns-clause-at_most_once
returns-clause-at_most_once g c = deliver_once g.M.Machine.role g.F.Flash.chip
