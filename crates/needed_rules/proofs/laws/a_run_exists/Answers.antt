use Rattle.needed_rules.proofs.WrittenRun as proof
use Rattle.needed_rules.proofs.laws.a_run_exists.Goals as goal

pub returns : goal.returns
returns c = record { written = proof.is_written }
