use Rattle.needed_rules.proofs.Needed as proof
use Rattle.needed_rules.proofs.laws.rules_are_needed.Goals as goal

pub returns-clause-needed : goal.returns-clause-needed
returns-clause-needed c = proof.are_needed

pub returns-clause-by_all : goal.returns-clause-by_all
returns-clause-by_all c = proof.run_by_all
