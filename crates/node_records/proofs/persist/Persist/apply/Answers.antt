use Rattle.node_records.proofs.Meanings.{step_means, said_more}
use Rattle.node_records.proofs.persist.Persist.apply.Goals as goal

pub returns-clause-ok : goal.returns-clause-ok
returns-clause-ok c = λ records means. step_means records c.args.item.now c.args.self.now c.step.new.self c.requires.current c.step.ensures means

pub returns-clause-said : goal.returns-clause-said
returns-clause-said c = said_more c.args.item.now c.args.self.now c.step.new.self c.requires.in_range
    (λ records means. step_means records c.args.item.now c.args.self.now c.step.new.self c.requires.current c.step.ensures means)
