use Rattle.std.proofs.Common.{arith}
use Rattle.node_records.proofs.Room.{passes, others}
use Rattle.node_records.proofs.persist.Persist.check.Goals as goal

pub returns-clause-passes : goal.returns-clause-passes
returns-clause-passes c = λ records means. passes records c.args.self.now c.args.item.now c.check_table.ensures.limit means

pub returns-clause-others : goal.returns-clause-others
returns-clause-others c = λ records means. others records c.args.self.now c.args.item.now c.check_table.result c.check_table.ensures.limit c.check_table.ensures.held (omega (arith, c.len-few.ensures.value, c.len-few.ensures.length)) means
