use Rattle.node_records.proofs.Sizes.{held_full, nets_pass}
use Rattle.node_records.proofs.limits.check_nets.Goals as goal

pub returns-clause-limit : goal.returns-clause-limit
returns-clause-limit c = λ key. held_full c.passes_nets.result _ c.limit_where.ensures.limit c.passes_nets.ensures (nets_pass c.args.op c.args.index key c.args.rows.now c.requires)
