use Rattle.node_records.proofs.Sizes.{held_full, binds_pass}
use Rattle.node_records.proofs.limits.check_binds.Goals as goal

pub returns-clause-limit : goal.returns-clause-limit
returns-clause-limit c = held_full c.passes_binds.result _ c.limit_where.ensures.limit c.passes_binds.ensures (binds_pass c.args.op c.args.element c.args.model c.args.app c.args.rows.now c.requires)
