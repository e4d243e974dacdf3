use Rattle.node_records.proofs.Sizes.{held_full, subs_pass}
use Rattle.node_records.proofs.limits.check_subs.Goals as goal

pub returns-clause-limit : goal.returns-clause-limit
returns-clause-limit c = held_full c.passes_subs.result _ c.limit_where.ensures.limit c.passes_subs.ensures (subs_pass c.args.op c.args.element c.args.model c.args.address c.args.rows.now c.requires)
