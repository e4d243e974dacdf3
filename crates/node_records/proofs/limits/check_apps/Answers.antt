use Rattle.node_records.proofs.Sizes.{held_full, apps_pass}
use Rattle.node_records.proofs.limits.check_apps.Goals as goal

pub returns-clause-limit : goal.returns-clause-limit
returns-clause-limit c = λ net key. held_full c.passes_apps.result _ c.limit_where.ensures.limit c.passes_apps.ensures (apps_pass c.args.op net c.args.index key c.args.rows.now c.requires)
