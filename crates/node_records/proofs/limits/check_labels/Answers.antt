use Rattle.node_records.proofs.Sizes.{held_full, labels_pass}
use Rattle.node_records.proofs.limits.check_labels.Goals as goal

pub returns-clause-limit : goal.returns-clause-limit
returns-clause-limit c = held_full c.passes_labels.result _ c.limit_where.ensures.limit c.passes_labels.ensures (labels_pass c.args.op c.args.element c.args.model c.args.label.now c.args.rows.now c.requires)
