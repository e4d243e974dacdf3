use Rattle.node_limits.specs.declared.TheConstants.{PUBLICATIONS}
use Rattle.store_definitions.specs.Config.{publication_index}
use Rattle.node_records.proofs.Sizes.{held_full, keyed_pass}
use Rattle.node_records.proofs.limits.check_publications.Goals as goal

pub returns-clause-limit : goal.returns-clause-limit
returns-clause-limit c = held_full c.passes_publications.result _ c.limit_where.ensures.limit c.passes_publications.ensures (keyed_pass publication_index c.args.row.now c.args.rows.now PUBLICATIONS c.requires)
