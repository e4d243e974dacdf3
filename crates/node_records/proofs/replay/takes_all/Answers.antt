use Rattle.std.proofs.Common.{◌+◌, length, leb-true, arith}
use Rattle.std.specs.Prelude.{not}
use Rattle.node_limits.specs.declared.TheConstants.{REPLAY_ENTRIES}
use Rattle.mesh_base.specs.Pairs.{is_expired}
use Rattle.node_records.proofs.Changes.{filter_few}
use Rattle.node_records.proofs.replay.takes_all.Goals as goal

pub returns-else-rows-more-ge-REPLAY_ENTRIES : goal.returns-else-rows-more-ge-REPLAY_ENTRIES
returns-else-rows-more-ge-REPLAY_ENTRIES c = (
  (λ t. absurd (omega (arith, leb-true REPLAY_ENTRIES (length c.args.rows.now + c.args.more) t, c.if-rows-more-ge-REPLAY_ENTRIES.false))),
  (λ h. absurd (omega (arith, h, filter_few (λ row. not (is_expired c.args.current row.pair)) c.args.rows.now, c.if-rows-more-ge-REPLAY_ENTRIES.false))),
)
