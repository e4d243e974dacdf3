use Rattle.std.proofs.Common.{ap}
use Rattle.mesh_hearing.proofs.Rows.{mine_last}
use Rattle.mesh_reading.specs.Keys.{HeldKeys}
use Rattle.node_records.specs.Tables.{config_in}
use Rattle.mesh_hearing.proofs.network.is_mine.Goals as goal

pub returns-else-is_own : goal.returns-else-is_own
returns-else-is_own c =
    mine_last (config_in c.args.p.now) c.args.keys.now.labels c.args.a c.is_own.result c.is_labelled.result c.is_own.ensures c.if-is_own.false
    (ap (λ (k : HeldKeys). k.labels) c.requires) c.is_labelled.ensures.value
