use Rattle.std.proofs.Common.{ap, ◌∙◌}
use Rattle.mesh_hearing.proofs.Acknowledged.{any_is}
use Rattle.mesh_hearing.specs.Below.{is_any}
use Rattle.mesh_hearing.specs.Tables.{TablesView}
use Rattle.mesh_hearing.proofs.tables.Tables.is_busy.Goals as goal

pub returns : goal.returns
returns c = record { value = any_is c.busy.result c.self.inside.own c.busy.ensures.value ∙ ap (λ (v : TablesView). is_any v.own) c.self.view_is }
