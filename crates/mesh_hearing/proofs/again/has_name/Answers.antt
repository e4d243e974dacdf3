use Rattle.std.proofs.Common.{◌∙◌}
use Rattle.mesh_hearing.proofs.Halves.{has_found, has_missing}
use Rattle.mesh_hearing.proofs.again.has_name.Goals as goal

pub returns-in-Ok : goal.returns-in-Ok
returns-in-Ok c = λ rising. c.is_same.ensures.value ∙ has_found c.args.names.now c.args.name.now c.in-Ok.place _ c.in-Ok.ensures.found rising

pub returns-in-Err : goal.returns-in-Err
returns-in-Err c = λ rising. has_missing c.args.names.now c.args.name.now c.in-Err.field-0 (c.in-Err.ensures.missing rising)
