use Rattle.std.proofs.Common.{refl}
use Rattle.node_file.proofs.Steps.{if_err_is}
use Rattle.meshnoded.specs.Failing.{open_failure}
use Rattle.meshnoded.proofs.commands.check.Goals as goal

pub returns-in_err-open-clause-unopened : goal.returns-in_err-open-clause-unopened
returns-in_err-open-clause-unopened g c =
    let fault = c.in_err-open.field-0.0 in
    if_err_is _ c.from_residual.result (open_failure fault) c.from_residual.ensures.1 (fault, refl, c.in_err-open.ensures.refuses)
