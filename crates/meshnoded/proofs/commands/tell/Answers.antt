use Rattle.std.proofs.Common.{refl}
use Rattle.node_file.proofs.Steps.{if_err_is}
use Rattle.meshnoded.specs.Failing.{open_failure, show_failure}
use Rattle.meshnoded.specs.Causes.{IsSinkFailure}
use Rattle.meshnoded.proofs.Causes.{unopened as untouched, unshown as unshown_sink, unwritten}
use Rattle.meshnoded.proofs.Told.{told_ok, unopened, unshown, untold}
use Rattle.meshnoded.proofs.commands.tell.Goals as goal

pub returns-clause-ok : goal.returns-clause-ok
returns-clause-ok g c =
    told_ok _ _ c.in_ok-flash.flash c.in_ok-flash.ensures.opens _ (c.in_ok-text.ensures.value c.in_ok-flash.ensures.fresh.honest) _ c.print.result (rw c.as_slice.ensures.value at c.print.ensures.ok)

pub returns-clause-err : goal.returns-clause-err
returns-clause-err g c =
    untold _ _ c.in_ok-flash.flash c.in_ok-flash.ensures.opens _ (c.in_ok-text.ensures.value c.in_ok-flash.ensures.fresh.honest) _ _ _ c.print.result (rw c.as_slice.ensures.value at c.print.ensures.err)

pub returns-in_err-flash-clause-err : goal.returns-in_err-flash-clause-err
returns-in_err-flash-clause-err g c =
    let fault = c.in_err-flash.field-0.0 in
    if_err_is _ c.from_residual.result (open_failure fault) c.from_residual.ensures.1 (unopened _ _ _ _ _ refl fault c.in_err-flash.ensures.refuses)

pub returns-in_err-text-clause-err : goal.returns-in_err-text-clause-err
returns-in_err-text-clause-err g c =
    let fault = c.in_err-text.field-0.0 in
    if_err_is _ c.from_residual-in_err-text.result (show_failure fault) c.from_residual-in_err-text.ensures.1
    (unshown _ _ _ _ _ refl c.in_ok-flash.flash c.show.new.flash c.in_ok-flash.ensures.opens fault c.in_err-text.ensures.cause)

pub returns-clause-cause : goal.returns-clause-cause
returns-clause-cause g c = unwritten _ _ _ c.print.result c.print.ensures.err c.print.ensures.cause

pub returns-in_err-flash-clause-cause : goal.returns-in_err-flash-clause-cause
returns-in_err-flash-clause-cause g c =
    let fault = c.in_err-flash.field-0.0 in
    if_err_is _ c.from_residual.result (open_failure fault) c.from_residual.ensures.1 (untouched IsSinkFailure _ refl (λ other. refl) fault)

pub returns-in_err-text-clause-cause : goal.returns-in_err-text-clause-cause
returns-in_err-text-clause-cause g c =
    let fault = c.in_err-text.field-0.0 in
    if_err_is _ c.from_residual-in_err-text.result (show_failure fault) c.from_residual-in_err-text.ensures.1 (unshown_sink _ fault)
