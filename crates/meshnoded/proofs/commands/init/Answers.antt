use Rattle.node_file.proofs.Steps.{if_err_is}
use Rattle.meshnoded.proofs.Causes.{not_made}
use Rattle.meshnoded.proofs.Made.{keyless, unmade}
use Rattle.meshnoded.specs.Failing.{make_failure}
use Rattle.meshnoded.proofs.commands.init.Goals as goal

pub returns-in_err-keys-clause-err : goal.returns-in_err-keys-clause-err
returns-in_err-keys-clause-err g c =
    let failure = c.in_err-keys.field-0.0 in
    if_err_is _ c.from_residual.result failure c.from_residual.ensures.1 (keyless (g.H.NodeFiles.unmakes c.args.files.now c.args.file.now) c.args.numbers _ _ _ _ failure c.in_err-keys.ensures.err)

pub returns-in_err-make-clause-err : goal.returns-in_err-make-clause-err
returns-in_err-make-clause-err g c =
    let fault = c.in_err-make.field-0.0 in
    if_err_is _ c.from_residual-in_err-make.result (make_failure fault) c.from_residual-in_err-make.ensures.1
    (unmade (g.H.NodeFiles.unmakes c.args.files.now c.args.file.now) c.args.numbers _ _ _ _ c.in_ok-keys.keys c.in_ok-keys.ensures.value c.in_ok-keys.ensures.no_fault fault
    (rw c.provision_with.ensures.value at c.in_err-make.ensures.unmakes))

pub returns-in_err-make-clause-cause : goal.returns-in_err-make-clause-cause
returns-in_err-make-clause-cause g c =
    let fault = c.in_err-make.field-0.0 in
    if_err_is _ c.from_residual-in_err-make.result (make_failure fault) c.from_residual-in_err-make.ensures.1 (not_made _ _ c.in_ok-keys.ensures.no_fault fault)
