use Rattle.node_file.specs.declared.faults.MakeFault.TheVariants as M
use Rattle.node_file.proofs.Steps.{if_err_is, not_named, not_removed, not_synced}
use Rattle.node_file.proofs.making.named.Goals as goal

pub returns-in-Err-clause-err : goal.returns-in-Err-clause-err
returns-in-Err-clause-err g c =
    let steps = g.W.Folder.steps in
    not_named c.remove.result c.args.name.now c.args.path.now c.in-Err.error c.refusal.result (steps c.args.folder.now) (steps c.name.new.self)
    (steps c.remove.new.self) c.in-Err.ensures.err c.remove.ensures.ok c.remove.ensures.err c.refusal.ensures

pub returns-in_err-remove-clause-err : goal.returns-in_err-remove-clause-err
returns-in_err-remove-clause-err g c =
    let steps = g.W.Folder.steps in
    let error = c.in_err-remove.field-0.0 in
    if_err_is _ c.from_residual.result (M.System error) c.from_residual.ensures.1
    (not_removed c.args.name.now c.args.path.now error (steps c.args.folder.now) (steps c.name.new.self) (steps c.remove-2.new.self)
    c.in-Ok.ensures.ok c.in_err-remove.ensures.err)

pub returns-in_err-sync-clause-err : goal.returns-in_err-sync-clause-err
returns-in_err-sync-clause-err g c =
    let steps = g.W.Folder.steps in
    let error = c.in_err-sync.field-0.0 in
    if_err_is _ c.from_residual-in_err-sync.result (M.System error) c.from_residual-in_err-sync.ensures.1
    (not_synced c.args.name.now c.args.path.now error (steps c.args.folder.now) (steps c.name.new.self) (steps c.remove-2.new.self)
    (steps c.sync.new.self) c.in-Ok.ensures.ok c.in_ok-remove.ensures.ok c.in_err-sync.ensures.err)
