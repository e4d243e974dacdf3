use Rattle.std.proofs.Common.{◌∙◌, sym, subst}
use Rattle.node_file.specs.declared.faults.MakeFault.TheVariants as M
use Rattle.node_file.specs.Making.{Did, DidAll, DidSome, IsImageOf, IsUnnamed, naming}
use Rattle.node_file.specs.Making.Step.{finds}
use Rattle.node_file.proofs.Steps.{found_one, if_err_is, if_err_so, made_in, not_asked, not_created, not_finished, on_ok_so, only_asked}
use Rattle.node_file.proofs.making.make_in.Goals as goal

pub returns-in_err-find-clause-unmade : goal.returns-in_err-find-clause-unmade
returns-in_err-find-clause-unmade g c =
    let steps = g.W.Folder.steps in
    let error = c.in_err-find.field-0.0 in
    if_err_is _ c.from_residual.result (M.System error) c.from_residual.ensures.1
    (not_asked c.args.path.now c.args.provision.now error (steps c.args.folder.now) (steps c.find.new.self) c.in_err-find.ensures.err)

pub returns-then-branch-clause-unmade : goal.returns-then-branch-clause-unmade
returns-then-branch-clause-unmade g c =
    let a = g.W.Folder.steps c.args.folder.now in
    let b = g.W.Folder.steps c.find.new.self in
    found_one c.args.path.now c.args.provision.now a b (subst (λ x. Did (finds c.args.path.now x) a b) c.if-branch.true c.in_ok-find.ensures.ok)

pub returns-in_err-name-clause-unmade : goal.returns-in_err-name-clause-unmade
returns-in_err-name-clause-unmade g c =
    let a = g.W.Folder.steps c.args.folder.now in
    let b = g.W.Folder.steps c.find.new.self in
    if_err_is _ c.from_residual-in_err-name.result M.Memory c.from_residual-in_err-name.ensures.1
    (only_asked c.args.path.now c.args.provision.now a b (subst (λ x. Did (finds c.args.path.now x) a b) c.if-branch.false c.in_ok-find.ensures.ok))

pub returns-in_err-image-clause-unmade : goal.returns-in_err-image-clause-unmade
returns-in_err-image-clause-unmade g c =
    let a = g.W.Folder.steps c.args.folder.now in
    let b = g.W.Folder.steps c.find.new.self in
    if_err_is _ c.from_residual-in_err-image.result M.Memory c.from_residual-in_err-image.ensures.1
    (only_asked c.args.path.now c.args.provision.now a b (subst (λ x. Did (finds c.args.path.now x) a b) c.if-branch.false c.in_ok-find.ensures.ok))

pub returns-in_err-created-clause-unmade : goal.returns-in_err-created-clause-unmade
returns-in_err-created-clause-unmade g c =
    let steps = g.W.Folder.steps in
    let a = steps c.args.folder.now in
    let b = steps c.find.new.self in
    let fault = c.in_err-created.field-0.0 in
    if_err_is _ c.from_residual-in_err-created.result fault c.from_residual-in_err-created.ensures.1
    (not_created c.args.path.now c.as_str.result.now c.as_slice.result.now c.args.provision.now c.in_err-created.ensures.err.0 fault a b (steps c.created.new.folder)
    (c.as_str.ensures.value ∙ c.in_ok-name.ensures.value)
    (subst (IsImageOf c.args.provision.now) (sym c.as_slice.ensures.value) c.in_ok-image.ensures.image)
    (subst (λ x. Did (finds c.args.path.now x) a b) c.if-branch.false c.in_ok-find.ensures.ok) c.in_err-created.ensures.err.1 c.in_err-created.ensures.err.2)

pub returns-clause-made : goal.returns-clause-made
returns-clause-made g c =
    let steps = g.W.Folder.steps in
    let a = steps c.args.folder.now in
    let b = steps c.find.new.self in
    on_ok_so _ _ c.named.result (λ named.
    made_in c.args.path.now c.as_str.result.now c.as_slice.result.now c.args.provision.now a b (steps c.created.new.folder)
    (steps c.named.new.folder) (c.as_str.ensures.value ∙ c.in_ok-name.ensures.value)
    (subst (IsImageOf c.args.provision.now) (sym c.as_slice.ensures.value) c.in_ok-image.ensures.image)
    (subst (λ x. Did (finds c.args.path.now x) a b) c.if-branch.false c.in_ok-find.ensures.ok) c.in_ok-created.ensures.ok
    (subst (λ n. DidAll (naming n c.args.path.now) (steps c.created.new.folder) (steps c.named.new.folder))
    (c.as_str-2.ensures.value ∙ sym c.as_str.ensures.value) named)) c.named.ensures.ok

pub returns-clause-unmade : goal.returns-clause-unmade
returns-clause-unmade g c =
    let steps = g.W.Folder.steps in
    let a = steps c.args.folder.now in
    let b = steps c.find.new.self in
    if_err_so _ _ c.named.result (λ fault some.
    not_finished c.args.path.now c.as_str.result.now c.as_slice.result.now c.args.provision.now fault a b (steps c.created.new.folder)
    (steps c.named.new.folder) (c.as_str.ensures.value ∙ c.in_ok-name.ensures.value)
    (subst (IsImageOf c.args.provision.now) (sym c.as_slice.ensures.value) c.in_ok-image.ensures.image)
    (subst (λ x. Did (finds c.args.path.now x) a b) c.if-branch.false c.in_ok-find.ensures.ok) c.in_ok-created.ensures.ok
    (subst (λ n. DidSome (IsUnnamed n c.args.path.now fault) (steps c.created.new.folder) (steps c.named.new.folder))
    (c.as_str-2.ensures.value ∙ sym c.as_str.ensures.value) some)) c.named.ensures.err
