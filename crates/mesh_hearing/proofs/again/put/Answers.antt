use Rattle.std.proofs.Common.{◌∙◌, ap, cond}
use Rattle.std.specs.Prelude.{insert, slice_set}
use Rattle.mesh_base.specs.declared.pair.Name.{Name}
use Rattle.mesh_hearing.proofs.Halves.{put_found, put_missing}
use Rattle.mesh_hearing.specs.Again.{newer_name}
use Rattle.mesh_hearing.proofs.again.put.Goals as goal

pub returns-in-Ok : goal.returns-in-Ok
returns-in-Ok c = λ rising.
    let names = c.args.names.now.items in
    let place = c.in-Ok.place in
    ap (λ (x : Name). slice_set names place x) (c.raise.ensures ∙ ap (λ (x : Name). newer_name x c.args.name) c.index_mut.ensures.value)
    ∙ put_found names c.args.name place c.index_mut.result.now (rw c.as_slice.ensures.value at c.in-Ok.ensures.found) rising

pub returns-in-Err : goal.returns-in-Err
returns-in-Err c = λ rising.
    let names = c.args.names.now.items in
    c.insert.ensures.items
    ∙ ap (λ b. cond b (insert names c.in-Err.place c.args.name) names) (c.insert.ensures.succeeds c.requires)
    ∙ put_missing names c.args.name c.in-Err.place (rw c.as_slice.ensures.value at c.in-Err.ensures.most) (rw c.as_slice.ensures.value at (c.in-Err.ensures.missing (rw c.as_slice.ensures.value rising)))
