use Rattle.std.proofs.Common.{◌∙◌, List, ap, sym}
use Rattle.std.specs.Prelude.{is_some}
use Rattle.mesh_base.specs.Keys.{app_row}
use Rattle.mesh_base.specs.declared.keys.AppKeyRow.{AppKeyRow}
use Rattle.node_records.proofs.Rows.{found_any, mapped_some}
use Rattle.node_records.proofs.persist.Persist.has_app.Goals as goal

pub returns-clause-any : goal.returns-clause-any
returns-clause-any c =
    c.is_some.ensures
    ∙ sym (mapped_some _ c.app_row.result)
    ∙ ap (λ o. is_some o) c.app_row.ensures.value
    ∙ ap (λ (rows : List AppKeyRow). is_some (app_row rows c.args.index)) c.as_slice.ensures.value
    ∙ found_any _ c.args.self.now.apps
