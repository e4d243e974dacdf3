use Rattle.std.proofs.Common.{ap, refl, sym, ◌∙◌}
use Rattle.mesh_hearing.proofs.Heard.{tables_more}
use Rattle.mesh_hearing.specs.Tables.{TablesView}
use Rattle.mesh_types.specs.declared.answers.Answer.TheVariants as A
use Rattle.event_definitions.specs.History.{OfNothing}
use Rattle.store_definitions.specs.Config.{config_of}
use Rattle.mesh_hearing.proofs.tables.Tables.wait.Goals as goal

pub returns-clause-tables : goal.returns-clause-tables
returns-clause-tables c = λ told e are parts own nothing ticked.
    tables_more told c.args.self.now _ e OfNothing (A.Ticked c.args.now) (config_of e.records) are nothing ticked refl
    (ap (λ (v : TablesView). v.cache) c.self.view_is)
    (ap (λ (v : TablesView). v.parts) c.self.view_is ∙ sym parts)
    (ap (λ (v : TablesView). v.again) c.self.view_is)
    (ap (λ (v : TablesView). v.own) c.self.view_is ∙ sym own)
    refl
