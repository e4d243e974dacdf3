use Rattle.std.proofs.Common.{List, ap, subst, sym, ◌∙◌}
use Rattle.std.specs.Prelude.{fold}
use Rattle.layer_states.specs.Sending as sending
use Rattle.mesh_base.specs.declared.pair.Name.{Name}
use Rattle.mesh_hearing.proofs.Newest.{newest_rising}
use Rattle.mesh_hearing.specs.Again.{IsRising}
use Rattle.node_layers.specs.Steps.{segmented_names}
use Rattle.mesh_hearing.proofs.Heard.{heard_reset, tables_more}
use Rattle.mesh_hearing.specs.Below.{StandsBelow}
use Rattle.mesh_hearing.specs.Heard.{insight_of}
use Rattle.mesh_hearing.specs.Tables.{AreTablesOf, TablesView, again_after}
use Rattle.node_records.specs.Tables.{config_in}
use Rattle.store_definitions.specs.Config.{config_of}
use Rattle.mesh_hearing.proofs.tables.Tables.hear.Goals as goal

pub returns-then-p-clause-heard : goal.returns-then-p-clause-heard
returns-then-p-clause-heard c = λ past m h r k.
    heard_reset past c.args.p.now c.args.octets.now c.args.self.now m c.if-p.true h

pub returns-clause-heard : goal.returns-clause-heard
returns-clause-heard c = λ past m h r k.
    let i = c.self.inside in
    let old : TablesView = record { keys = i.keys; cache = i.cache; parts = i.parts; again = i.again.items; own = i.own; ticks = i.ticks } in
    let tables : AreTablesOf old past.told = subst (λ v. AreTablesOf v past.told) (sym c.self.view_is) h in
    let below : StandsBelow past c.args.p.now i.parts c.as_slice.result.now i.ticks = record {
      meaning = m;
      parts = tables.parts;
      again = c.as_slice.ensures.value ∙ c.reserve.ensures.items ∙ tables.again;
      recorded = r;
      now = tables.ticks;
    } in
    let x = c.in_ok-hearing.ensures.heard past c.if-p.false tables.cache below k in
    let heard = c.in_ok-hearing.hearing in
    record {
      sees = x.sees;
      answer = x.answer;
      tables = λ e insight answer records.
          tables_more past.told old _ e (insight_of heard) heard.answer (config_in c.args.p.now) tables insight answer (ap config_of records ∙ sym m.config)
          c.in_ok-hearing.ensures.cache c.in_ok-hearing.ensures.parts
          (c.put_reserved.ensures (subst (λ (names : List Name). IsRising 0 names) (sym (c.reserve.ensures.items ∙ tables.again)) (newest_rising (segmented_names past.told))) ∙ ap (λ names. again_after names c.accepted_part.result) c.reserve.ensures.items
          ∙ ap (λ n. again_after i.again.items n) c.accepted_part.ensures)
          (c.acknowledge.ensures.state ∙ ap (λ cs. fold sending.after i.own cs) (sym (c.in_ok-hearing.ensures.own i.ticks e.entry.event)))
          (sym c.in_ok-hearing.ensures.time);
    }
