use Rattle.std.proofs.Common.{None, ap, refl, subst, sym, ◌∙◌}
use Rattle.layer_definitions.specs.Beacon.{ReadsBeacon}
use Rattle.layer_definitions.specs.KeyRefresh.{beacon_keys, net_index}
use Rattle.layer_definitions.specs.Order.{by_index}
use Rattle.mesh_types.specs.declared.answers.Answer.TheVariants as A
use Rattle.net_beacon.specs.Reading.{IsUnread}
use Rattle.mesh_hearing.specs.Below.{beacon_row}
use Rattle.mesh_hearing.specs.Tables.{AreTablesOf, TablesView}
use Rattle.mesh_hearing.proofs.Passing.{beacon_heard, beacon_more, beacon_reset, beacon_unread, quiet_more}
use Rattle.node_records.specs.Tables.{config_in}
use Rattle.event_definitions.specs.History.{OfBeacon, OfNothing}
use Rattle.mesh_hearing.proofs.tables.Tables.hear_beacon.Goals as goal

pub returns-then-p : goal.returns-then-p
returns-then-p c = record {
  heard = λ past m h. beacon_reset past c.args.p.now c.args.octets.now m c.if-p.true;
  tables = λ told e h i a. quiet_more told c.args.self.now e OfNothing A.Reset h i a (λ _ _. refl);
  keys = refl;
}

pub returns-in-Ok : goal.returns-in-Ok
returns-in-Ok c =
    let i = c.self.inside in
    let old : TablesView = record { keys = i.keys; cache = i.cache; parts = i.parts; again = i.again.items; own = i.own; ticks = i.ticks } in
    record {
      heard = λ past m h.
          beacon_heard past c.args.p.now c.args.self.now c.args.octets.now c.in-Ok.beacon c.beacon_answer-answer.result m h c.if-p.false c.beacon_law.ensures.order
          (c.order_law.ensures.nets past.records)
          (subst (λ rows. ReadsBeacon (beacon_keys (by_index net_index rows)) c.args.octets.now c.in-Ok.beacon) c.as_slice.ensures.value c.in-Ok.ensures.ok)
          (c.beacon_answer-answer.ensures.value ∙ ap (λ b. beacon_row (config_in c.args.p.now) b c.in-Ok.beacon) c.is_busy.ensures.value);
      tables = λ told e h x a.
          beacon_more told old _ e (config_in c.args.p.now) c.is_busy.result c.in-Ok.beacon c.beacon_answer-answer.result (subst (λ v. AreTablesOf v told) (sym c.self.view_is) h) x a
          c.beacon_answer-answer.ensures.value refl refl refl c.recover.ensures.state refl;
      keys = ap (λ (v : TablesView). v.keys) c.self.view_is;
    }

pub returns-in-Err : goal.returns-in-Err
returns-in-Err c = record {
  heard = λ past m h.
      beacon_unread past c.args.p.now c.args.octets.now m c.if-p.false c.beacon_law.ensures.order (c.order_law.ensures.nets past.records)
      (subst (λ rows. IsUnread (beacon_keys (by_index net_index rows)) c.args.octets.now) c.as_slice.ensures.value (c.in-Err.ensures.unread.0 refl));
  tables = λ told e h i a. quiet_more told c.args.self.now e (OfBeacon None) A.Unread h i a (λ _ _. refl);
  keys = refl;
}
