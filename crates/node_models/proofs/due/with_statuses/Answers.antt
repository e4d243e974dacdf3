-- One row more.
use Rattle.std.proofs.Common.{◌∙◌, ◌+◌, List, [], ◌∷◌, ap, arith, length, length-append, map, subst, sym, take_all}
use Rattle.std.specs.Prelude.{All}
use Rattle.std.proofs.lemmas.List.Elements.{All-nil, All-push}
use Rattle.node_models.proofs.Statuses.{next_status}
use Rattle.node_models.specs.Due.{ShowsOctet, due_row}
use Rattle.node_models.specs.declared.due.DueRow.{DueRow}
use Rattle.record_types.specs.declared.records.PublishRow.{PublishRow}
use Rattle.node_models.proofs.due.with_statuses.Goals as goal

pub loop-row-init : goal.loop-row-init
loop-row-init c = record {
  count = ap (λ (rows : List DueRow). length rows) c.new-list.ensures.value;
  value = λ past d are first. c.new-list.ensures.value;
  octets = subst (λ (rows : List DueRow). All ShowsOctet rows) (sym c.new-list.ensures.value) (All-nil ShowsOctet);
}

pub push-requires : goal.push-requires
push-requires c = omega (arith, c.loop-row.invariant.count, c.loop-row-test.true, c.requires.length)

pub loop-row-preserved : goal.loop-row-preserved
loop-row-preserved c = record {
  count =
      ap (λ (rows : List DueRow). length rows) c.push.ensures.value
      ∙ length-append c.loop-row.list (c.with_status.result ∷ [])
      ∙ ap (λ n. n + 1) c.loop-row.invariant.count;
  value = λ past d are first.
      next_status (due_row past d c.args.now) c.args.rows.now c.loop-row.row-index _ (c.loop-row.invariant.value past d are first)
      (c.with_status.ensures.value past d are first) c.push.ensures.value c.loop-row-test.true;
  octets =
      subst (λ (rows : List DueRow). All ShowsOctet rows) (sym c.push.ensures.value)
      (All-push ShowsOctet c.loop-row.list c.with_status.result c.loop-row.invariant.octets c.with_status.ensures.octet);
}

pub returns : goal.returns
returns c = record {
  octets = c.loop-row.invariant.octets;
  value = λ past d are first.
      c.loop-row.invariant.value past d are first
      ∙ ap (λ (rows : List PublishRow). map (due_row past d c.args.now) rows)
      (take_all c.loop-row.row-index c.args.rows.now (omega (arith, c.loop-row-test.false)));
}
