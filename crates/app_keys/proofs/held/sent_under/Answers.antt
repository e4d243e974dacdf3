-- By the rows of the index.
use Rattle.std.proofs.Common.{ap, sym, ◌∙◌}
use Rattle.std.specs.Prelude.{◌==◌, ◌&&◌}
use Rattle.std.specs.List.{find}
use Rattle.std.specs.Option.{option_map}
use Rattle.kept_keys.specs.declared.upper.BoundSchedule.{BoundSchedule}
use Rattle.app_keys.specs.Held.{pair_of}
use Rattle.app_keys.proofs.Rows.{sent_new, sent_old}
use Rattle.app_keys.proofs.held.sent_under.Goals as goal

pub returns-then-sends_new : goal.returns-then-sends_new
returns-then-sends_new c = record {
  value =
      ap (λ o. option_map pair_of o) c.new_at.ensures
      ∙ ap (λ bs. option_map pair_of (find (λ (b : BoundSchedule). (b.index == c.args.index) && b.fresh) bs)) c.requires
      ∙ sent_new c.args.rows.now c.args.nets.now c.args.index c.in_ok-row.row.now c.in_ok-net.net.now (sym c.in_ok-row.ensures.value) (sym c.in_ok-net.ensures.value) (sym c.if-sends_new.ensures);
}

pub returns-else-sends_new : goal.returns-else-sends_new
returns-else-sends_new c = record {
  value =
      ap (λ o. option_map pair_of o) c.old_at.ensures
      ∙ ap (λ bs. option_map pair_of (find (λ (b : BoundSchedule). b.index == c.args.index) bs)) c.requires
      ∙ sent_old c.args.rows.now c.args.nets.now c.args.index c.in_ok-row.row.now c.in_ok-net.net.now (sym c.in_ok-row.ensures.value) (sym c.in_ok-net.ensures.value) (sym c.if-sends_new.ensures);
}
