-- By the row of the index.
use Rattle.std.proofs.Common.{ap, sym, ◌∙◌}
use Rattle.std.specs.Prelude.{◌==◌, ◌&&◌}
use Rattle.std.specs.List.{find}
use Rattle.std.specs.Option.{option_map}
use Rattle.mesh_base.specs.declared.fields.Heard.{Heard}
use Rattle.net_keys.proofs.Rows.{sent_new, sent_old}
use Rattle.net_keys.proofs.held.sent_under.Goals as goal

pub returns-then-sends_new : goal.returns-then-sends_new
returns-then-sends_new c = record {
  value =
      ap (λ o. option_map (λ (h : Heard). h.material) o) c.new_at.ensures
      ∙ ap (λ hs. option_map (λ (h : Heard). h.material) (find (λ (h : Heard). (h.index == c.args.index) && h.fresh) hs)) c.requires
      ∙ sent_new c.args.rows.now c.args.index c.in_ok-row.row.now (sym c.in_ok-row.ensures.value) (sym c.if-sends_new.ensures);
}

pub returns-else-sends_new : goal.returns-else-sends_new
returns-else-sends_new c = record {
  value =
      ap (λ o. option_map (λ (h : Heard). h.material) o) c.old_at.ensures
      ∙ ap (λ hs. option_map (λ (h : Heard). h.material) (find (λ (h : Heard). h.index == c.args.index) hs)) c.requires
      ∙ sent_old c.args.rows.now c.args.index c.in_ok-row.row.now (sym c.in_ok-row.ensures.value) (sym c.if-sends_new.ensures);
}
