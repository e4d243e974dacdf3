use Rattle.std.proofs.Common.{List, ap, filter, rules, subst, sym, ◌∙◌}
use Rattle.std.specs.Prelude.{All}
use Rattle.arrayvec.proofs.ArrayVecLemmas.{filter-from_retain}
use Rattle.model_publish.specs.Own.{IsOwnRow}
use Rattle.node_layers.specs.Publishing.{is_own_row}
use Rattle.node_models.proofs.Own.{all_pass}
use Rattle.node_records.specs.Tables.{config_in}
use Rattle.record_types.specs.declared.records.PublishRow.{PublishRow}
use Rattle.node_models.proofs.models.own_rows.Goals as goal

pub returns : goal.returns
returns c =
    let kept = filter-from_retain _ _ _ (λ x b f' y k. search rules) _ _ c.retain.ensures.filtered in
    let value = kept ∙ ap (λ (rows : List PublishRow). filter (is_own_row (config_in c.args.p.now)) rows) c.copied-rows.ensures.value in
    record {
      value = value;
      own = subst (λ rows. All (IsOwnRow c.args.p.now.unicast.0 c.args.p.now.elements) rows) (sym value)
          (all_pass (config_in c.args.p.now) c.args.p.now.publications);
    }
