use Rattle.std.proofs.Common.{List, ap, ◌∙◌}
use Rattle.std.specs.Prelude.{length}
use Rattle.std.proofs.lemmas.List.FromFn.{length-map-range_with_len}
use Rattle.element_models.proofs.Lives.{opened}
use Rattle.element_models.specs.Stepping.{servers_first}
use Rattle.element_models.specs.declared.servers.Servers.{Servers}
use Rattle.node_records.specs.Tables.{config_in}
use Rattle.element_models.proofs.models.ElementModels.open.Goals as goal

pub returns : goal.returns
returns c = record {
  count =
      ap (λ (ss : List Servers). length ss) c.first_of.ensures
      ∙ length-map-range_with_len (servers_first (config_in c.args.p.now)) 0 c.args.p.now.elements;
  opened = opened c.args.p.now c.first_of.result.items c.first_of.ensures;
}
