use Rattle.std.proofs.Common.{ap, ◌∙◌}
use Rattle.store_definitions.specs.Config.{Config}
use Rattle.node_store.proofs.Found.{only_reset, stands}
use Rattle.node_store.proofs.Holding.{holds_alike, holds_once}
use Rattle.node_store.proofs.laws.held_law.Goals as goal

pub returns : goal.returns
returns c = record {
  alike = holds_alike;
  once = holds_once;
  stands = λ content records h here fault found. stands content h.found fault h.read (ap (λ (d : Config). d.reset) h.alike.config ∙ here) found;
  was_reset = λ content records h is fault found. only_reset content h.found fault h.read (ap (λ (d : Config). d.reset) h.alike.config ∙ is) found;
}
