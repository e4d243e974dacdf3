use Rattle.std.proofs.Common.{ap, subst, sym, List, ◌∙◌}
use Rattle.event_definitions.specs.Answers.{is_entry}
use Rattle.mesh_base.specs.declared.pair.Name.{Name}
use Rattle.mesh_hearing.proofs.Named.{again_is}
use Rattle.mesh_hearing.proofs.Newest.{newest_rising}
use Rattle.mesh_hearing.specs.Again.{IsRising}
use Rattle.node_layers.specs.Steps.{segmented_names}
use Rattle.mesh_hearing.proofs.lower.is_again.Goals as goal

pub returns-then-is_entry : goal.returns-then-is_entry
returns-then-is_entry c = λ past k a r.
    again_is past c.args.name.now c.has_name.result c.args.again.now
    (sym c.if-is_entry.true ∙ c.is_entry.ensures ∙ ap (λ e. is_entry e c.args.name.now.pair) k) a r
    (c.has_name.ensures (subst (λ (names : List Name). IsRising 0 names) (sym a) (newest_rising (segmented_names past.told))))
