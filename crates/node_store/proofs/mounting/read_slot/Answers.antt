use Rattle.std.proofs.Common.{ℕ, subst, sym, ◌∙◌}
use Rattle.node_store.specs.Mounted.{IsTaken}
use Rattle.node_store.proofs.Mounts.{on_ok, slot_gap, slot_taken}
use Rattle.node_store.proofs.mounting.read_slot.Goals as goal

pub returns-in_default-clause-value : goal.returns-in_default-clause-value
returns-in_default-clause-value g c honest k is said =
    slot_gap (g.F.Flash.chip c.args.flash.now).now c.args.journal.now.bank c.args.journal.now.version c.args.n k c.args.persist.now is said (sym c.in_ok-slot.ensures.value ∙ c.in_default.is)

pub returns-clause-value : goal.returns-clause-value
returns-clause-value g c honest k is said =
    on_ok c.take.result _ _ c.take.ensures.taken
    (λ taken. slot_taken (g.F.Flash.chip c.args.flash.now).now c.args.journal.now.bank c.args.journal.now.version c.args.n k c.args.persist.now c.take.new.persist c.in-Some.slot is said (sym c.in_ok-slot.ensures.value ∙ c.in-Some.is)
    (subst (λ (f : ℕ). IsTaken f c.args.persist.now c.in-Some.slot c.take.new.persist) c.version.ensures.value taken))
