use Rattle.std.proofs.Common.{List, Some, ap, subst, ◌∙◌}
use Rattle.mesh_base.specs.declared.slot.Slot.{Slot}
use Rattle.flash_model.specs.Chip.{LeavesOnly}
use Rattle.slot_definitions.specs.Slots.{Held}
use Rattle.store_definitions.specs.Provisioning.{provisioned}
use Rattle.slot_journal.specs.Format.{IsFormatted}
use Rattle.node_store.specs.Provisioning.{provisioning}
use Rattle.node_store.proofs.Made.{made_leaves, old_images, provisioned_names, provisioned_order}
use Rattle.node_store.proofs.store.Store.provision_old.Goals as goal

pub returns-in_err-format-clause-any_moment : goal.returns-in_err-format-clause-any_moment
returns-in_err-format-clause-any_moment g c fresh erased =
    let p = provisioning c.args.p.now in
    let old = g.F.Flash.chip c.args.flash.now in
    let new = g.F.Flash.chip c.format.new.flash in
    made_leaves 1 old new (provisioned p) c.first_slots.ensures.ranges (provisioned_names p) (provisioned_order p)
    (subst (λ (l : List Slot). LeavesOnly old new (IsFormatted 1 l)) c.first_slots.ensures.value (c.in_err-format.ensures.any_moment fresh erased))

pub returns-clause-durable : goal.returns-clause-durable
returns-clause-durable g c fresh image is =
    let p = provisioning c.args.p.now in
    let new = g.F.Flash.chip c.format.new.flash in
    old_images p new c.first_slots.ensures.ranges (c.in_ok-format.ensures.kept fresh)
    (c.in_ok-format.ensures.durable fresh ∙ ap (λ (l : List Slot). let h : Held = record { format = 1; slots = l } in Some h) c.first_slots.ensures.value) image is

pub returns-clause-any_moment : goal.returns-clause-any_moment
returns-clause-any_moment g c fresh erased =
    let p = provisioning c.args.p.now in
    let old = g.F.Flash.chip c.args.flash.now in
    let new = g.F.Flash.chip c.format.new.flash in
    made_leaves 1 old new (provisioned p) c.first_slots.ensures.ranges (provisioned_names p) (provisioned_order p)
    (subst (λ (l : List Slot). LeavesOnly old new (IsFormatted 1 l)) c.first_slots.ensures.value (c.in_ok-format.ensures.any_moment fresh erased))
