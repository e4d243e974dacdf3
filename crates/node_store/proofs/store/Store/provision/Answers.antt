use Rattle.std.proofs.Common.{ℕ, List, Some, ap, sym, subst, ◌∙◌}
use Rattle.mesh_base.specs.declared.slot.Slot.{Slot}
use Rattle.flash_model.specs.Chip.{LeavesOnly}
use Rattle.slot_definitions.specs.Slots.{Held}
use Rattle.store_definitions.specs.Recovered.{IsRecovered}
use Rattle.store_definitions.specs.Provisioning.{provisioned}
use Rattle.slot_journal.specs.Format.{IsFormatted}
use Rattle.node_store.specs.Provisioning.{provisioning}
use Rattle.node_store.proofs.Holding.{exactly_store}
use Rattle.node_store.proofs.Made.{made_leaves, made_read, provisioned_names, provisioned_order}
use Rattle.node_store.proofs.store.Store.provision.Goals as goal

pub returns-in_err-journal-clause-any_moment : goal.returns-in_err-journal-clause-any_moment
returns-in_err-journal-clause-any_moment g c fresh erased =
    let p = provisioning c.args.p.now in
    let old = g.F.Flash.chip c.args.flash.now in
    let new = g.F.Flash.chip c.format.new.flash in
    made_leaves 2 old new (provisioned p) c.first_slots.ensures.ranges (provisioned_names p) (provisioned_order p)
    (subst (λ (l : List Slot). LeavesOnly old new (IsFormatted 2 l)) c.first_slots.ensures.value (c.in_err-journal.ensures.any_moment fresh erased))

pub returns-clause-exactly : goal.returns-clause-exactly
returns-clause-exactly g c fresh =
    let p = provisioning c.args.p.now in
    let old = g.F.Flash.chip c.args.flash.now in
    let new = g.F.Flash.chip c.format.new.flash in
    record {
      journal = c.in_ok-journal.ensures.kept fresh;
      read = made_read 2 old new (provisioned p) c.first_slots.ensures.ranges (provisioned_names p) (provisioned_order p) (c.in_ok-journal.ensures.durable fresh ∙ ap (λ (l : List Slot). let h : Held = record { format = 2; slots = l } in Some h) c.first_slots.ensures.value);
      meaning = c.first_persist.ensures.value;
    }

pub returns-clause-kept : goal.returns-clause-kept
returns-clause-kept g c fresh =
    let p = provisioning c.args.p.now in
    let old = g.F.Flash.chip c.args.flash.now in
    let new = g.F.Flash.chip c.format.new.flash in
    exactly_store new (record { journal = c.in_ok-journal.journal; persist = c.first_persist.result }) (provisioned p)
    (record {
      journal = c.in_ok-journal.ensures.kept fresh;
      read = made_read 2 old new (provisioned p) c.first_slots.ensures.ranges (provisioned_names p) (provisioned_order p) (c.in_ok-journal.ensures.durable fresh ∙ ap (λ (l : List Slot). let h : Held = record { format = 2; slots = l } in Some h) c.first_slots.ensures.value);
      meaning = c.first_persist.ensures.value;
    })

pub returns-clause-durable : goal.returns-clause-durable
returns-clause-durable g c fresh image is =
    let p = provisioning c.args.p.now in
    let old = g.F.Flash.chip c.args.flash.now in
    let new = g.F.Flash.chip c.format.new.flash in
    let read = made_read 2 old new (provisioned p) c.first_slots.ensures.ranges (provisioned_names p) (provisioned_order p) (c.in_ok-journal.ensures.durable fresh ∙ ap (λ (l : List Slot). let h : Held = record { format = 2; slots = l } in Some h) c.first_slots.ensures.value) in
    subst (λ (x : List ℕ). IsRecovered x (provisioned p)) (sym ((c.in_ok-journal.ensures.kept fresh).fresh.only image is)) read.held

pub returns-clause-any_moment : goal.returns-clause-any_moment
returns-clause-any_moment g c fresh erased =
    let p = provisioning c.args.p.now in
    let old = g.F.Flash.chip c.args.flash.now in
    let new = g.F.Flash.chip c.format.new.flash in
    made_leaves 2 old new (provisioned p) c.first_slots.ensures.ranges (provisioned_names p) (provisioned_order p)
    (subst (λ (l : List Slot). LeavesOnly old new (IsFormatted 2 l)) c.first_slots.ensures.value (c.in_ok-journal.ensures.any_moment fresh erased))
