use Rattle.std.proofs.Common.{List, [], ◌∷◌, ◌++◌, sym, subst, ap, ◌∙◌}
use Rattle.std.proofs.Common.{rules}
use Rattle.record_types.specs.declared.records.StoreRecord.{StoreRecord}
use Rattle.flash_model.specs.Chip.{LeavesOnly}
use Rattle.slot_definitions.specs.Slots.{recovered}
use Rattle.mesh_base.specs.declared.slot.Slot.{Slot}
use Rattle.node_records.specs.Full.{IsFull}
use Rattle.slot_journal.specs.Tie.{IsAppended, with_last}
use Rattle.node_store.specs.Tie.{IsNotBelow, IsStoreOf}
use Rattle.node_store.specs.View.{StoreView}
use Rattle.node_store.proofs.Made.{applied}
use Rattle.node_store.specs.Writing.{Puts}
use Rattle.node_store.proofs.Puts.{added_kept, added_moment, puts_of}
use Rattle.node_store.proofs.store.Store.add.Goals as goal

pub returns-in_default-clause-any_moment : goal.returns-in_default-clause-any_moment
returns-in_default-clause-any_moment g c records tie =
    let old = g.F.Flash.chip c.args.flash.now in
    let new = g.F.Flash.chip c.append.new.flash in
    let item = c.args.item.now in
    let inside : StoreView = record { journal = c.self.inside.journal; persist = c.self.inside.persist } in
    let here : IsStoreOf old inside records = subst (λ (v : StoreView). IsStoreOf old v records) (sym c.self.view_is) tie in
    let rises : IsNotBelow inside.persist item = subst (λ (v : StoreView). IsNotBelow v.persist item) (sym c.self.view_is) c.requires.rises in
    let place : IsFull inside.persist item → ⊥ = subst (λ (v : StoreView). IsFull v.persist item → ⊥) (sym c.self.view_is) c.requires.place in
    added_moment old inside records item here c.requires.range c.self.invariant.1 rises place new
    (subst (λ (s : Slot). LeavesOnly old new (IsAppended (recovered old.now) s)) c.encode-slot.ensures.value (c.append.ensures.any_moment here.exact.journal))

pub returns-clause-any_moment : goal.returns-clause-any_moment
returns-clause-any_moment g c records tie =
    let old = g.F.Flash.chip c.args.flash.now in
    let new = g.F.Flash.chip c.append.new.flash in
    let item = c.args.item.now in
    let inside : StoreView = record { journal = c.self.inside.journal; persist = c.self.inside.persist } in
    let here : IsStoreOf old inside records = subst (λ (v : StoreView). IsStoreOf old v records) (sym c.self.view_is) tie in
    let rises : IsNotBelow inside.persist item = subst (λ (v : StoreView). IsNotBelow v.persist item) (sym c.self.view_is) c.requires.rises in
    let place : IsFull inside.persist item → ⊥ = subst (λ (v : StoreView). IsFull v.persist item → ⊥) (sym c.self.view_is) c.requires.place in
    added_moment old inside records item here c.requires.range c.self.invariant.1 rises place new
    (subst (λ (s : Slot). LeavesOnly old new (IsAppended (recovered old.now) s)) c.encode-slot.ensures.value (c.append.ensures.any_moment here.exact.journal))

pub returns-clause-puts : goal.returns-clause-puts
returns-clause-puts g c =
    let old = g.F.Flash.chip c.args.flash.now in
    let new = g.F.Flash.chip c.append.new.flash in
    let item = c.args.item.now in
    let inside : StoreView = record { journal = c.self.inside.journal; persist = c.self.inside.persist } in
    let after : StoreView = record { journal = c.append.new.self; persist = c.apply.new.self } in
    let rises : IsNotBelow inside.persist item = subst (λ (v : StoreView). IsNotBelow v.persist item) (sym c.self.view_is) c.requires.rises in
    let place : IsFull inside.persist item → ⊥ = subst (λ (v : StoreView). IsFull v.persist item → ⊥) (sym c.self.view_is) c.requires.place in
    let value = applied c.apply.result _ _ c.apply.ensures.ok c.apply.ensures.limit place in
    let kept : (records : List StoreRecord) → IsStoreOf old inside records → IsStoreOf new after (records ++ item ∷ []) = λ records here.
    added_kept old inside records item here c.requires.range c.self.invariant.1 rises place new after
    (c.in-Ok.ensures.durable here.exact.journal ∙ ap (λ (s : Slot). with_last s (recovered old.now)) c.encode-slot.ensures.value) (c.in-Ok.ensures.kept here.exact.journal) value in
    subst (λ (v : StoreView). Puts (item ∷ []) old new v after) c.self.view_is (puts_of (item ∷ []) old new inside after (search rules) (search rules) value kept)
