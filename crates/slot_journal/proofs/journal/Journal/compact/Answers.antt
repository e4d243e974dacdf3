use Rattle.std.proofs.Common.{arith, false, ℕ, ◌≡◌, ◌+◌, ◌-◌, ◌*◌, ◌%◌, refl, sym, subst}
use Rattle.mesh_base.specs.declared.slot.Slot.{Slot}
use Rattle.flash_model.specs.Chip.{LeavesOnly}
use Rattle.slot_definitions.specs.Slots.{text_of, header_of}
use Rattle.slot_journal.specs.Slots.{IsSlotWrite, IsWritten}
use Rattle.slot_journal.specs.View.{JournalView}
use Rattle.slot_journal.specs.Tie.{IsJournalOf}
use Rattle.slot_journal.proofs.Erases.{erased_bank}
use Rattle.slot_journal.proofs.Compacts.{unchanged, erase_leaves, fill_leaves, header_leaves, durable, kept}
use Rattle.slot_journal.proofs.journal.Journal.compact.Goals as goal

pub returns-then-self-clause-any_moment : goal.returns-then-self-clause-any_moment
returns-then-self-clause-any_moment g c tie = unchanged (g.F.Flash.chip c.args.flash.now) c.args.self.now (g.S.Items.slots c.args.items.now) tie (g.met.F.Flash.only_now c.args.flash.now)

pub returns-in_err-erase_bank-clause-any_moment : goal.returns-in_err-erase_bank-clause-any_moment
returns-in_err-erase_bank-clause-any_moment g c tie =
    let old = g.F.Flash.chip c.args.flash.now in
    let journal : JournalView = record { bank = c.self.inside.bank; used = c.self.inside.used; closed = c.self.inside.closed; generation = c.self.inside.generation; version = c.self.inside.version } in
    let here : IsJournalOf old journal = subst (λ (v : JournalView). IsJournalOf old v) (sym c.self.view_is) tie in
    let low = here.mounted.low in
    let other : ℕ = 1 - c.self.inside.bank in
    let sides : c.self.inside.bank + other ≡ 1 = omega (arith, low) in
    let mid = g.F.Flash.chip c.erase_bank.new.flash in
    erase_leaves old journal (g.S.Items.slots c.args.items.now) here other sides mid (c.in_err-erase_bank.ensures.any_moment tie.fresh tie.tidy.whole)

pub returns-in_err-used-clause-any_moment : goal.returns-in_err-used-clause-any_moment
returns-in_err-used-clause-any_moment g c tie =
    let old = g.F.Flash.chip c.args.flash.now in
    let journal : JournalView = record { bank = c.self.inside.bank; used = c.self.inside.used; closed = c.self.inside.closed; generation = c.self.inside.generation; version = c.self.inside.version } in
    let here : IsJournalOf old journal = subst (λ (v : JournalView). IsJournalOf old v) (sym c.self.view_is) tie in
    let low = here.mounted.low in
    let other : ℕ = 1 - c.self.inside.bank in
    let sides : c.self.inside.bank + other ≡ 1 = omega (arith, low) in
    let mid = g.F.Flash.chip c.erase_bank.new.flash in
    let erase = c.in_ok-erase_bank.ensures in
    let items = (g.S.Items.slots c.args.items.now) in
    let full = g.F.Flash.chip c.fill_bank.new.flash in
    let bare = erased_bank other items old.now mid (omega arith) here.tidy.whole (erase.erased tie.fresh tie.tidy.whole) in
    fill_leaves old journal items here other sides mid (erase.any_moment tie.fresh tie.tidy.whole) full (c.in_err-used.ensures.any_moment old.now bare)

pub returns-in_err-write_slot-clause-any_moment : goal.returns-in_err-write_slot-clause-any_moment
returns-in_err-write_slot-clause-any_moment g c tie =
    let old = g.F.Flash.chip c.args.flash.now in
    let journal : JournalView = record { bank = c.self.inside.bank; used = c.self.inside.used; closed = c.self.inside.closed; generation = c.self.inside.generation; version = c.self.inside.version } in
    let here : IsJournalOf old journal = subst (λ (v : JournalView). IsJournalOf old v) (sym c.self.view_is) tie in
    let low = here.mounted.low in
    let other : ℕ = 1 - c.self.inside.bank in
    let sides : c.self.inside.bank + other ≡ 1 = omega (arith, low) in
    let mid = g.F.Flash.chip c.erase_bank.new.flash in
    let erase = c.in_ok-erase_bank.ensures in
    let items = (g.S.Items.slots c.args.items.now) in
    let full = g.F.Flash.chip c.fill_bank.new.flash in
    let bare = erased_bank other items old.now mid (omega arith) here.tidy.whole (erase.erased tie.fresh tie.tidy.whole) in
    let new = g.F.Flash.chip c.write_slot.new.flash in
    let generation : ℕ = (c.self.inside.generation + 1) % 4294967296 in
    let fill = c.in_ok-used.ensures in
    let so = fill.filled old.now bare in
    header_leaves old journal items here other sides mid (erase.any_moment tie.fresh tie.tidy.whole) full (fill.any_moment old.now bare) c.requires so generation refl new
    (subst (λ (h : Slot). LeavesOnly full new (IsSlotWrite (1024 * other) (text_of h) full.now)) c.header.ensures (c.in_err-write_slot.ensures.any_moment so.fresh so.header))

pub returns-clause-kept : goal.returns-clause-kept
returns-clause-kept g c tie =
    let old = g.F.Flash.chip c.args.flash.now in
    let journal : JournalView = record { bank = c.self.inside.bank; used = c.self.inside.used; closed = c.self.inside.closed; generation = c.self.inside.generation; version = c.self.inside.version } in
    let here : IsJournalOf old journal = subst (λ (v : JournalView). IsJournalOf old v) (sym c.self.view_is) tie in
    let low = here.mounted.low in
    let other : ℕ = 1 - c.self.inside.bank in
    let sides : c.self.inside.bank + other ≡ 1 = omega (arith, low) in
    let mid = g.F.Flash.chip c.erase_bank.new.flash in
    let erase = c.in_ok-erase_bank.ensures in
    let items = (g.S.Items.slots c.args.items.now) in
    let full = g.F.Flash.chip c.fill_bank.new.flash in
    let bare = erased_bank other items old.now mid (omega arith) here.tidy.whole (erase.erased tie.fresh tie.tidy.whole) in
    let new = g.F.Flash.chip c.write_slot.new.flash in
    let generation : ℕ = (c.self.inside.generation + 1) % 4294967296 in
    let fill = c.in_ok-used.ensures in
    let so = fill.filled old.now bare in
    let write : IsWritten (1024 * other) (text_of (header_of 2 generation)) full.now new.now = subst (λ (h : Slot). IsWritten (1024 * other) (text_of h) full.now new.now) c.header.ensures (c.in_ok-write_slot.ensures.written so.fresh so.header) in
    subst (λ (n : ℕ). IsJournalOf new (record { bank = other; used = n; closed = false; generation = generation; version = 2 })) (sym fill.count)
    (kept old journal items here other sides mid (erase.any_moment tie.fresh tie.tidy.whole) full (fill.any_moment old.now bare) c.requires so generation refl new write (c.in_ok-write_slot.ensures.fresh so.fresh))

pub returns-clause-durable : goal.returns-clause-durable
returns-clause-durable g c tie =
    let old = g.F.Flash.chip c.args.flash.now in
    let journal : JournalView = record { bank = c.self.inside.bank; used = c.self.inside.used; closed = c.self.inside.closed; generation = c.self.inside.generation; version = c.self.inside.version } in
    let here : IsJournalOf old journal = subst (λ (v : JournalView). IsJournalOf old v) (sym c.self.view_is) tie in
    let low = here.mounted.low in
    let other : ℕ = 1 - c.self.inside.bank in
    let sides : c.self.inside.bank + other ≡ 1 = omega (arith, low) in
    let mid = g.F.Flash.chip c.erase_bank.new.flash in
    let erase = c.in_ok-erase_bank.ensures in
    let items = (g.S.Items.slots c.args.items.now) in
    let full = g.F.Flash.chip c.fill_bank.new.flash in
    let bare = erased_bank other items old.now mid (omega arith) here.tidy.whole (erase.erased tie.fresh tie.tidy.whole) in
    let new = g.F.Flash.chip c.write_slot.new.flash in
    let generation : ℕ = (c.self.inside.generation + 1) % 4294967296 in
    let fill = c.in_ok-used.ensures in
    let so = fill.filled old.now bare in
    let write : IsWritten (1024 * other) (text_of (header_of 2 generation)) full.now new.now = subst (λ (h : Slot). IsWritten (1024 * other) (text_of h) full.now new.now) c.header.ensures (c.in_ok-write_slot.ensures.written so.fresh so.header) in
    durable old journal items here other sides mid (erase.any_moment tie.fresh tie.tidy.whole) full (fill.any_moment old.now bare) c.requires so generation refl new write

pub returns-clause-any_moment : goal.returns-clause-any_moment
returns-clause-any_moment g c tie =
    let old = g.F.Flash.chip c.args.flash.now in
    let journal : JournalView = record { bank = c.self.inside.bank; used = c.self.inside.used; closed = c.self.inside.closed; generation = c.self.inside.generation; version = c.self.inside.version } in
    let here : IsJournalOf old journal = subst (λ (v : JournalView). IsJournalOf old v) (sym c.self.view_is) tie in
    let low = here.mounted.low in
    let other : ℕ = 1 - c.self.inside.bank in
    let sides : c.self.inside.bank + other ≡ 1 = omega (arith, low) in
    let mid = g.F.Flash.chip c.erase_bank.new.flash in
    let erase = c.in_ok-erase_bank.ensures in
    let items = (g.S.Items.slots c.args.items.now) in
    let full = g.F.Flash.chip c.fill_bank.new.flash in
    let bare = erased_bank other items old.now mid (omega arith) here.tidy.whole (erase.erased tie.fresh tie.tidy.whole) in
    let new = g.F.Flash.chip c.write_slot.new.flash in
    let generation : ℕ = (c.self.inside.generation + 1) % 4294967296 in
    let fill = c.in_ok-used.ensures in
    let so = fill.filled old.now bare in
    header_leaves old journal items here other sides mid (erase.any_moment tie.fresh tie.tidy.whole) full (fill.any_moment old.now bare) c.requires so generation refl new
    (subst (λ (h : Slot). LeavesOnly full new (IsSlotWrite (1024 * other) (text_of h) full.now)) c.header.ensures (c.in_ok-write_slot.ensures.any_moment so.fresh so.header))
