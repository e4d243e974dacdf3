use Rattle.std.proofs.Common.{arith, ℕ, Option, false, sym, subst}
use Rattle.mesh_base.specs.declared.slot.Slot.{Slot}
use Rattle.flash_model.specs.Chip.{LeavesOnly}
use Rattle.slot_definitions.specs.Slots.{text_of, header_of}
use Rattle.slot_journal.specs.Slots.{IsSlotWrite, IsWritten}
use Rattle.slot_journal.specs.Tie.{IsJournalOf}
use Rattle.slot_journal.specs.Format.{IsErased, IsScanned}
use Rattle.slot_journal.proofs.Formats.{scan_leaves, scanned_filled, items_leave, header_leaves, durable, kept}
use Rattle.slot_journal.proofs.journal.Journal.format.Goals as goal

pub returns-in_err-at-clause-any_moment : goal.returns-in_err-at-clause-any_moment
returns-in_err-at-clause-any_moment g c fresh blank =
    let laws = g.met.F.Flash in
    let flash = c.args.flash.now in
    let old = g.F.Flash.chip flash in
    let items = c.args.items.now in
    let format = c.args.format in
    let known = c.requires.known in
    let whole = laws.content flash old.moment old.now fresh.honest (laws.counts_now flash old.moment old.now (omega arith) (laws.reads_image flash fresh.honest)) in
    let mid = g.F.Flash.chip c.first_written.new.flash in
    scan_leaves format items known old fresh whole blank mid (laws.only_now flash) (c.in_err-at.ensures.stays fresh.honest)

pub returns-in_err-used-clause-any_moment : goal.returns-in_err-used-clause-any_moment
returns-in_err-used-clause-any_moment g c fresh blank =
    let laws = g.met.F.Flash in
    let flash = c.args.flash.now in
    let old = g.F.Flash.chip flash in
    let items = c.args.items.now in
    let format = c.args.format in
    let known = c.requires.known in
    let whole = laws.content flash old.moment old.now fresh.honest (laws.counts_now flash old.moment old.now (omega arith) (laws.reads_image flash fresh.honest)) in
    let mid = g.F.Flash.chip c.first_written.new.flash in
    let scan = c.in_ok-at.ensures in
    let stays = scan.stays fresh.honest in
    let found : IsErased old.now = subst (λ (o : Option ℕ). IsScanned old.now o) c.in_default.is (scan.value fresh.honest) in
    let empty = scanned_filled format items known old fresh whole found mid (laws.only_now flash) stays scan.frame.honest in
    let full = g.F.Flash.chip c.fill_bank.new.flash in
    items_leave format items known old fresh whole blank mid (laws.only_now flash) stays full (c.in_err-used.ensures.any_moment old.now empty)

pub returns-in_err-write_slot-clause-any_moment : goal.returns-in_err-write_slot-clause-any_moment
returns-in_err-write_slot-clause-any_moment g c fresh blank =
    let laws = g.met.F.Flash in
    let flash = c.args.flash.now in
    let old = g.F.Flash.chip flash in
    let items = c.args.items.now in
    let format = c.args.format in
    let known = c.requires.known in
    let whole = laws.content flash old.moment old.now fresh.honest (laws.counts_now flash old.moment old.now (omega arith) (laws.reads_image flash fresh.honest)) in
    let mid = g.F.Flash.chip c.first_written.new.flash in
    let scan = c.in_ok-at.ensures in
    let stays = scan.stays fresh.honest in
    let found : IsErased old.now = subst (λ (o : Option ℕ). IsScanned old.now o) c.in_default.is (scan.value fresh.honest) in
    let empty = scanned_filled format items known old fresh whole found mid (laws.only_now flash) stays scan.frame.honest in
    let full = g.F.Flash.chip c.fill_bank.new.flash in
    let fill = c.in_ok-used.ensures in
    let so = fill.filled old.now empty in
    let new = g.F.Flash.chip c.write_slot.new.flash in
    header_leaves format items known old fresh whole blank mid (laws.only_now flash) stays full (fill.any_moment old.now empty) new c.requires.few so
    (subst (λ (h : Slot). LeavesOnly full new (IsSlotWrite 0 (text_of h) full.now)) c.header.ensures (c.in_err-write_slot.ensures.any_moment so.fresh so.header))

pub returns-clause-kept : goal.returns-clause-kept
returns-clause-kept g c fresh =
    let laws = g.met.F.Flash in
    let flash = c.args.flash.now in
    let old = g.F.Flash.chip flash in
    let items = c.args.items.now in
    let format = c.args.format in
    let known = c.requires.known in
    let whole = laws.content flash old.moment old.now fresh.honest (laws.counts_now flash old.moment old.now (omega arith) (laws.reads_image flash fresh.honest)) in
    let mid = g.F.Flash.chip c.first_written.new.flash in
    let scan = c.in_ok-at.ensures in
    let stays = scan.stays fresh.honest in
    let found : IsErased old.now = subst (λ (o : Option ℕ). IsScanned old.now o) c.in_default.is (scan.value fresh.honest) in
    let empty = scanned_filled format items known old fresh whole found mid (laws.only_now flash) stays scan.frame.honest in
    let full = g.F.Flash.chip c.fill_bank.new.flash in
    let fill = c.in_ok-used.ensures in
    let so = fill.filled old.now empty in
    let new = g.F.Flash.chip c.write_slot.new.flash in
    let write : IsWritten 0 (text_of (header_of format 1)) full.now new.now = subst (λ (h : Slot). IsWritten 0 (text_of h) full.now new.now) c.header.ensures (c.in_ok-write_slot.ensures.written so.fresh so.header) in
    subst (λ (n : ℕ). IsJournalOf new (record { bank = 0; used = n; closed = false; generation = 1; version = format })) (sym fill.count)
    (kept format items known old fresh whole found full new c.requires.few so write (c.in_ok-write_slot.ensures.fresh so.fresh))

pub returns-clause-durable : goal.returns-clause-durable
returns-clause-durable g c fresh =
    let laws = g.met.F.Flash in
    let flash = c.args.flash.now in
    let old = g.F.Flash.chip flash in
    let items = c.args.items.now in
    let format = c.args.format in
    let known = c.requires.known in
    let whole = laws.content flash old.moment old.now fresh.honest (laws.counts_now flash old.moment old.now (omega arith) (laws.reads_image flash fresh.honest)) in
    let mid = g.F.Flash.chip c.first_written.new.flash in
    let scan = c.in_ok-at.ensures in
    let stays = scan.stays fresh.honest in
    let found : IsErased old.now = subst (λ (o : Option ℕ). IsScanned old.now o) c.in_default.is (scan.value fresh.honest) in
    let empty = scanned_filled format items known old fresh whole found mid (laws.only_now flash) stays scan.frame.honest in
    let full = g.F.Flash.chip c.fill_bank.new.flash in
    let fill = c.in_ok-used.ensures in
    let so = fill.filled old.now empty in
    let new = g.F.Flash.chip c.write_slot.new.flash in
    let write : IsWritten 0 (text_of (header_of format 1)) full.now new.now = subst (λ (h : Slot). IsWritten 0 (text_of h) full.now new.now) c.header.ensures (c.in_ok-write_slot.ensures.written so.fresh so.header) in
    durable format items known old fresh whole found full new c.requires.few so write

pub returns-clause-any_moment : goal.returns-clause-any_moment
returns-clause-any_moment g c fresh blank =
    let laws = g.met.F.Flash in
    let flash = c.args.flash.now in
    let old = g.F.Flash.chip flash in
    let items = c.args.items.now in
    let format = c.args.format in
    let known = c.requires.known in
    let whole = laws.content flash old.moment old.now fresh.honest (laws.counts_now flash old.moment old.now (omega arith) (laws.reads_image flash fresh.honest)) in
    let mid = g.F.Flash.chip c.first_written.new.flash in
    let scan = c.in_ok-at.ensures in
    let stays = scan.stays fresh.honest in
    let found : IsErased old.now = subst (λ (o : Option ℕ). IsScanned old.now o) c.in_default.is (scan.value fresh.honest) in
    let empty = scanned_filled format items known old fresh whole found mid (laws.only_now flash) stays scan.frame.honest in
    let full = g.F.Flash.chip c.fill_bank.new.flash in
    let fill = c.in_ok-used.ensures in
    let so = fill.filled old.now empty in
    let new = g.F.Flash.chip c.write_slot.new.flash in
    header_leaves format items known old fresh whole blank mid (laws.only_now flash) stays full (fill.any_moment old.now empty) new c.requires.few so
    (subst (λ (h : Slot). LeavesOnly full new (IsSlotWrite 0 (text_of h) full.now)) c.header.ensures (c.in_ok-write_slot.ensures.any_moment so.fresh so.header))
