use Rattle.std.proofs.Common.{◌≡◌, ◌≤◌, ◌-◌, ℕ, ◌*◌, List, length}
use Rattle.flash_model.specs.Arming.{Begins, Programs}
use Rattle.flash_model.specs.Chip.{Keeps, LeavesOnly}
use Rattle.slot_journal.specs.Banks.{IsBankBare, IsBankFilled}
use Rattle.slot_journal.proofs.filling.fill_bank.Given as goal

abbrev pub invariant-loop-slot : goal.invariant-loop-slot
invariant-loop-slot g l = record {
  within : l.count ≤ length (g.S.Items.slots l.items);
  keeps : Keeps (g.F.Flash.chip l.initial.flash) (g.F.Flash.chip l.flash);
  filled : (base : List ℕ) → IsBankFilled l.bank (g.S.Items.slots l.items) 0 base (g.F.Flash.chip l.initial.flash) → IsBankFilled l.bank (g.S.Items.slots l.items) l.count base (g.F.Flash.chip l.flash);
  leaves : (base : List ℕ) → IsBankFilled l.bank (g.S.Items.slots l.items) 0 base (g.F.Flash.chip l.initial.flash) → LeavesOnly (g.F.Flash.chip l.initial.flash) (g.F.Flash.chip l.flash) (IsBankBare l.bank base);
  calls : Begins (2 * l.count) (g.F.Flash.chip l.initial.flash) (g.F.Flash.chip l.flash);
  unerased : (g.F.Flash.chip l.flash).erases ≡ (g.F.Flash.chip l.initial.flash).erases;
  octets : Programs (32 * l.count) (g.F.Flash.chip l.initial.flash) (g.F.Flash.chip l.flash);
  reads : (g.F.Flash.chip l.flash).reads ≡ (g.F.Flash.chip l.initial.flash).reads;
  faults : (g.F.Flash.chip l.flash).faults ≡ (g.F.Flash.chip l.initial.flash).faults;
}

abbrev pub decreases-loop-slot : goal.decreases-loop-slot
decreases-loop-slot g l = length (g.S.Items.slots l.items) - l.count
