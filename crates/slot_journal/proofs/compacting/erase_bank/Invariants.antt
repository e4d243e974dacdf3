use Rattle.std.proofs.Common.{◌≡◌}
use Rattle.flash_model.specs.Octets.{IsContent}
use Rattle.flash_model.specs.Arming.{Begins, Erases}
use Rattle.flash_model.specs.Chip.{IsFresh, Keeps, LeavesOnly}
use Rattle.slot_journal.specs.Banks.{IsErasedTo, IsErasing}
use Rattle.slot_journal.proofs.compacting.erase_bank.Given as goal

abbrev pub invariant-loop-k : goal.invariant-loop-k
invariant-loop-k g l = record {
  keeps : Keeps (g.F.Flash.chip l.initial.flash) (g.F.Flash.chip l.flash);
  erased : IsFresh (g.F.Flash.chip l.initial.flash) → IsContent (g.F.Flash.chip l.initial.flash).now → IsErasedTo l.bank l.k (g.F.Flash.chip l.initial.flash).now (g.F.Flash.chip l.flash);
  leaves : IsFresh (g.F.Flash.chip l.initial.flash) → IsContent (g.F.Flash.chip l.initial.flash).now → LeavesOnly (g.F.Flash.chip l.initial.flash) (g.F.Flash.chip l.flash) (IsErasing l.bank (g.F.Flash.chip l.initial.flash).now);
  calls : Begins l.k (g.F.Flash.chip l.initial.flash) (g.F.Flash.chip l.flash);
  erases : Erases l.k (g.F.Flash.chip l.initial.flash) (g.F.Flash.chip l.flash);
  unprogrammed : (g.F.Flash.chip l.flash).octets ≡ (g.F.Flash.chip l.initial.flash).octets;
  reads : (g.F.Flash.chip l.flash).reads ≡ (g.F.Flash.chip l.initial.flash).reads;
  faults : (g.F.Flash.chip l.flash).faults ≡ (g.F.Flash.chip l.initial.flash).faults;
}
