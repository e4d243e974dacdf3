use Rattle.std.specs.Prelude.{IsTrue}
use Rattle.flash_model.specs.Chip.{Keeps, Stays}
use Rattle.slot_journal.specs.Tie.{IsUsedBelow}
use Rattle.std.proofs.Common.{◌≡◌, ◌+◌, ◌<◌, ◌≤◌}
use Rattle.slot_journal.proofs.mounting.count_used.Given as goal

abbrev pub invariant-loop-n : goal.invariant-loop-n
invariant-loop-n g l = record {
  keeps : Keeps (g.F.Flash.chip l.initial.flash) (g.F.Flash.chip l.flash);
  stays : IsTrue (g.F.Flash.chip l.initial.flash).honest → Stays (g.F.Flash.chip l.initial.flash) (g.F.Flash.chip l.flash);
  calls : (g.F.Flash.chip l.flash).changes ≡ (g.F.Flash.chip l.initial.flash).changes;
  unerased : (g.F.Flash.chip l.flash).erases ≡ (g.F.Flash.chip l.initial.flash).erases;
  unprogrammed : (g.F.Flash.chip l.flash).octets ≡ (g.F.Flash.chip l.initial.flash).octets;
  most_reads : (g.F.Flash.chip l.flash).reads + 1 ≤ (g.F.Flash.chip l.initial.flash).reads + l.n;
  faults : (g.F.Flash.chip l.flash).faults ≡ (g.F.Flash.chip l.initial.flash).faults;
  few : l.used < l.n;
  below : IsTrue (g.F.Flash.chip l.initial.flash).honest → IsUsedBelow (g.F.Flash.chip l.initial.flash).now l.bank l.n l.used;
}
