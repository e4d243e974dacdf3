use Rattle.std.proofs.Common.{◌≡◌, ℕ, ◌*◌, ◌<◌}
use Rattle.std.specs.Prelude.{IsTrue, slice_index}
use Rattle.flash_model.specs.Chip.{Keeps, Stays}
use Rattle.slot_journal.proofs.formatting.first_written.Given as goal

abbrev pub invariant-loop-n : goal.invariant-loop-n
invariant-loop-n g l = record {
  keeps : Keeps (g.F.Flash.chip l.initial.flash) (g.F.Flash.chip l.flash);
  stays : IsTrue (g.F.Flash.chip l.initial.flash).honest → Stays (g.F.Flash.chip l.initial.flash) (g.F.Flash.chip l.flash);
  calls : (g.F.Flash.chip l.flash).changes ≡ (g.F.Flash.chip l.initial.flash).changes;
  unerased : (g.F.Flash.chip l.flash).erases ≡ (g.F.Flash.chip l.initial.flash).erases;
  unprogrammed : (g.F.Flash.chip l.flash).octets ≡ (g.F.Flash.chip l.initial.flash).octets;
  faults : (g.F.Flash.chip l.flash).faults ≡ (g.F.Flash.chip l.initial.flash).faults;
  erased : IsTrue (g.F.Flash.chip l.initial.flash).honest → (o : ℕ) → o < 32 * l.n → slice_index (g.F.Flash.chip l.initial.flash).now o ≡ 255;
}
