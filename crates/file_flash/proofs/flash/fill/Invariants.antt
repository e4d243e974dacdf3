use Rattle.std.proofs.Common.{◌≡◌, ◌*◌, take}
use Rattle.std.specs.Prelude.{IsTrue}
use Rattle.flash_model.specs.Chip.{IsFresh}
use Rattle.flash_model.specs.Octets.{programmed}
use Rattle.file_flash.proofs.flash.fill.Given as goal

abbrev pub invariant-loop-sector : goal.invariant-loop-sector
invariant-loop-sector g l = record {
  now : (g.F.Flash.chip l.flash).now ≡ programmed 0 (take (4096 * l.sector) l.image) (g.F.Flash.chip l.initial.flash).now;
  fresh : IsFresh (g.F.Flash.chip l.flash);
  sure : IsTrue (g.F.Flash.chip l.flash).sure;
  steady : IsTrue (g.F.Flash.chip l.flash).steady;
  setting : (g.F.Flash.chip l.flash).setting ≡ (g.F.Flash.chip l.initial.flash).setting;
}
