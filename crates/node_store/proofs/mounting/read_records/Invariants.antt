use Rattle.std.specs.Prelude.{◌≡◌, IsTrue}
use Rattle.flash_model.specs.Arming.{ReadsAtMost}
use Rattle.flash_model.specs.Chip.{Keeps, Stays}
use Rattle.node_records.specs.Meaning.{IsSaid}
use Rattle.node_store.specs.Mounted.{AreSaid}
use Rattle.node_store.proofs.mounting.read_records.Given as goal

abbrev pub invariant-loop-k : goal.invariant-loop-k
invariant-loop-k g l = record {
  keeps : Keeps (g.F.Flash.chip l.initial.flash) (g.F.Flash.chip l.flash);
  stays : IsTrue (g.F.Flash.chip l.initial.flash).honest → Stays (g.F.Flash.chip l.initial.flash) (g.F.Flash.chip l.flash);
  read : IsTrue (g.F.Flash.chip l.initial.flash).honest → AreSaid (g.F.Flash.chip l.initial.flash).now l.journal.bank l.journal.version l.k l.persist;
  said : IsSaid l.persist;
  calls : (g.F.Flash.chip l.flash).changes ≡ (g.F.Flash.chip l.initial.flash).changes;
  unerased : (g.F.Flash.chip l.flash).erases ≡ (g.F.Flash.chip l.initial.flash).erases;
  unprogrammed : (g.F.Flash.chip l.flash).octets ≡ (g.F.Flash.chip l.initial.flash).octets;
  reads : ReadsAtMost l.k (g.F.Flash.chip l.initial.flash) (g.F.Flash.chip l.flash);
  faults : (g.F.Flash.chip l.flash).faults ≡ (g.F.Flash.chip l.initial.flash).faults;
}
