use Rattle.std.proofs.Common.{◌≡◌, ◌+◌, ◌*◌, ◌≤◌, List, ◌++◌, false}
use Rattle.std.specs.Prelude.{length, take, drop, fold}
use Rattle.node_limits.specs.declared.TheConstants.{PUT_CALLS}
use Rattle.flash_model.specs.Arming.{BeginsAtMost}
use Rattle.flash_model.specs.Chip.{Keeps, count_of}
use Rattle.record_types.specs.declared.records.StoreRecord.{StoreRecord}
use Rattle.node_records.specs.Meaning.{IsMeaningOf}
use Rattle.node_records.specs.Tables.{config_in}
use Rattle.store_definitions.specs.Config.{changed}
use Rattle.store_definitions.specs.Wear.{CostsAndUses}
use Rattle.node_store.specs.Several.{CostsEach, MayPut}
use Rattle.node_store.specs.Tie.{IsStoreOf}
use Rattle.node_store.proofs.Fronts.{Fronts, HasPut}
use Rattle.node_store.proofs.store.Store.put_all.Given as goal

abbrev pub invariant-loop-item : goal.invariant-loop-item
invariant-loop-item g l = record {
  keeps : Keeps (g.F.Flash.chip l.initial.flash) (g.F.Flash.chip l.flash);
  usable : l.self.journal.closed ≡ false;
  may : MayPut l.self.persist (drop l.item-index l.items);
  config : config_in l.self.persist ≡ fold changed (config_in l.initial.self.persist) (take l.item-index l.items);
  value : (records : List StoreRecord) → IsMeaningOf records l.initial.self.persist → IsMeaningOf (records ++ take l.item-index l.items) l.self.persist;
  fronts : (records : List StoreRecord) → IsStoreOf (g.F.Flash.chip l.initial.flash) l.initial.self records → Fronts (g.F.Flash.chip l.initial.flash) l.initial.self records l.items l.item-index (g.F.Flash.chip l.flash) l.self;
  calls : l.initial.self.journal.used + length l.items ≤ 1023 → HasPut l.item-index (g.F.Flash.chip l.initial.flash) (g.F.Flash.chip l.flash) l.initial.self l.self;
  each : CostsEach (take l.item-index l.items) (g.F.Flash.chip l.initial.flash) (g.F.Flash.chip l.flash) l.initial.self l.self;
  spent : BeginsAtMost (PUT_CALLS * l.item-index) (g.F.Flash.chip l.initial.flash) (g.F.Flash.chip l.flash);
  wear : CostsAndUses l.initial.self.journal.used l.item-index (count_of (g.F.Flash.chip l.initial.flash)) (count_of (g.F.Flash.chip l.flash)) l.self.journal.used;
  reads : (g.F.Flash.chip l.flash).reads ≡ (g.F.Flash.chip l.initial.flash).reads;
  faults : (g.F.Flash.chip l.flash).faults ≡ (g.F.Flash.chip l.initial.flash).faults;
}
