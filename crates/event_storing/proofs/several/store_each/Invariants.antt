use Rattle.std.proofs.Common.{◌≡◌, ◌+◌, ◌≤◌, List, ◌++◌, false}
use Rattle.std.specs.Prelude.{length, take, drop, fold}
use Rattle.event_records.specs.Putting.{AreMoves, ArePuttable}
use Rattle.event_storing.specs.Storing.{HasRisen, advances_of, moved_to}
use Rattle.flash_model.specs.Chip.{Keeps, count_of}
use Rattle.record_types.specs.declared.records.StoreRecord.{StoreRecord}
use Rattle.node_records.specs.Meaning.{IsMeaningOf, IsSaid}
use Rattle.node_records.specs.Tables.{config_in}
use Rattle.node_store.specs.Several.{CostsEach}
use Rattle.node_store.specs.Tie.{IsStoreOf}
use Rattle.node_store.proofs.Fronts.{Fronts, HasPut}
use Rattle.seq_reserve.specs.Reserving.{IsDurable, IsPublished}
use Rattle.store_definitions.specs.Config.{changed}
use Rattle.store_definitions.specs.Wear.{CostsAndUses}
use Rattle.event_storing.proofs.several.store_each.Given as goal

abbrev pub invariant-loop-item : goal.invariant-loop-item
invariant-loop-item g l = record {
  keeps : Keeps (g.F.Flash.chip l.initial.flash) (g.F.Flash.chip l.flash);
  usable : l.reserve.store.journal.closed ≡ false;
  published : IsPublished l.reserve.store l.reserve.keeper;
  made : l.reserve.keeper.which ≡ l.initial.reserve.keeper.which;
  said : IsSaid l.reserve.store.persist;
  may : ArePuttable l.reserve.store.persist (drop l.item-index l.items);
  moves : AreMoves (config_in l.reserve.store.persist) (drop l.item-index l.items);
  config : config_in l.reserve.store.persist ≡ fold changed (config_in l.initial.reserve.store.persist) (take l.item-index l.items);
  value : (records : List StoreRecord) → IsMeaningOf records l.initial.reserve.store.persist → IsMeaningOf (records ++ take l.item-index l.items) l.reserve.store.persist;
  advanced : moved_to l.reserve.keeper ≡ moved_to l.initial.reserve.keeper ++ advances_of (config_in l.initial.reserve.store.persist) (take l.item-index l.items);
  risen : HasRisen l.initial.reserve.keeper l.reserve.keeper;
  fronts : (records : List StoreRecord) → IsStoreOf (g.F.Flash.chip l.initial.flash) l.initial.reserve.store records → Fronts (g.F.Flash.chip l.initial.flash) l.initial.reserve.store records l.items l.item-index (g.F.Flash.chip l.flash) l.reserve.store;
  durable : (records : List StoreRecord) → IsStoreOf (g.F.Flash.chip l.initial.flash) l.initial.reserve.store records → IsDurable (g.F.Flash.chip l.flash) l.reserve.keeper.mark;
  calls : l.initial.reserve.store.journal.used + length l.items ≤ 1023 → HasPut l.item-index (g.F.Flash.chip l.initial.flash) (g.F.Flash.chip l.flash) l.initial.reserve.store l.reserve.store;
  each : CostsEach (take l.item-index l.items) (g.F.Flash.chip l.initial.flash) (g.F.Flash.chip l.flash) l.initial.reserve.store l.reserve.store;
  wear : CostsAndUses l.initial.reserve.store.journal.used l.item-index (count_of (g.F.Flash.chip l.initial.flash)) (count_of (g.F.Flash.chip l.flash)) l.reserve.store.journal.used;
  reads : (g.F.Flash.chip l.flash).reads ≡ (g.F.Flash.chip l.initial.flash).reads;
  faults : (g.F.Flash.chip l.flash).faults ≡ (g.F.Flash.chip l.initial.flash).faults;
}
