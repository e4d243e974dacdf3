-- What the store of a node is that was mounted, and why no machine is started where it wasn't.
use Rattle.std.specs.Prelude.{◌≡◌, false, List}
use Rattle.flash_model.specs.Chip.{Chip}
use Rattle.machine_contract.specs.declared.opening.StartFault.{StartFault}
use Rattle.machine_contract.specs.declared.opening.StartFault.TheVariants as S
use Rattle.machine_standing.specs.Ties.{IsNodeStore}
use Rattle.node_store.specs.Tie.{IsStoreOf}
use Rattle.node_store.specs.View.{StoreView}
use Rattle.node_store.specs.declared.mounting.StoreFault.{StoreFault}
use Rattle.node_store.specs.declared.mounting.StoreFault.TheVariants as F
use Rattle.record_types.specs.declared.records.StoreRecord.{StoreRecord}
use Rattle.store_definitions.specs.Config.{config_of}
use Rattle.store_definitions.specs.Recovered.{IsRecovered}

-- Of a flash each image of which recovers a node or a reset a store is refused where the flash fails, or for the reset.
abbrev pub start_fault_of : StoreFault → StartFault
start_fault_of F.Flash = S.Flash
start_fault_of _ = S.WasReset

-- The store that was mounted has the records that were read, which say a node that can be run, and it takes records.
pub record IsNodeMounted (old new : Chip) (store : StoreView) : Type 0 where
  pub over : List StoreRecord
  pub read : IsRecovered old.now over
  pub runs : (config_of over).reset ≡ false
  pub kept : IsStoreOf new store over
  pub node : IsNodeStore over store.persist
  pub usable : store.journal.closed ≡ false
