-- Which refusal of a store stands for one of its journal.
use Rattle.slot_journal.specs.declared.mounting.NoMount.{NoMount}
use Rattle.slot_journal.specs.declared.mounting.NoMount.TheVariants as N
use Rattle.node_store.specs.declared.mounting.StoreFault.{StoreFault}
use Rattle.node_store.specs.declared.mounting.StoreFault.TheVariants as S

abbrev pub store_fault_of : NoMount → StoreFault
store_fault_of N.Flash = S.Flash
store_fault_of N.NoBank = S.NoNode
