-- Which refusal of a reserve stands for one of its store. A Numbers record adds to no table, so a store never answers it Limit.
use Rattle.node_store.specs.declared.store.PutFault.{PutFault}
use Rattle.node_store.specs.declared.store.PutFault.TheVariants as P
use Rattle.seq_reserve.specs.declared.keep_fault.KeepFault.{KeepFault}
use Rattle.seq_reserve.specs.declared.keep_fault.KeepFault.TheVariants as K

abbrev pub keep_fault_of : PutFault → KeepFault
keep_fault_of P.Closed = K.Closed
keep_fault_of (P.Limit held) = K.Flash
keep_fault_of P.Flash = K.Flash
