-- Which refusal of a message stands for one of its store, whose limit is the replay list.
use Rattle.node_store.specs.declared.store.PutFault.{PutFault}
use Rattle.node_store.specs.declared.store.PutFault.TheVariants as P
use Rattle.rpl_journal.specs.declared.accepting.AcceptFault.{AcceptFault}
use Rattle.rpl_journal.specs.declared.accepting.AcceptFault.TheVariants as A

abbrev pub accept_fault_of : PutFault → AcceptFault
accept_fault_of P.Closed = A.Closed
accept_fault_of (P.Limit held) = A.ListFull held
accept_fault_of P.Flash = A.Flash
