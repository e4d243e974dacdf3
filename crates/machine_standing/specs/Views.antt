-- A machine as its own clauses see it, whatever it keeps in memory, and what it shows of itself.
use Rattle.std.specs.Prelude.{ℕ, Bool, List}
use Rattle.machine_contract.specs.View.{MachineView}
use Rattle.machine_contract.specs.declared.answers.Hand.{Hand}
use Rattle.mesh_types.specs.declared.history.Entry.{Entry}
use Rattle.seq_reserve.specs.declared.reserve.Reserve.{Reserve}

pub record LifeMachine (Memory : Type 0) : Type 0 where
  -- the store with the seat that moves the mark
  pub reserve : Reserve
  -- what it keeps in memory
  pub tables : Memory
  -- the history of this life, behind each of its entries the word that the counter had been moved to last (0 where it hadn't been), how many of them
  -- were taken, and the number of refills that were stored since the last entry
  pub entries : List Entry
  pub moves : List ℕ
  pub taken : ℕ
  pub fills : ℕ
  -- a call on the flash failed, and what was in hand then
  pub closed : Bool
  pub hand : Hand
  -- the elements of the node
  pub elements : ℕ

abbrev pub shown_of : {Memory : Type 0} → LifeMachine Memory → MachineView
shown_of m = record {
  entries = m.entries;
  moves = m.moves;
  taken = m.taken;
  fills = m.fills;
  closed = m.closed;
  hand = m.hand;
  which = m.reserve.keeper.which;
  mark = m.reserve.keeper.mark;
  elements = m.elements;
}
