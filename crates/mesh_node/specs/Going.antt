-- A life as far as it is.
use Rattle.std.specs.Prelude.{◌≡◌, ℕ, ◌+◌, ◌<◌, ◌≤◌, Bool, true, List, drop, length, map, Some}
use Rattle.std.specs.List.{range_with_len}
use Rattle.mesh_types.specs.declared.events.Event.{Event}
use Rattle.mesh_types.specs.declared.history.Entry.{Entry}
use Rattle.mesh_types.specs.declared.history.Sent.{Sent}
use Rattle.run_definitions.specs.Order.{is_outside}
use Rattle.seq_word.specs.Seen.{DrawerView}
use Rattle.locked_node.specs.Node.{NodeView, event_in}
use Rattle.life_laws.specs.Hands.{AreHandledAll, IsInHand, IsNextIn}
use Rattle.life_laws.specs.Pairs.{AreTimed, PairsSo}
use Rattle.node_limits.specs.declared.TheConstants.{BEARERS}
use Rattle.node_phase.specs.declared.bearers.Done.{Done}
use Rattle.node_phase.specs.Part.{lines_of}
use Rattle.mesh_node.specs.declared.phases.Seats.{Seats}
use Rattle.mesh_node.specs.declared.told.PhaseLog.{PhaseLog}
use Rattle.life_laws.specs.Phases.{AreDone, AreOrdered, entries_by}

-- These phases are through, and no bearer stopped.
pub record IsGoing {F : Type 0} (phases : List (List (List Event))) (node : NodeView F) (d : DrawerView)
    (sends : List (List Sent)) (counts : List ℕ) : Type 0 where
  pub ends : List ℕ
  pub done : AreDone phases node.machine.entries sends counts ends
  pub pairs : PairsSo node.machine.entries node.machine.moves sends d
  pub timed : AreTimed node.machine.entries node.counters ends sends
  pub handled : AreHandledAll phases node.machine.entries
  pub live : node.stops ≡ 0
  pub many : length sends ≡ length counts

-- All that was done of these phases: all of it where no bearer stopped.
pub record IsOver {F : Type 0} (phases : List (List (List Event))) (node : NodeView F) (d : DrawerView)
    (sends : List (List Sent)) : Type 0 where
  pub ends : List ℕ
  pub ordered : (is_cut : Bool) → (0 < node.stops → is_cut ≡ true) → AreOrdered is_cut phases node.machine.entries sends ends
  pub numbers : (k : ℕ)
      → map (λ e. e.number) (entries_by k node.machine.entries)
      ≡ range_with_len 1 (length (entries_by k node.machine.entries))
  pub pairs : PairsSo node.machine.entries node.machine.moves sends d
  pub timed : AreTimed node.machine.entries node.counters ends sends
  pub next : 0 < node.stops → (event : Event) → event_in node.machine.hand ≡ Some event → is_outside event ≡ true
      → IsNextIn phases node.machine.entries event
  -- what its bearer left begins with it, so no line of an event before it is left
  pub hand : 0 < node.stops → (event : Event) → event_in node.machine.hand ≡ Some event → is_outside event ≡ true
      → IsInHand phases node.machine.entries sends event

-- All entries of the node were taken, and these are they.
pub record AreTold {F : Type 0} (entries : List Entry) (node : NodeView F) : Type 0 where
  pub entries_are : node.machine.entries ≡ entries
  pub taken : node.machine.taken ≡ length node.machine.entries

-- A node and the seats of its bearers between two phases of a life that isn't over, where all entries were taken.
pub record IsBetween {F M Reader Reading : Type 0} (seats : Seats M Reader Reading) (node : NodeView F) : Type 0 where
  pub made : node.machine.which ≡ seats.numbers.which
  pub draws : seats.drawer.which ≡ seats.numbers.which
  -- all seats that were split off were taken in again
  pub parts : seats.drawer.parts ≡ 1024
  -- and none of them owes a draw behind a mark that was raised for it
  pub free : seats.drawer.owes ≡ 0
  pub few : length seats.counts.items ≤ BEARERS
  pub live : node.stops ≡ 0
  pub taken : node.machine.taken ≡ length node.machine.entries
  pub count : seats.entries ≡ length node.machine.entries

-- What is told behind a phase: the entries that weren't taken, and what its bearers left. The seats go on from there.
pub record IsLogged {F M Reader Reading : Type 0} (node : NodeView F) (before now : Seats M Reader Reading) (dones : List Done)
    (log : PhaseLog) : Type 0 where
  pub first : log.first ≡ before.entries
  pub entries : log.entries.items ≡ drop node.machine.taken node.machine.entries
  pub sends : map (λ v. v.items) log.sends.items ≡ map lines_of dones
  pub counts : now.counts.items ≡ map (λ x. x.number) dones
  pub count : now.entries ≡ before.entries + length log.entries.items
