-- Several events handled in one turn at the lock.
use Rattle.std.specs.Prelude.{ℕ, ◌+◌, ◌<◌, List, ◌++◌, length, map, drop, slice_index_or}
use Rattle.mesh_types.specs.declared.events.Event.{Event}
use Rattle.run_definitions.specs.Order.{Task, handle, write_tasks}
use Rattle.turn_lock.specs.Entries.{added}
use Rattle.locked_node.specs.Node.{NodeView, node_marks}
use Rattle.node_bearer.specs.Did.{BearerOf}
use Rattle.node_bearer.specs.declared.bearer.Acted.{Acted}

-- the reader and the reading of each event's place go with it
abbrev pub AreRead : {R G : Type 0} → (R → G → Event → Type 0) → R → List G → List Event → Type 0
AreRead fits reader readings events =
    (i : ℕ) (r : _) (e : Event) → i < length events → fits reader (slice_index_or readings i r) (slice_index_or events i e)

-- the bearer with the node in hand, as it is if it hands it back: what was added there is its own
abbrev pub after_turn : {F : Type 0} → BearerOf F → NodeView F → BearerOf F
after_turn b node = record b {
  pass = record b.pass { own = b.pass.own ++ added b.pass.seen (node_marks node); seen = node_marks node };
}

-- What is left behind a turn: the jobs of the last event that was handled in it, then the events behind that one, then the rest. `e` stands
-- for an event that isn't there.
abbrev pub left_of : Acted → Event → List Event → List Task → List Task
left_of a e events rest =
    write_tasks a.answered.at 0 (slice_index_or events a.last e) a.answered.jobs
    ++ (map handle (drop (a.last + 1) events) ++ rest)
