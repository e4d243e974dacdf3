-- The events from this one on are left, and there is one.
use Rattle.std.proofs.Common.{◌≡◌, ℕ, ◌<◌, List, ◌++◌, drop, length, map}
use Rattle.run_definitions.specs.Order.{Task, handle}
use Rattle.turn_lock.specs.Entries.{IsPrefix}
use Rattle.locked_node.specs.Node.{node_marks, origin_of}
use Rattle.node_bearer.specs.Did.{DidBy}
use Rattle.node_bearer.specs.Turns.{after_turn}
use Rattle.node_bearer.proofs.Turning.{numbered}
use Rattle.node_bearer.proofs.acting.handle_all.Given as goal

abbrev pub invariant-loop-i : goal.invariant-loop-i
invariant-loop-i g l = record {
  more : l.i < length l.events;
  origin : origin_of g.F.Flash.chip l.node ≡ origin_of g.F.Flash.chip l.initial.node;
  front : IsPrefix (node_marks l.initial.node) (node_marks l.node);
  frame : l.b ≡ numbered l.initial.b l.b.number l.b.drawer.informed;
  told : IsPrefix l.initial.b.drawer.informed l.b.drawer.informed;
  did : (first : ℕ) (tasks rest : List Task) → DidBy l.place.bearer first tasks (map handle l.events ++ rest) (after_turn l.initial.b l.initial.node)
      → DidBy l.place.bearer first tasks (map handle (drop l.i l.events) ++ rest) (after_turn l.b l.node);
}
