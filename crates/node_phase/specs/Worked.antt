-- What bearers did in a phase.
use Rattle.std.specs.Prelude.{◌≡◌, ℕ, ◌<◌, List, [], ◌∷◌, ◌++◌, map, length, All, Bool, Some, None, slice_index_or}
use Rattle.std.specs.List.{filter, flat_map}
use Rattle.mesh_types.specs.declared.events.Event.{Event}
use Rattle.machine_contract.specs.declared.answers.Stop.{Stop}
use Rattle.report_definitions.specs.Record.{list_at}
use Rattle.run_definitions.specs.Order.{handle}
use Rattle.seq_word.specs.Seen.{DrawerView}
use Rattle.seq_word.specs.declared.looks.Look.{Look}
use Rattle.turn_lock.specs.Entries.{Holds, IsPrefix, KeptOf, added}
use Rattle.locked_node.specs.declared.marks.Mark.{Mark}
use Rattle.locked_node.specs.Node.{NodeView, OnStop, node_marks}
use Rattle.node_bearer.specs.Did.{BearerOf, Broke, DidBy}
use Rattle.node_phase.specs.declared.bearers.Done.{Done}

-- a bearer that has done nothing yet in this phase
pub record IsFresh {F : Type 0} (b : BearerOf F) : Type 0 where
  pub own : b.pass.own ≡ []
  pub lines : b.lines.items ≡ []
  pub drawn : b.drawer.drawn ≡ []
  pub looks : b.drawer.looks ≡ []
  pub owes : b.drawer.owes ≡ 0

-- bearer k, as it was before the phase and as it is behind it: it did all that it had, or stopped
pub record Worked {F : Type 0} (k : ℕ) (events : List Event) (old new : BearerOf F) : Type 0 where
  pub seen : IsPrefix old.pass.seen new.pass.seen
  pub noted : new.drawer.noted ≡ old.drawer.noted
  pub known : new.drawer.known ≡ old.drawer.known
  pub parts : new.drawer.parts ≡ old.drawer.parts
  -- it has drawn behind each mark that was raised for it
  pub owes : new.drawer.owes ≡ 0
  pub did : new.stop ≡ None → DidBy k old.number (map handle events) [] new
  pub broke : (e : Stop) → new.stop ≡ Some e → OnStop e (Broke k old.number (map handle events) new)

abbrev pub own_of : {F : Type 0} → BearerOf F → List (ℕ × Mark)
own_of b = b.pass.own

abbrev pub drawn_by : {F : Type 0} → BearerOf F → List ℕ
drawn_by b = b.drawer.drawn

abbrev pub looks_by : {F : Type 0} → BearerOf F → List Look
looks_by b = b.drawer.looks

abbrev pub parts_by : {F : Type 0} → BearerOf F → ℕ
parts_by b = b.drawer.parts

-- what is left of a bearer
abbrev pub done_of : {F : Type 0} → BearerOf F → Done
done_of b = record { lines = b.lines; number = b.number; stop = b.stop }

-- A phase between a node and the node, with the seat that took in all that was drawn: what each bearer had, and what it did.
pub record WasPhase {F : Type 0} (old new : NodeView F) (d e : DrawerView) (events : List (List Event))
    (counts : List ℕ) (dones : List Done) : Type 0 where
  pub before : List (BearerOf F)
  pub bearers : List (BearerOf F)
  pub long : length bearers ≡ length before
  pub numbers : map (λ b. b.number) before ≡ counts
  pub noted : All (λ b. b.drawer.noted ≡ d.noted ++ d.drawn) before
  pub known : All (λ b. b.drawer.known ≡ d.known ++ d.looks) before
  pub worked : (k : ℕ) (b : BearerOf F) → k < length before
      → Worked k (list_at events k) (slice_index_or before k b) (slice_index_or bearers k b)
  pub drawn : e.drawn ≡ d.drawn ++ flat_map drawn_by bearers
  pub looks : e.looks ≡ d.looks ++ flat_map looks_by bearers
  pub same : e.noted ≡ d.noted ++ flat_map (λ b. b.drawer.noted) bearers
  -- all seats were taken in again, where there was a part for each
  pub parts : length before < d.parts → e.parts ≡ d.parts
  -- none of them owes a draw
  pub free : d.owes ≡ 0 → e.owes ≡ 0
  pub front : IsPrefix (node_marks old) (node_marks new)
  pub kept : (keep : ℕ × Mark → Bool) (ys : List (ℕ × Mark)) → KeptOf keep ([] ∷ map own_of bearers) ys
      → filter keep (added (node_marks old) (node_marks new)) ≡ ys
  pub seen : All (λ b. IsPrefix b.pass.seen (node_marks new)) bearers
  pub holds : All (λ b. Holds b.pass.own (added (node_marks old) (node_marks new))) bearers
  pub left : dones ≡ map done_of bearers
