-- Where the counter was behind the entries of a life.
use Rattle.std.proofs.Common.{◌≡◌, ◌∙◌, ℕ, ◌<◌, Bool, true, false, List, [], ◌∷◌, length, refl, ap, arith}
use Rattle.flash_model.specs.Chip.{Chip}
use Rattle.event_definitions.specs.Role.{Role}
use Rattle.mesh_types.specs.declared.events.Event.{Event}
use Rattle.mesh_types.specs.declared.history.Sent.{Sent}
use Rattle.seq_word.specs.Seen.{DrawerView}
use Rattle.store_definitions.specs.Config.{config_of}
use Rattle.locked_node.specs.Node.{NodeView}
use Rattle.locked_node.specs.Stands.{IsNode}
use Rattle.locked_node.proofs.Counting.{counters_long}
use Rattle.mesh_node.specs.Going.{IsOver}
use Rattle.mesh_node.specs.Timed.{IsTimed}

none_long : (words : List ℕ) → length words ≡ 0 → words ≡ []
none_long [] none = refl
none_long (w ∷ words) none = absurd (omega (arith, none))

-- before the first entry it wasn't looked at
pub uncounted : {F : Type 0} (role : Role) (image : List ℕ → Type 0) (chip : F → Chip) (node : NodeView F) → IsNode role image chip node → node.machine.entries ≡ [] → node.counters ≡ []
uncounted role image chip node h none = none_long node.counters (counters_long (config_of h.over).mark node.machine node.counters h.counted ∙ ap length none)

-- what is told of it at the end of a life
pub timed_of : {F : Type 0} (role : Role) (image : List ℕ → Type 0) (chip : F → Chip) (phases : List (List (List Event))) (node : NodeView F) (d : DrawerView) (sends : List (List Sent))
    → (h : IsNode role image chip node) → IsOver phases node d sends → IsTimed node.machine.closed phases (config_of h.over).mark node.machine.entries node.machine.moves sends
timed_of role image chip phases node d sends h over = record {
  counters = node.counters;
  rise = h.counted.rise;
  within = h.counted.within;
  ends = over.ends;
  ordered = over.ordered node.machine.closed (cut_by node.machine.closed refl);
  from = over.timed.from;
  until = over.timed.until;
} where
  cut_by : (b : Bool) → node.machine.closed ≡ b → 0 < node.stops → node.machine.closed ≡ true
  cut_by true is some = is
  cut_by false is some = absurd (let none : node.stops ≡ 0 = h.live is in omega (arith, some, none))
