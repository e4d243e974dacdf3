-- A life of one bearer that its owner holds between its phases.
use Rattle.std.specs.Prelude.{◌≡◌, ℕ, Bool, true, false, List, [], ◌∷◌, ◌++◌, length, map}
use Rattle.flash_model.specs.Chip.{Chip}
use Rattle.mesh_types.specs.declared.events.Event.{Event}
use Rattle.record_types.specs.declared.records.StoreRecord.{StoreRecord}
use Rattle.event_definitions.specs.Role.{Role}
use Rattle.seq_word.specs.Seen.{DrawerView, NumbersView}
use Rattle.store_definitions.specs.Config.{config_of}
use Rattle.store_definitions.specs.Recovered.{IsRecovered}
use Rattle.locked_node.specs.Node.{NodeView}
use Rattle.locked_node.specs.Stands.{IsNode}
use Rattle.life_laws.specs.Phases.{PhasesDone}
use Rattle.mesh_node.specs.Going.{AreTold, IsGoing, IsOver}
use Rattle.mesh_node.specs.declared.told.LastStep.{LastStep}
use Rattle.mesh_node.specs.declared.told.LastStep.TheVariants as L
use Rattle.mesh_node.specs.Told.{ArePlaced, AreToldEach, PhaseDid, SinkSteps, SourceSteps, entries_told, part_told, sends_told}

-- The source of such a life is the list of the phases that its owner gave it: each comes behind those of before.
abbrev pub given_phases : SourceSteps (List (List (List Event)))
given_phases = record {
  gives = λ bearers elements due old events new. new ≡ old ++ events ∷ [];
  ends = λ old new. new ≡ old;
  fails = λ bearers elements due old new. ⊥;
}

-- Its sink is the list of what its owner was told of each.
abbrev pub told_phases : SinkSteps (List PhaseDid)
told_phases = record { takes = λ old did new. new ≡ old ++ did ∷ []; fails = λ old did new. ⊥ }

-- Why it took no phase more: the flash failed, or its owner had none.
abbrev pub last_held : Bool → LastStep
last_held true = L.Cut
last_held false = L.Ended

-- A life that is held, as contracts see it: its node, the counter and the mark, what its bearer drew of them, and the number of its last entry.
pub record HeldView (F : Type 0) : Type 0 where
  pub node : NodeView F
  pub numbers : NumbersView
  pub drawer : DrawerView
  pub counts : List ℕ

-- These phases were given to the life, one after another, and this was told of each. It opened over what the flash recovered at its beginning.
pub record HasLived {F : Type 0} (role : Role) (image : List ℕ → Type 0) (chip : F → Chip) (life : HeldView F)
    (phases : List (List (List Event))) (did : List PhaseDid) : Type 0 where
  pub over : List StoreRecord
  pub read : IsRecovered (chip life.node.start).now over
  pub runs : (config_of over).reset ≡ false
  pub opened : life.numbers.opened ≡ (config_of over).mark
  -- its entries were handled in order, and whatever an image of the flash recovers now is what they left
  pub known : IsNode role image chip life.node
  -- they are those that were told
  pub told : AreTold (entries_told did) life.node
  pub placed : ArePlaced 0 did
  -- As many phases were told as came, and of each what was done in it: all; in the last one, where the flash failed, as far as the bearer came
  -- without the machine.
  pub each : AreToldEach life.node.machine.closed phases did
  pub many : length (sends_told 1 did) ≡ 1
  pub ordered : IsOver phases life.node life.drawer (sends_told 1 did)
  pub going : life.node.machine.closed ≡ false → IsGoing phases life.node life.drawer (sends_told 1 did) life.counts
  pub through : life.node.machine.closed ≡ false → PhasesDone phases (map part_told did)
