-- The steps of the world that an event takes: those of its records, in their order, and then an accepted message is delivered.
use Rattle.std.specs.Prelude.{◌≡◌, ℕ, nat_lt, if◌then◌else◌, List, [], ◌∷◌, ◌++◌, map}
use Rattle.std.specs.Option.{option_to_list}
use Rattle.mesh_base.specs.IvState.{transmit_of}
use Rattle.mesh_base.specs.declared.iv_state.IvState.{IvState}
use Rattle.mesh_types.specs.declared.answers.Answer.{Answer}
use Rattle.mesh_types.specs.declared.events.Event.{Event}
use Rattle.mesh_world.specs.World.{World, WorldStep}
use Rattle.mesh_world.specs.World.WorldStep.{Accept, Advance, Deliver, Publish, Reserve}
use Rattle.node_layers.specs.NodeLayers.{node_layers}
use Rattle.node_records.specs.Meaning.{IsMeaningOf}
use Rattle.node_records.specs.Tables.{config_in}
use Rattle.node_records.specs.declared.persist.Persist.{Persist}
use Rattle.record_types.specs.declared.records.StoreRecord.{StoreRecord}
use Rattle.record_types.specs.declared.records.StoreRecord.TheVariants as R
use Rattle.event_definitions.specs.Answers.{accepted, answer_of}
use Rattle.event_definitions.specs.History.{Insight, Past}
use Rattle.event_definitions.specs.Readings.{Sees}
use Rattle.event_definitions.specs.Stores.{stores}
use Rattle.store_definitions.specs.Config.{Config, changed}
use Rattle.store_world.specs.Standing.{GoesBy}

-- The steps of a record of this IV state and mark: it is durable; where the IV Index to send with rises, its mark is published, and the
-- counter goes on under the new one.
abbrev pub numbers_steps : Config → IvState → ℕ → List WorldStep
numbers_steps c to mark =
    if nat_lt (transmit_of c.iv) (transmit_of to)
    then Reserve to.current mark ∷ Publish mark ∷ Advance (transmit_of to) ∷ []
    else Reserve to.current mark ∷ []

-- The steps of a record that becomes durable over what those before it say. A record of numbers is a move, and one of a name that was
-- accepted is an Accept; what else a store keeps is no part of the world.
abbrev pub record_steps : Config → StoreRecord → List WorldStep
record_steps c (R.Numbers current progress mark hours since) =
    numbers_steps c (record { current = current; progress = progress; hours = hours; since = since }) mark
record_steps c (R.Replay first second) = Accept first ∷ []
record_steps c _ = []

abbrev pub records_steps : Config → List StoreRecord → List WorldStep
records_steps c [] = []
records_steps c (item ∷ items) = record_steps c item ++ records_steps (changed c item) items

-- the steps of an event that stores these records, and is answered so
abbrev pub event_steps : Config → List StoreRecord → Answer → List WorldStep
event_steps c items answer = records_steps c items ++ map Deliver (option_to_list (accepted answer))

-- From what the records of a past say, an event that is answered so leads to a store that says this: by the records that the definitions of
-- a run have it store, each a step of the world where it stands, and the message that it accepts, if it accepts one.
pub record HasStepped (w : World) (p q : Persist) (event : Event) (answer : Answer) : Type 0 where
  pub past : Past
  pub meaning : IsMeaningOf past.records p
  pub insight : Insight
  pub sees : Sees node_layers past event insight
  pub answer_is : answer ≡ answer_of node_layers past event insight
  pub goes : GoesBy (event_steps (config_in p) (stores node_layers past event insight answer) answer) w q q.mark
