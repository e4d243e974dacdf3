-- A kind of node: what it makes of an event.
use Rattle.std.specs.Prelude.{List}
use Rattle.mesh_types.specs.declared.answers.Answer.{Answer}
use Rattle.mesh_types.specs.declared.events.Event.{Event}
use Rattle.mesh_types.specs.declared.jobs.Job.{Job}
use Rattle.record_types.specs.declared.records.StoreRecord.{StoreRecord}
use Rattle.event_definitions.specs.Answers.{answer_of}
use Rattle.event_definitions.specs.History.{Insight, Past}
use Rattle.event_definitions.specs.Jobs.{jobs_of}
use Rattle.event_definitions.specs.Layers.{Layers}
use Rattle.event_definitions.specs.Readings.{Sees}
use Rattle.event_definitions.specs.Stores.{stores}
use Rattle.store_definitions.specs.Config.{Config}

-- After what stands before it: what its octets are read as, the answer, the records that it stores by its answer, and the jobs of its answer,
-- which see what the records say after it.
pub record Role : Type 1 where
  pub sees : Past → Event → Insight → Type 0
  pub answer : Past → Event → Insight → Answer
  pub stores : Past → Event → Insight → Answer → List StoreRecord
  pub jobs : Past → Config → Event → Insight → Answer → List Job

-- a node with these layers above the lower transport layer
abbrev pub node_role : Layers → Role
node_role layers = record {
  sees = λ past event insight. Sees layers past event insight;
  answer = answer_of layers;
  stores = stores layers;
  jobs = jobs_of layers;
}
