-- An event of a life that is handled by a node of some kind, mostly by one with the layers of this node, where what its octets are read as is
-- given.
use Rattle.std.specs.Prelude.{ℕ, ◌*◌, ◌^◌, false, List, [], ◌∷◌, ◌++◌, None}
use Rattle.layer_definitions.specs.KeyRefresh.{master_material}
use Rattle.mesh_base.specs.declared.address.Address.{Address}
use Rattle.mesh_base.specs.declared.fields.NetFields.{NetFields}
use Rattle.mesh_base.specs.declared.pair.Name.{Name}
use Rattle.mesh_types.specs.declared.answers.Answer.{Answer}
use Rattle.mesh_types.specs.declared.events.Event.{Event}
use Rattle.mesh_types.specs.declared.jobs.Job.{Job}
use Rattle.node_layers.specs.NodeLayers.{node_layers}
use Rattle.record_types.specs.declared.records.StoreRecord.{StoreRecord}
use Rattle.record_types.specs.declared.records.StoreRecord.TheVariants as R
use Rattle.event_definitions.specs.Answers.{answer_of}
use Rattle.event_definitions.specs.History.{Insight, Past, Reading}
use Rattle.event_definitions.specs.Layers.{Layers}
use Rattle.event_definitions.specs.Role.{Role, node_role}
use Rattle.event_definitions.specs.Stores.{stores}
use Rattle.store_definitions.specs.Config.{config_of}

-- the answer and the jobs of an event
pub record Handled : Type 0 where
  pub answer : Answer
  pub jobs : List Job

abbrev pub stored_by : Layers → Past → Event → Insight → List StoreRecord
stored_by layers past event insight = stores layers past event insight (answer_of layers past event insight)

-- by a kind of node
abbrev pub handled_in : Role → Past → Event → Insight → Handled
handled_in role past event insight = record {
  answer = role.answer past event insight;
  jobs =
      role.jobs past (config_of (past.records ++ role.stores past event insight (role.answer past event insight))) event insight
      (role.answer past event insight);
}

abbrev pub handled_by : Layers → Past → Event → Insight → Handled
handled_by layers past event insight = handled_in (node_role layers) past event insight

abbrev pub stored : Past → Event → Insight → List StoreRecord
stored past event insight = stored_by node_layers past event insight

abbrev pub handled : Past → Event → Insight → Handled
handled past event insight = handled_by node_layers past event insight

-- what stands before the next event, when this one was answered so and stored this
abbrev pub then_at : Past → Event → Insight → Answer → List StoreRecord → Past
then_at past event insight answer more = record {
  told = past.told ++ record {
    entry = record { bearer = 0; number = 0; event = event; fills = 0; answer = answer; jobs = [] };
    insight = insight;
    records = past.records;
  } ∷ [];
  records = past.records ++ more;
}

abbrev pub address : ℕ → Address
address n = record { 0 = n }

-- The node of the worked cases: one element 1201 under the IV Index 12345678, with a network key of some index.

abbrev pub iv : ℕ
iv = 0x12345678

abbrev pub name : ℕ → ℕ → Name
name src seq = record { src = address src; pair = record { iv = iv; seq = seq } }

abbrev pub start : ℕ → List ℕ → List ℕ → Past
start index net_key dev_key = record {
  told = [];
  records =
      R.Identity (address 0x1201) 1 dev_key ∷ R.Numbers iv false (iv * 2 ^ 25) 0 192 ∷ R.NetKey 1 index net_key ∷ [];
}

-- a PDU heard under the master credentials of that key
abbrev pub heard : ℕ → List ℕ → NetFields → Reading
heard index net_key fields =
    record {
      fields = fields;
      by = record { index = index; lpn = None; fresh = false; material = master_material net_key };
    }
