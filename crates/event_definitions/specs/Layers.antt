-- What the layers above the lower transport layer say of a life so far: one function for each question that an answer, a record or a
-- job asks of them. Here they are named; the definitions of the layers give them.
use Rattle.std.specs.Prelude.{ℕ, Bool, false, List, [], Option}
use Rattle.mesh_base.specs.declared.address.Address.{Address}
use Rattle.mesh_base.specs.declared.fields.Heard.{Heard}
use Rattle.mesh_base.specs.declared.keys.UpperKey.{UpperKey}
use Rattle.mesh_base.specs.declared.lower.Lower.{Lower}
use Rattle.mesh_base.specs.declared.pair.Name.{Name}
use Rattle.mesh_types.specs.declared.jobs.Job.{Job}
use Rattle.record_types.specs.declared.records.StoreRecord.{StoreRecord}
use Rattle.store_definitions.specs.Config.{Config}
use Rattle.event_definitions.specs.History.{Past, Reading}

-- an access message that was opened: its name and DST, the network key index and TTL that it was heard with, and the payload with the
-- key and the label that opened it, where DST is virtual
pub record AccessMessage : Type 0 where
  pub name : Name
  pub dst : Address
  pub net : ℕ
  pub ttl : ℕ
  pub key : UpperKey
  pub label : Option (List ℕ)
  pub payload : List ℕ

-- a control message that was accepted: how it was heard, its opcode and its parameters
pub record ControlMessage : Type 0 where
  pub reading : Reading
  pub opcode : ℕ
  pub params : List ℕ

pub record Layers : Type 0 where
  -- Reassembly: the names of the messages in progress, in the order in which they began; whether a segment is at odds with the message
  -- in progress under its name; how many pieces are missing after a segment, and the octets that all pieces make where none is; and the
  -- acknowledgments that are due when so many ticks more have passed.
  pub in_progress : Past → List Name
  pub conflicts : Past → Name → Reading → Lower → Bool
  pub missing : Past → Name → Lower → ℕ
  pub whole : Past → Name → Lower → List ℕ
  pub acks_due : Past → Config → ℕ → List Job
  -- Own segmented messages: how many are unacknowledged, and the segments that are due when so many ticks more have passed.
  pub unacknowledged : Past → ℕ
  pub segments_due : Past → Config → ℕ → List Job
  -- Friendship: the credentials that are heard, in the order of their offers; whether an address is one of a friendship that stands;
  -- whether octets are noted as the answer to the Poll with this FSN of a Low Power node; and what a control message asks to be sent.
  pub friend_keys : Past → List Heard
  pub is_befriended : Past → Address → Bool
  pub is_noted : Past → Address → Bool → Bool
  pub control_jobs : Past → Config → ControlMessage → List Job
  -- Models and configuration: the records that an access message asks for, and the replies to it; and what models publish when so many
  -- ticks more have passed, the heartbeat behind it.
  pub changes : Past → AccessMessage → List StoreRecord
  pub replies : Past → Config → AccessMessage → List Job
  pub published : Past → Config → ℕ → List Job

-- layers that have nothing to say
abbrev pub quiet_layers : Layers
quiet_layers = record {
  in_progress = λ past. [];
  conflicts = λ past n r low. false;
  missing = λ past n low. 0;
  whole = λ past n low. [];
  acks_due = λ past c ticks. [];
  unacknowledged = λ past. 0;
  segments_due = λ past c ticks. [];
  friend_keys = λ past. [];
  is_befriended = λ past a. false;
  is_noted = λ past lpn fsn. false;
  control_jobs = λ past c m. [];
  changes = λ past m. [];
  replies = λ past c m. [];
  published = λ past c ticks. [];
}
