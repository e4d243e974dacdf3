-- What safety asks of the layers above the lower transport layer: which jobs they may have, and which records they may store.
use Rattle.std.specs.Prelude.{◌≡◌, ◌⊎◌, ℕ, Bool, false, List, Option, Some, All, Contains, ⊤}
use Rattle.layer_definitions.specs.Network.{net_text}
use Rattle.mesh_base.specs.declared.address.Address.{Address}
use Rattle.mesh_base.specs.declared.fields.NetFields.{NetFields}
use Rattle.mesh_base.specs.declared.fields.NetMaterial.{NetMaterial}
use Rattle.mesh_base.specs.declared.lower.Lower.{Lower}
use Rattle.mesh_base.specs.declared.pair.Name.{Name}
use Rattle.mesh_types.specs.declared.answers.Answer.TheVariants as A
use Rattle.mesh_types.specs.declared.events.Event.TheVariants as E
use Rattle.mesh_types.specs.declared.jobs.Job.{Job}
use Rattle.mesh_types.specs.declared.jobs.Job.TheVariants as J
use Rattle.record_types.specs.declared.records.StoreRecord.{StoreRecord}
use Rattle.record_types.specs.declared.records.StoreRecord.TheVariants as R
use Rattle.event_definitions.specs.Answers.{is_before_cache, name_of}
use Rattle.store_definitions.specs.Config.{Config}
use Rattle.event_definitions.specs.History.{OfPdu, Opening, Past, Reading, Told}
use Rattle.event_definitions.specs.Layers.{AccessMessage, ControlMessage, Layers}

-- A PDU of these fields, but for its TTL, was heard in this life, and got past the answer `own`.
pub record WasHeard (past : Past) (f : NetFields) : Type 0 where
  pub told : Told
  pub is_told : Contains past.told told
  pub reading : Reading
  pub low : Option Lower
  pub opening : Option Opening
  pub read : told.insight ≡ OfPdu (Some reading) low opening
  pub passed : is_before_cache told.entry.answer ≡ false
  pub fields : f ≡ record reading.fields { ttl = f.ttl }

-- The octets under this name were kept in this life, as those of the answer to a Poll.
pub record WasKept (past : Past) (name : Name) (octets : List ℕ) : Type 0 where
  pub told : Told
  pub is_told : Contains past.told told
  pub lpn : Address
  pub fsn : Bool
  pub event : told.entry.event ≡ E.Kept lpn fsn name octets
  pub answer : told.entry.answer ≡ A.Kept

-- The octets are the text of a PDU that was heard, and have its name.
pub record IsTextHeard (past : Past) (name : Name) (octets : List ℕ) : Type 0 where
  pub material : NetMaterial
  pub fields : NetFields
  pub heard : WasHeard past fields
  pub named : name ≡ name_of fields
  pub text : octets ≡ net_text material fields

-- A PDU that goes on was heard, at once or out of a friend's queue; no segment goes as the first one of a message; and what goes once more
-- was sealed before, or is another node's PDU.
abbrev pub IsFitJob : Past → Job → Type 0
IsFitJob past (J.Relay material fields) = WasHeard past fields
IsFitJob past (J.Segment s) = s.first ≡ false
IsFitJob past (J.Repeat name pdu) = WasKept past name pdu ⊎ IsTextHeard past name pdu
IsFitJob past _ = ⊤

-- A change of keys, bindings, subscriptions, publications, features or kept values, or a Node Reset: neither the identity nor a number nor
-- the replay list is in it.
abbrev pub IsChange : StoreRecord → Type 0
IsChange (R.NetKey op index key) = ⊤
IsChange (R.AppKey op net index key) = ⊤
IsChange (R.Bind op element model app) = ⊤
IsChange (R.Subscribe op element model address) = ⊤
IsChange (R.Feature which value) = ⊤
IsChange R.Reset = ⊤
IsChange (R.Model element model value) = ⊤
IsChange (R.Label op element model label) = ⊤
IsChange (R.Publish row) = ⊤
IsChange _ = ⊥

pub record AreSafe (layers : Layers) : Type 0 where
  pub acks_due : (past : Past) (c : Config) (ticks : ℕ) → All (IsFitJob past) (layers.acks_due past c ticks)
  pub segments_due : (past : Past) (c : Config) (ticks : ℕ) → All (IsFitJob past) (layers.segments_due past c ticks)
  pub control_jobs : (past : Past) (c : Config) (m : ControlMessage)
      → All (IsFitJob past) (layers.control_jobs past c m)
  pub replies : (past : Past) (c : Config) (m : AccessMessage) → All (IsFitJob past) (layers.replies past c m)
  pub published : (past : Past) (c : Config) (ticks : ℕ) → All (IsFitJob past) (layers.published past c ticks)
  pub changes : (past : Past) (m : AccessMessage) → All IsChange (layers.changes past m)
