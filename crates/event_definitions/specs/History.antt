-- The history of a life as its definitions need it: each entry with what its octets were read as.
use Rattle.std.specs.Prelude.{ℕ, List, Option, fold}
use Rattle.mesh_base.specs.declared.beacon.Beacon.{Beacon}
use Rattle.mesh_base.specs.declared.fields.Heard.{Heard}
use Rattle.mesh_base.specs.declared.fields.NetFields.{NetFields}
use Rattle.mesh_base.specs.declared.keys.UpperKey.{UpperKey}
use Rattle.mesh_base.specs.declared.lower.Lower.{Lower}
use Rattle.mesh_types.specs.declared.answers.Answer.{Answer}
use Rattle.mesh_types.specs.declared.answers.Answer.TheVariants as A
use Rattle.mesh_types.specs.declared.history.Entry.{Entry}
use Rattle.record_types.specs.declared.records.StoreRecord.{StoreRecord}

-- the reading of a network PDU: its fields, and the material that it reads under
pub record Reading : Type 0 where
  pub fields : NetFields
  pub by : Heard

-- the opening of an upper PDU: the payload, the key that it opens under, and the label where DST is virtual
pub record Opening : Type 0 where
  pub key : UpperKey
  pub label : Option (List ℕ)
  pub payload : List ℕ

-- What the octets of an event are read as. Of a network PDU: its reading; the lower transport PDU in that; and, where it completes an
-- access message, how that opens. Of a beacon: the beacon. Where nothing reads there is none. Other events have no octets to be read.
pub data Insight : Type 0 where
  OfPdu : Option Reading → Option Lower → Option Opening → Insight
  OfBeacon : Option Beacon → Insight
  OfNothing : Insight

-- an entry, with what its octets were read as, and the records of the store before its event
pub record Told : Type 0 where
  pub entry : Entry
  pub insight : Insight
  pub records : List StoreRecord

-- What stands before an event: the entries of this life so far, and the records of the store, with the refills that were stored
-- since the last entry.
pub record Past : Type 0 where
  pub told : List Told
  pub records : List StoreRecord

-- the ticks of this life so far: those that the last tick event told
abbrev pub ticks_after : ℕ → Answer → ℕ
ticks_after now (A.Ticked later) = later
ticks_after now _ = now

abbrev pub now_of : List Told → ℕ
now_of told = fold (λ now t. ticks_after now t.entry.answer) 0 told
