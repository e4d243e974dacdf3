-- The plan of an event, whatever its kind, as proofs see it.
use Rattle.std.specs.Prelude.{Bool, List, Option}
use Rattle.mesh_base.specs.declared.beacon.Beacon.{Beacon as BeaconRead}
use Rattle.mesh_jobs.specs.declared.pdus.PduBasis.{PduBasis}
use Rattle.mesh_jobs.specs.declared.ticks.TimeBasis.{TimeBasis}
use Rattle.mesh_types.specs.declared.answers.Answer.{Answer}
use Rattle.record_types.specs.declared.records.StoreRecord.{StoreRecord}

-- What its octets were read as, and what its jobs need of the time before its records. A network PDU was heard; a beacon was heard, after a
-- Node Reset of this life or not; time passed; or neither, with whether a message that is sent goes to an address of a friendship.
pub data Basis : Type 0 where
  Pdu : PduBasis → Basis
  Beacon : Bool → Option BeaconRead → Basis
  Time : TimeBasis → Basis
  Own : Bool → Basis

-- the answer, the records in the order in which they are stored, and what the jobs need
pub record Plan : Type 0 where
  pub answer : Answer
  pub records : List StoreRecord
  pub basis : Basis
