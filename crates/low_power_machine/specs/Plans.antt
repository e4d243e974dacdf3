-- What the plan of an event is, by the kind of node that a Low Power node is.
use Rattle.std.specs.Prelude.{◌≡◌, ◌≤◌, List, [], ◌∷◌, fold, length, Option, Some, None}
use Rattle.std.specs.Option.{option_map_or, option_to_list}
use Rattle.event_definitions.specs.Answers.{accepted}
use Rattle.event_definitions.specs.History.{Insight, Opening, Past, Reading}
use Rattle.event_definitions.specs.Readings.{IsLowerPdu}
use Rattle.low_power_definitions.specs.State.{LowPowerState, after}
use Rattle.low_power_definitions.specs.declared.lpn.LpnJob.{LpnJob}
use Rattle.low_power_machine.specs.declared.plan.Plan.{Plan}
use Rattle.low_power_role.specs.Answers.{transport_answer}
use Rattle.low_power_role.specs.Readings.{IsOpening}
use Rattle.low_power_role.specs.Role.{low_power_role, sent_by}
use Rattle.low_power_role.specs.State.{event_calls, heard_calls, state_of}
use Rattle.mesh_base.specs.declared.lower.Lower.{Lower}
use Rattle.mesh_types.specs.declared.answers.Answer.{Answer}
use Rattle.mesh_types.specs.declared.events.Event.{Event}
use Rattle.record_types.specs.declared.records.StoreRecord.{StoreRecord}
use Rattle.record_types.specs.declared.records.StoreRecord.TheVariants as R

-- the record of an accepted message, if an answer accepts one
abbrev pub records_by : Answer → List StoreRecord
records_by answer = option_map_or (λ name. R.Replay name None ∷ []) (accepted answer) []

-- After a past, an event was read and answered so; it stores the record of the answer, and sends what its calls send; and the state is the one
-- after these calls.
pub record IsPlanned (past : Past) (event : Event) (plan : Plan) (left : LowPowerState) : Type 0 where
  pub insight : Insight
  pub sees : low_power_role.sees past event insight
  pub answer : plan.answer ≡ low_power_role.answer past event insight
  pub records : records_by plan.answer ≡ low_power_role.stores past event insight plan.answer
  pub job : option_to_list plan.job ≡ sent_by (state_of past) (event_calls event insight plan.answer)
  pub state : left ≡ fold after (state_of past) (event_calls event insight plan.answer)

-- The same of a network PDU that read, from the transport layers on.
pub record IsHeardSo (past : Past) (r : Reading) (low : Option Lower) (plan : Plan) (left : LowPowerState) : Type 0 where
  pub opening : Option Opening
  pub opens : IsOpening past (Some r) low opening
  pub answer : plan.answer ≡ transport_answer past r low opening
  pub job : option_to_list plan.job ≡ sent_by (state_of past) (heard_calls r plan.answer)
  pub state : left ≡ fold after (state_of past) (heard_calls r plan.answer)

-- and of whatever lower transport PDU is in it
pub record IsTransportSo (past : Past) (r : Reading) (plan : Plan) (left : LowPowerState) : Type 0 where
  pub low : Option Lower
  pub lower : IsLowerPdu r.fields low
  pub heard : IsHeardSo past r low plan left

-- what is sent has a text of 1 to 12 octets
abbrev pub IsShort : LpnJob → Type 0
IsShort job = (1 ≤ length job.tpdu) × (length job.tpdu ≤ 12)
