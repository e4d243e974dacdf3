-- The Low Power node as a kind of node: what it stores and sends, beside what it reads and answers.
use Rattle.std.specs.Prelude.{◌++◌, List, [], ◌∷◌, None, map}
use Rattle.std.specs.List.{flat_map}
use Rattle.std.specs.Option.{option_map_or, option_to_list}
use Rattle.low_power_definitions.specs.Polls.{sent}
use Rattle.low_power_definitions.specs.State.{LpnCall, LowPowerState, after, job_material}
use Rattle.low_power_definitions.specs.declared.lpn.LpnJob.{LpnJob}
use Rattle.mesh_base.specs.declared.keys.NetKeyRow.{NetKeyRow}
use Rattle.mesh_types.specs.declared.answers.Answer.{Answer}
use Rattle.mesh_types.specs.declared.events.Event.{Event}
use Rattle.mesh_types.specs.declared.events.Event.TheVariants as E
use Rattle.mesh_types.specs.declared.jobs.Job.{Job}
use Rattle.mesh_types.specs.declared.jobs.Job.TheVariants as J
use Rattle.record_types.specs.declared.records.StoreRecord.{StoreRecord}
use Rattle.record_types.specs.declared.records.StoreRecord.TheVariants as R
use Rattle.event_definitions.specs.Answers.{accepted}
use Rattle.event_definitions.specs.History.{Insight, Past}
use Rattle.event_definitions.specs.Role.{Role}
use Rattle.low_power_role.specs.Answers.{answer_of}
use Rattle.low_power_role.specs.Readings.{Sees, own_nets}
use Rattle.low_power_role.specs.State.{event_calls, state_of}
use Rattle.store_definitions.specs.Config.{Config}

-- an accepted message is recorded, and nothing else is
unfoldable pub stores : Past → Event → Insight → Answer → List StoreRecord
stores past (E.Net octets) insight answer = option_map_or (λ name. R.Replay name None ∷ []) (accepted answer) []
stores past _ insight answer = []

-- what calls send, one after another
abbrev pub sent_by : LowPowerState → List LpnCall → List LpnJob
sent_by st [] = []
sent_by st (call ∷ calls) = option_to_list (sent st call) ++ sent_by (after st call) calls

-- from the first element, with TTL 0
abbrev pub control_job : Config → LpnJob → NetKeyRow → Job
control_job c job net = J.Control (job_material c.unicast net job) 0 c.unicast job.dst job.tpdu None

abbrev pub jobs_under : Config → LpnJob → List Job
jobs_under c job = map (control_job c job) (own_nets c)

-- what the calls of an event send
unfoldable pub jobs_of : Past → Config → Event → Insight → Answer → List Job
jobs_of past c event insight answer = flat_map (jobs_under c) (sent_by (state_of past) (event_calls event insight answer))

abbrev pub low_power_role : Role
low_power_role = record {
  sees = λ past event insight. Sees past event insight;
  answer = answer_of;
  stores = stores;
  jobs = jobs_of;
}
