-- An entry and a history may go to another thread: what contracts alone see of them owns nothing.
use Rattle.entry_log.specs.contracts.log.EntryLog as EntryLog
use Rattle.std.proofs.Crossing.{Vec-send}
use Rattle.entry_log.proofs.past.Recorder.TheSendSync as recorder
use denote.RattleType.{RattleType}
use denote.Hole.{as_row}
use denote.Param.Send.{IsSend, sendable, view_send}
use denote.Param.SendFields.{declared_send}
use Rattle.mesh_types.specs.contracts.history.Entry as Entry
use Rattle.mesh_types.specs.contracts.jobs.Jobs as Jobs
use Rattle.mesh_types.specs.contracts.told.Told as Told
use Rattle.mesh_types.specs.contracts.told.ToldEvent as ToldEvent
use Rattle.mesh_types.proofs.answers.Answer.TheSendSync as answer

event_send : IsSend (as_row ToldEvent.the_field)
event_send = search sendable depth 20

told_send : (R : RattleType) → IsSend (as_row (Told.the_field R))
told_send R = search sendable depth 20

pub entry_send : IsSend Entry.the_row
entry_send = declared_send Entry.the_type (search sendable depth 20, (search sendable depth 20, (event_send, (search sendable depth 20, (answer.the_send, (told_send Jobs.the_row, tt))))))

pub entry_log_send : IsSend EntryLog.the_row
entry_log_send = view_send EntryLog.TheInside.the_row _ _ _ _ (declared_send EntryLog.TheInside.the_type (recorder.the_send, (Vec-send Entry.the_row entry_send, (search sendable depth 20, tt))))
