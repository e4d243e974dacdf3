-- Own segmented messages in a life: those that are held, and the segments that are due (Mesh Profile 1.0.1, section 3.5.3.2).
use Rattle.std.specs.Prelude.{ℕ, ◌&&◌, not, false, if◌then◌else◌, List, [], ◌∷◌, ◌++◌, length}
use Rattle.std.specs.List.{flat_map}
use Rattle.layer_definitions.specs.ControlReading.{control_of}
use Rattle.layer_states.specs.Sending.{SendCall, ack, begin, clear, due, is_due, is_last, round_of, sent}
use Rattle.layer_states.specs.declared.sending.Sending.{Sending}
use Rattle.mesh_base.specs.declared.address.Address.{Address}
use Rattle.mesh_base.specs.declared.control.ControlMsg.{ControlMsg}
use Rattle.mesh_base.specs.declared.control.ControlMsg.TheVariants as C
use Rattle.mesh_base.specs.declared.iv_state.IvStep.{IvStep}
use Rattle.mesh_base.specs.declared.iv_state.IvStep.TheVariants as I
use Rattle.mesh_types.specs.declared.answers.Answer.{Answer}
use Rattle.mesh_types.specs.declared.answers.Answer.TheVariants as A
use Rattle.mesh_types.specs.declared.events.Event.{Event}
use Rattle.mesh_types.specs.declared.events.Event.TheVariants as E
use Rattle.mesh_types.specs.declared.jobs.Job.{Job}
use Rattle.event_definitions.specs.Answers.{later}
use Rattle.event_definitions.specs.History.{Past, Told, ticks_after}
use Rattle.event_definitions.specs.Jobs.{under, segment_job}
use Rattle.store_definitions.specs.Config.{Config}

-- a message that begins: its upper PDU was sealed under the pair of its SeqAuth
abbrev pub begun_calls : ℕ → Event → List SendCall
begun_calls now (E.Begin m) = begin now m ∷ []
begun_calls now _ = []

-- a Segment Acknowledgment that was accepted, from its SRC
abbrev pub acknowledged : Address → ControlMsg → List SendCall
acknowledged from (C.Acknowledgment a) = ack from a.obo a.seq_zero a.block_ack ∷ []
acknowledged from _ = []

-- IV Index Recovery drops what is held (3.10.6)
abbrev pub stepped_calls : IvStep → List SendCall
stepped_calls (I.Recover s) = clear ∷ []
stepped_calls _ = []

-- what an event with this answer does with the table, at this time
abbrev pub own_calls : ℕ → Event → Answer → List SendCall
own_calls now event A.Begun = begun_calls now event
own_calls now event (A.Control name dst opcode params) = acknowledged name.src (control_of opcode params)
own_calls now event (A.Beacon index key iv) = stepped_calls iv
own_calls now event (A.Ticked ticks) = due ticks ∷ []
own_calls now event _ = []

abbrev pub calls_at : ℕ → Told → List SendCall
calls_at now t = own_calls now t.entry.event t.entry.answer

abbrev pub calls_from : ℕ → List Told → List SendCall
calls_from now [] = []
calls_from now (t ∷ ts) = calls_at now t ++ calls_from (ticks_after now t.entry.answer) ts

-- the messages that are held, and how many there are
abbrev pub messages : Past → List Sending
messages past = sent (calls_from 0 past.told)

abbrev pub held_count : Past → ℕ
held_count past = length (messages past)

-- The segments that are due at a tick, in the order in which their messages began. Each draws a pair of its own.

abbrev pub round_jobs : Config → ℕ → Sending → List Job
round_jobs c now s =
    if is_due now s && not (is_last s)
    then flat_map (λ seg_o. under c s.message.net (segment_job false s.message seg_o)) (round_of s) else []

abbrev pub segments_at : Past → Config → ℕ → List Job
segments_at past c ticks = flat_map (round_jobs c (later past ticks)) (messages past)
