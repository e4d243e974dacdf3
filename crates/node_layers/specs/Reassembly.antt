-- Reassembly in a life: the segments that were heard in it, and the messages in progress (Mesh Profile 1.0.1, sections 3.5.3.3 and 3.5.3.4).
use Rattle.std.specs.Prelude.{ℕ, ◌+◌, ◌%◌, ◌^◌, Bool, if◌then◌else◌, List, [], ◌∷◌, ◌++◌, replicate, Option, Some, None}
use Rattle.std.specs.List.{filter_map, flat_map, slice_get}
use Rattle.std.specs.Option.{option_map_or}
use Rattle.layer_definitions.specs.Lower.{acknowledgment, lower_text}
use Rattle.layer_states.specs.Reassembly.{PartCall, take_part, release, tick, due_ack, in_progress, is_at_odds, is_segment, live, message_for, missing_of, names_of, place_of, seg_n_of, whole_of, with_piece}
use Rattle.layer_states.specs.declared.reassembly.Assembly.{Assembly}
use Rattle.layer_states.specs.declared.reassembly.DueAck.{DueAck}
use Rattle.layer_states.specs.declared.reassembly.PartHeard.{PartHeard}
use Rattle.mesh_base.specs.declared.fields.NetMaterial.{NetMaterial}
use Rattle.mesh_base.specs.declared.lower.Lower.{Lower}
use Rattle.mesh_base.specs.declared.pair.Name.{Name}
use Rattle.mesh_types.specs.declared.answers.Answer.{Answer}
use Rattle.mesh_types.specs.declared.answers.Answer.TheVariants as A
use Rattle.mesh_types.specs.declared.jobs.Job.{Job}
use Rattle.mesh_types.specs.declared.jobs.Job.TheVariants as J
use Rattle.event_definitions.specs.Answers.{config_before, later, message_name}
use Rattle.event_definitions.specs.History.{Insight, OfPdu, Past, Reading, Told, now_of, ticks_after}
use Rattle.event_definitions.specs.Jobs.{reply_ttl, under}
use Rattle.store_definitions.specs.Config.{Config, config_of}

-- a segment as it was heard; its acknowledgment goes with the TTL of what the records say at that moment
abbrev pub part_heard : Config → Reading → Name → Lower → PartHeard
part_heard c r n low =
    record {
      name = n;
      dst = r.fields.dst;
      net = r.by.index;
      ttl = r.fields.ttl;
      part = low;
      ack_ttl = reply_ttl c r.fields.ttl;
    }

-- A segment that gets past the answers `again` and `replay` is taken; a message that is accepted, or that no key opens, or that has no place in
-- the replay list, isn't in progress any more.
abbrev pub part_calls : ℕ → PartHeard → Answer → List PartCall
part_calls now h (A.NoRoom held) = take_part now h ∷ []
part_calls now h A.Conflict = take_part now h ∷ []
part_calls now h (A.Waiting missing) = take_part now h ∷ []
part_calls now h A.NoKey = take_part now h ∷ release h.name ∷ []
part_calls now h (A.ListFull held) = take_part now h ∷ release h.name ∷ []
part_calls now h (A.Delivered name dst key payload) = take_part now h ∷ release h.name ∷ []
part_calls now h (A.Control name dst opcode params) = take_part now h ∷ release h.name ∷ []
part_calls now h _ = []

-- A message that came whole takes no segment; the name that it gives up is its own.
abbrev pub whole_calls : Name → Answer → List PartCall
whole_calls n A.NoKey = release n ∷ []
whole_calls n (A.ListFull held) = release n ∷ []
whole_calls n (A.Delivered name dst key payload) = release n ∷ []
whole_calls n (A.Control name dst opcode params) = release n ∷ []
whole_calls n _ = []

abbrev pub named_calls : ℕ → Config → Reading → Lower → Answer → Option Name → List PartCall
named_calls now c r low answer None = []
named_calls now c r low answer (Some n) =
    if is_segment low then part_calls now (part_heard c r n low) answer else whole_calls n answer

abbrev pub message_calls : ℕ → Config → Insight → Answer → List PartCall
message_calls now c (OfPdu (Some r) (Some low) opening) answer =
    named_calls now c r low answer (message_name r.fields low)
message_calls now c _ answer = []

abbrev pub tick_calls : Answer → List PartCall
tick_calls (A.Ticked now) = tick now ∷ []
tick_calls _ = []

-- what an entry does with the table, at this time
abbrev pub calls_at : ℕ → Told → List PartCall
calls_at now t = message_calls now (config_of t.records) t.insight t.entry.answer ++ tick_calls t.entry.answer

abbrev pub calls_from : ℕ → List Told → List PartCall
calls_from now [] = []
calls_from now (t ∷ ts) = calls_at now t ++ calls_from (ticks_after now t.entry.answer) ts

-- the messages of which segments were heard in this life, and those of them that are in progress
abbrev pub messages : Past → List Assembly
messages past = in_progress (calls_from 0 past.told)

abbrev pub held : Past → List Assembly
held past = live (now_of past.told) (messages past)

-- What the answers ask.

-- the pieces of a message with those of a segment
abbrev pub pieces_with : Past → Name → Lower → List (Option (List ℕ))
pieces_with past n low =
    with_piece
    (option_map_or (λ a. a.pieces) (slice_get (held past) (place_of n (held past)))
    (replicate (seg_n_of low + 1) None)) low

abbrev pub names_in_progress : Past → List Name
names_in_progress past = names_of (held past)

abbrev pub is_conflict : Past → Name → Reading → Lower → Bool
is_conflict past n r low =
    let h = part_heard (config_before past) r n low in is_at_odds (message_for (held past) (now_of past.told) h) h

abbrev pub missing_after : Past → Name → Lower → ℕ
missing_after past n low = missing_of (pieces_with past n low)

abbrev pub octets_after : Past → Name → Lower → List ℕ
octets_after past n low = whole_of (pieces_with past n low)

-- Acknowledgments that are due at a tick, in the order in which their messages began.

abbrev pub due_job : DueAck → NetMaterial → Job
due_job a m =
    J.Control m a.ack_ttl a.dst a.name.src (lower_text (acknowledgment (a.name.pair.seq % 2 ^ 13) a.block)) None

abbrev pub due_jobs : Config → DueAck → List Job
due_jobs c a = under c a.net (due_job a)

abbrev pub acks_at : Past → Config → ℕ → List Job
acks_at past c ticks =
    let now = later past ticks in flat_map (due_jobs c) (filter_map (due_ack now) (live now (messages past)))
