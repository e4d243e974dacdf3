-- The acknowledgments that are due have a TTL of 7 bits: so had the Default TTL when their timers began.
use Rattle.std.proofs.Common.{ℕ, ◌+◌, ◌*◌, ◌<◌, ◌^◌, Bool, true, false, cond, eqb, ltb, List, [], ◌∷◌, length, arith, Option, Some, None}
use Rattle.std.specs.Bool.{⊤}
use Rattle.std.specs.Prelude.{is_some}
use Rattle.std.specs.List.{AllByRecursion as Every}
use Rattle.std.specs.Option.{option_map}
use Rattle.layer_states.specs.Names.{is_unicast}
use Rattle.layer_states.specs.Reassembly.{PartCall, take_part, release, tick, ack_of, acks_due, after, begun, due_ack, heard_by, is_at_odds, is_due, is_segment, judged_after, live, message_for, noted, piece_at, place_of, put_message, rung, seg_o_of, timer_after}
use Rattle.layer_states.specs.declared.reassembly.Assembly.{Assembly}
use Rattle.layer_states.specs.declared.reassembly.DueAck.{DueAck}
use Rattle.layer_states.specs.declared.reassembly.PartHeard.{PartHeard}
use Rattle.layer_states.specs.declared.reassembly.Timer.{Timer}
use Rattle.mesh_base.proofs.Every.{Inside, every_append, every_chosen, every_filter, every_get, every_mapped, every_pick, every_set, through_fold}
use Rattle.mesh_base.specs.declared.lower.Lower.{Lower}
use Rattle.mesh_base.specs.declared.pair.Name.{Name}
use Rattle.mesh_types.specs.declared.answers.Answer.{Answer}
use Rattle.mesh_types.specs.declared.answers.Answer.TheVariants as A
use Rattle.node_layers.specs.Reassembly.{calls_at, calls_from, message_calls, messages, named_calls, part_calls, part_heard, tick_calls, whole_calls}
use Rattle.event_definitions.specs.Answers.{message_name}
use Rattle.event_definitions.specs.History.{Insight, OfBeacon, OfNothing, OfPdu, Past, Reading, Told, ticks_after}
use Rattle.event_definitions.specs.Jobs.{reply_ttl}
use Rattle.store_definitions.specs.Config.{Config, config_of}

abbrev pub IsShort : ℕ → Type 0
IsShort ttl = ttl < 2 ^ 7

pub reply_short : (c : Config) (heard : ℕ) → IsShort c.ttl → IsShort (reply_ttl c heard)
reply_short c heard h = pick (eqb heard 0)
  where
    pick : (b : Bool) → IsShort (cond b 0 c.ttl)
    pick true = omega arith
    pick false = h

-- Calls.

abbrev IsShortCall : PartCall → Type 0
IsShortCall (take_part now h) = IsShort h.ack_ttl
IsShortCall (release n) = ⊤
IsShortCall (tick now) = ⊤

part_short : (now : ℕ) (h : PartHeard) (a : Answer) → IsShort h.ack_ttl → Every IsShortCall (part_calls now h a)
part_short now h (A.NoRoom held) k = (k, tt)
part_short now h A.Conflict k = (k, tt)
part_short now h (A.Waiting missing) k = (k, tt)
part_short now h A.NoKey k = (k, (tt, tt))
part_short now h (A.ListFull held) k = (k, (tt, tt))
part_short now h (A.Delivered name dst key payload) k = (k, (tt, tt))
part_short now h (A.Control name dst opcode params) k = (k, (tt, tt))
part_short now h _ k = tt

whole_short : (n : Name) (a : Answer) → Every IsShortCall (whole_calls n a)
whole_short n A.NoKey = (tt, tt)
whole_short n (A.ListFull held) = (tt, tt)
whole_short n (A.Delivered name dst key payload) = (tt, tt)
whole_short n (A.Control name dst opcode params) = (tt, tt)
whole_short n _ = tt

named_short : (now : ℕ) (c : Config) (r : Reading) (low : Lower) (a : Answer) (n : Option Name) → IsShort c.ttl → Every IsShortCall (named_calls now c r low a n)
named_short now c r low a None h = tt
named_short now c r low a (Some n) h =
    every_pick IsShortCall (is_segment low) (part_calls now (part_heard c r n low) a) (whole_calls n a) (part_short now (part_heard c r n low) a (reply_short c r.fields.ttl h)) (whole_short n a)

message_short : (now : ℕ) (c : Config) (i : Insight) (a : Answer) → IsShort c.ttl → Every IsShortCall (message_calls now c i a)
message_short now c (OfPdu (Some r) (Some low) opening) a h = named_short now c r low a (message_name r.fields low) h
message_short now c (OfPdu (Some r) None opening) a h = tt
message_short now c (OfPdu None low opening) a h = tt
message_short now c (OfBeacon b) a h = tt
message_short now c OfNothing a h = tt

tick_short : (a : Answer) → Every IsShortCall (tick_calls a)
tick_short (A.Ticked now) = (tt, tt)
tick_short _ = tt

abbrev pub IsShortTold : Told → Type 0
IsShortTold t = IsShort (config_of t.records).ttl

calls_short : (now : ℕ) (told : List Told) → Every IsShortTold told → Every IsShortCall (calls_from now told)
calls_short now [] h = tt
calls_short now (t ∷ ts) h =
    every_append IsShortCall (calls_at now t) (calls_from (ticks_after now t.entry.answer) ts)
    (every_append IsShortCall (message_calls now (config_of t.records) t.insight t.entry.answer) (tick_calls t.entry.answer)
    (message_short now (config_of t.records) t.insight t.entry.answer h.0) (tick_short t.entry.answer))
    (calls_short (ticks_after now t.entry.answer) ts h.1)

-- Messages and their timers.

abbrev IsTimed : Assembly → Type 0
IsTimed a = Inside (λ (t : Timer). IsShort t.ttl) a.timer

timer_short : (now : ℕ) (timer : Option Timer) (h : PartHeard) → Inside (λ (t : Timer). IsShort t.ttl) timer → IsShort h.ack_ttl → Inside (λ (t : Timer). IsShort t.ttl) (timer_after now timer h)
timer_short now (Some t) h k s = k
timer_short now None h k s = pick (is_unicast h.dst)
  where
    pick : (b : Bool) → Inside (λ (t : Timer). IsShort t.ttl) (cond b (Some (record { due = now + 15 + 5 * h.ack_ttl; ttl = h.ack_ttl })) None)
    pick true = s
    pick false = tt

by_test : (b : Bool) (x y : Assembly) → IsTimed x → IsTimed y → IsTimed (cond b x y)
by_test true x y h k = h
by_test false x y h k = k

heard_short : (a : Assembly) (now : ℕ) (h : PartHeard) → IsShort h.ack_ttl → IsTimed a → IsTimed (heard_by a now h)
heard_short a now h s k = by_test (is_some (piece_at a.pieces (seg_o_of h.part))) a _ k (timer_short now a.timer h k s)

judged_short : (a : Assembly) (now : ℕ) (h : PartHeard) → IsShort h.ack_ttl → IsTimed a → IsTimed (judged_after a now h)
judged_short a now h s k = by_test (is_at_odds a h) a (heard_by a now h) k (heard_short a now h s k)

put_short : (place : ℕ) (a : Assembly) (rows : List Assembly) → IsTimed a → Every IsTimed rows → Every IsTimed (put_message place a rows)
put_short place a rows k h = every_pick IsTimed (ltb place (length rows)) _ _ (every_set IsTimed rows place a k h) (every_append IsTimed rows (a ∷ []) h (k, tt))

noted_short : (rows : List Assembly) (now : ℕ) (h : PartHeard) → IsShort h.ack_ttl → Every IsTimed rows → Every IsTimed (noted rows now h)
noted_short rows now h s k =
    let heard : IsTimed (message_for rows now h) = every_get IsTimed rows (place_of h.name rows) (begun now h) tt k in
    every_pick IsTimed _ rows _ k (put_short (place_of h.name rows) (judged_after (message_for rows now h) now h) rows (judged_short (message_for rows now h) now h s heard) k)

rung_short : (now : ℕ) (a : Assembly) → IsTimed a → IsTimed (rung now a)
rung_short now a k = by_test (is_due now a) _ a tt k

after_short : (rows : List Assembly) (call : PartCall) → IsShortCall call → Every IsTimed rows → Every IsTimed (after rows call)
after_short rows (take_part now h) s k = noted_short (live now rows) now h s (every_filter IsTimed _ rows k)
after_short rows (release n) s k = every_filter IsTimed _ rows k
after_short rows (tick now) s k = every_mapped IsTimed IsTimed (rung now) (rung_short now) (live now rows) (every_filter IsTimed _ rows k)

messages_short : (past : Past) → Every IsShortTold past.told → Every IsTimed (messages past)
messages_short past h = through_fold (Every IsTimed) IsShortCall after after_short [] (calls_from 0 past.told) (calls_short 0 past.told h) tt

due_short : (now : ℕ) (a : Assembly) → IsTimed a → Inside (λ (d : DueAck). IsShort d.ack_ttl) (due_ack now a)
due_short now a k = pick (is_due now a) a.timer k
  where
    pick : (b : Bool) (timer : Option Timer) → Inside (λ (t : Timer). IsShort t.ttl) timer → Inside (λ (d : DueAck). IsShort d.ack_ttl) (cond b (option_map (ack_of a) timer) None)
    pick true None k = tt
    pick true (Some t) k = k
    pick false timer k = tt

pub acks_short : (past : Past) (now : ℕ) → Every IsShortTold past.told → Every (λ (d : DueAck). IsShort d.ack_ttl) (acks_due now (messages past))
acks_short past now h = every_chosen IsTimed (λ (d : DueAck). IsShort d.ack_ttl) (due_ack now) (due_short now) (live now (messages past)) (every_filter IsTimed _ (messages past) (messages_short past h))
