-- Acknowledgments of segments go from an element: a segment that gets to reassembly goes to this node.
use Rattle.std.proofs.Common.{◌≡◌, ℕ, ◌<◌, Bool, true, false, cond, not, ◌&&◌, eqb, ltb, List, [], ◌∷◌, length, refl, sym, ◌∙◌, arith, Option, Some, None, is_some}
use Rattle.std.specs.Bool.{⊤}
use Rattle.std.specs.Prelude.{MatchOption}
use Rattle.std.specs.List.{AllByRecursion as Every, list_any}
use Rattle.std.specs.Option.{option_map, option_to_list}
use Rattle.std.proofs.lemmas.Bool.Decides.{nat_tests}
use Rattle.cipher_definitions.specs.Kdf.{virtual_address}
use Rattle.layer_definitions.specs.KeyRefresh.{transmit_material}
use Rattle.layer_states.specs.Reassembly.{PartCall, take_part, release, tick, ack_of, after, begun, due_ack, heard_by, is_at_odds, is_due, is_segment, judged_after, live, message_for, noted, place_of, put_message, rung, seg_o_of, piece_at, timer_after}
use Rattle.layer_states.specs.declared.reassembly.Assembly.{Assembly}
use Rattle.layer_states.specs.declared.reassembly.DueAck.{DueAck}
use Rattle.layer_states.specs.declared.reassembly.PartHeard.{PartHeard}
use Rattle.layer_states.specs.declared.reassembly.Timer.{Timer}
use Rattle.mesh_base.specs.declared.address.Address.{Address}
use Rattle.mesh_base.specs.declared.fields.NetMaterial.{NetMaterial}
use Rattle.mesh_base.specs.declared.lower.Lower.{Lower}
use Rattle.mesh_base.specs.declared.pair.Name.{Name}
use Rattle.mesh_types.specs.declared.answers.Answer.{Answer}
use Rattle.mesh_types.specs.declared.answers.Answer.TheVariants as A
use Rattle.mesh_types.specs.declared.events.Event.{Event}
use Rattle.mesh_types.specs.declared.jobs.Job.{Job}
use Rattle.node_layers.specs.Reassembly.{acks_at, calls_at, calls_from, due_job, due_jobs, message_calls, messages, named_calls, part_calls, part_heard, tick_calls, whole_calls}
use Rattle.layer_states.specs.Names.{is_unicast}
use Rattle.event_definitions.specs.Role.{node_role}
use Rattle.event_definitions.specs.Answers.{config_before, is_group, is_mine, later, message_name, network_answer}
use Rattle.event_definitions.specs.Fit.{HasElements, IsOwn}
use Rattle.event_definitions.specs.Handling.{IsPast, past_of}
use Rattle.event_definitions.specs.History.{Insight, OfBeacon, OfNothing, OfPdu, Opening, Past, Reading, Told, ticks_after}
use Rattle.event_definitions.specs.Jobs.{under}
use Rattle.event_definitions.specs.Layers.{Layers}
use Rattle.event_definitions.specs.Readings.{IsLower, IsLowerPdu, Sees, sees_beacon, sees_nothing, sees_pdu}
use Rattle.event_definitions.proofs.Each.{every_append, every_map}
use Rattle.event_definitions.specs.Safe.{AreSafe}
use Rattle.store_definitions.specs.Config.{Config, config_of, is_element}
use Rattle.layer_laws.proofs.Lists.{Inside, by_test, every_chosen, every_filter, every_flat, every_get, every_mapped, every_pick, every_set, left_false, none_any, or_left, through_fold}
use Rattle.layer_laws.proofs.Node.{IsEntry, IsSameNode, entries_of, same_element}

-- Jobs under the credentials of a network key.

pub every_under : (P : Job → Type 0) (c : Config) (net : ℕ) (job : NetMaterial → Job) → ((m : NetMaterial) → P (job m)) → Every P (under c net job)
every_under P c net job k = made (transmit_material c.nets net)
  where
    made : (o : Option NetMaterial) → Every P (option_to_list (option_map job o))
    made None = tt
    made (Some m) = (k m, tt)

-- A unicast address that is this node's is an element's.
abbrev pub IsHome : Config → Address → Type 0
IsHome c a = is_unicast a ≡ true → is_element c a.0 ≡ true

low_address : (a : Address) → is_unicast a ≡ true → a.0 < 0x8000
low_address a h = grind (arith, nat_tests, h)

pub mine_home : (c : Config) (a : Address) → is_mine c a ≡ true → IsHome c a
unfolding virtual_address
mine_home c a mine h =
    let low : a.0 < 0x8000 = low_address a h in
    let all : eqb a.0 0xffff ≡ false = grind (arith, nat_tests, low) in
    let friends : (eqb a.0 0xfffd && eqb c.friend 1) ≡ false = grind (arith, nat_tests, low) in
    let relays : (eqb a.0 0xfffe && eqb c.relay 1) ≡ false = grind (arith, nat_tests, low) in
    let groups : list_any (λ (s : Address × ℕ × Address). is_group s.2 && eqb s.2.0 a.0) c.subs ≡ false = none_any _ (λ s. grind (arith, nat_tests, low)) c.subs in
    let labels : list_any (λ (l : Address × ℕ × List ℕ). eqb (virtual_address l.2) a.0) c.labels ≡ false = none_any _ (λ l. grind (arith, nat_tests, low)) c.labels in
    or_left _ _ all (or_left _ _ friends (or_left _ _ relays (or_left _ _ groups (or_left _ _ labels mine))))

-- what the network layer has no answer to is this node's
last_test : (b : Bool) (x : Option Answer) (a : Answer) → cond b (Some a) x ≡ None → (b ≡ false) × (x ≡ None)
last_test true x a e = absurd cc
last_test false x a e = (refl, e)

not_false : (b : Bool) → not b ≡ false → b ≡ true
not_false true e = refl
not_false false e = cc

unanswered_mine : (past : Past) (r : Reading) → network_answer past r ≡ None → is_mine (config_before past) r.fields.dst ≡ true
unanswered_mine past r e =
    let sender = last_test _ _ A.BadAddress e in
    let own = last_test _ _ A.Own sender.1 in
    let again = last_test _ _ A.Cached own.1 in
    let mine = last_test _ _ A.NotMine again.1 in
    not_false (is_mine (config_before past) r.fields.dst) mine.0

lower_mine : (past : Past) (r : Reading) (low : Lower) → IsLower past (Some r) (Some low) → is_mine (config_before past) r.fields.dst ≡ true
lower_mine past r low h = (elim (network_answer past r) as (λ o. network_answer past r ≡ o → MatchOption o (IsLowerPdu r.fields (Some low)) (λ (answer : Answer). Some low ≡ None) → is_mine (config_before past) r.fields.dst ≡ true) [
  | None ↦ λ e k. unanswered_mine past r e
  | Some answer ↦ λ e k. absurd cc
]) refl h

-- Entries: a PDU with a lower transport PDU goes to this node.

abbrev pub IsHeardHere : Config → Insight → Type 0
IsHeardHere c (OfPdu (Some r) (Some low) opening) = IsHome c r.fields.dst
IsHeardHere c _ = ⊤

pdu_here : (past : Past) (reading : Option Reading) (low : Option Lower) (opening : Option Opening) → IsLower past reading low → IsHeardHere (config_before past) (OfPdu reading low opening)
pdu_here past (Some r) (Some low) opening h = mine_home (config_before past) r.fields.dst (lower_mine past r low h)
pdu_here past (Some r) None opening h = tt
pdu_here past None low opening h = tt

pub sees_here : (layers : Layers) (past : Past) (event : Event) (insight : Insight) → Sees layers past event insight → IsHeardHere (config_before past) insight
sees_here layers past _ _ (sees_pdu {reading = reading} {low = low} {opening = opening} reset r l o) = pdu_here past reading low opening l
sees_here layers past _ _ (sees_beacon reset k) = tt
sees_here layers past _ _ (sees_nothing h) = tt

here_same : (c d : Config) (insight : Insight) → IsSameNode c d → IsHeardHere d insight → IsHeardHere c insight
here_same c d (OfPdu (Some r) (Some low) opening) s h = λ u. same_element c d r.fields.dst.0 s ∙ h u
here_same c d (OfPdu (Some r) None opening) s h = tt
here_same c d (OfPdu None low opening) s h = tt
here_same c d (OfBeacon b) s h = tt
here_same c d OfNothing s h = tt

entry_here : (layers : Layers) (c : Config) (t : Told) → IsEntry layers c t → IsHeardHere c t.insight
entry_here layers c t e = here_same c (config_of t.records) t.insight e.node (sees_here layers (past_of e.before t) t.entry.event t.insight e.handles.sees)

-- Calls on reassembly.

abbrev IsHomeCall : Config → PartCall → Type 0
IsHomeCall c (take_part now h) = IsHome c h.dst
IsHomeCall c (release n) = ⊤
IsHomeCall c (tick now) = ⊤

parts_home : (c : Config) (now : ℕ) (h : PartHeard) (answer : Answer) → IsHome c h.dst → Every (IsHomeCall c) (part_calls now h answer)
parts_home c now h (A.NoRoom held) k = (k, tt)
parts_home c now h A.Conflict k = (k, tt)
parts_home c now h (A.Waiting missing) k = (k, tt)
parts_home c now h A.NoKey k = (k, (tt, tt))
parts_home c now h (A.ListFull held) k = (k, (tt, tt))
parts_home c now h (A.Delivered name dst key payload) k = (k, (tt, tt))
parts_home c now h (A.Control name dst opcode params) k = (k, (tt, tt))
parts_home c now h _ k = tt

whole_home : (c : Config) (n : Name) (answer : Answer) → Every (IsHomeCall c) (whole_calls n answer)
whole_home c n A.NoKey = (tt, tt)
whole_home c n (A.ListFull held) = (tt, tt)
whole_home c n (A.Delivered name dst key payload) = (tt, tt)
whole_home c n (A.Control name dst opcode params) = (tt, tt)
whole_home c n _ = tt

named_home : (c : Config) (now : ℕ) (d : Config) (r : Reading) (low : Lower) (answer : Answer) (n : Option Name) → IsHome c r.fields.dst → Every (IsHomeCall c) (named_calls now d r low answer n)
named_home c now d r low answer None h = tt
named_home c now d r low answer (Some n) h =
    every_pick (IsHomeCall c) (is_segment low) (part_calls now (part_heard d r n low) answer) (whole_calls n answer) (parts_home c now (part_heard d r n low) answer h) (whole_home c n answer)

message_home : (c : Config) (now : ℕ) (d : Config) (insight : Insight) (answer : Answer) → IsHeardHere c insight → Every (IsHomeCall c) (message_calls now d insight answer)
message_home c now d (OfPdu (Some r) (Some low) opening) answer h = named_home c now d r low answer (message_name r.fields low) h
message_home c now d (OfPdu (Some r) None opening) answer h = tt
message_home c now d (OfPdu None low opening) answer h = tt
message_home c now d (OfBeacon b) answer h = tt
message_home c now d OfNothing answer h = tt

tick_home : (c : Config) (answer : Answer) → Every (IsHomeCall c) (tick_calls answer)
tick_home c (A.Ticked now) = (tt, tt)
tick_home c _ = tt

calls_home : (c : Config) (now : ℕ) (told : List Told) → Every (λ t. IsHeardHere c t.insight) told → Every (IsHomeCall c) (calls_from now told)
calls_home c now [] h = tt
calls_home c now (t ∷ ts) h =
    every_append (IsHomeCall c) (calls_at now t) (calls_from (ticks_after now t.entry.answer) ts)
    (every_append (IsHomeCall c) (message_calls now (config_of t.records) t.insight t.entry.answer) (tick_calls t.entry.answer)
    (message_home c now (config_of t.records) t.insight t.entry.answer h.0) (tick_home c t.entry.answer))
    (calls_home c (ticks_after now t.entry.answer) ts h.1)

-- Messages: a timer runs only of one that goes to an element.

abbrev pub IsTimedHere : Config → Assembly → Type 0
IsTimedHere c a = is_some a.timer ≡ true → is_element c a.dst.0 ≡ true

same_dst : (a : Assembly) (h : PartHeard) → is_at_odds a h ≡ false → a.dst.0 ≡ h.dst.0
same_dst a h e = let first : not (eqb a.dst.0 h.dst.0) ≡ false = left_false _ _ (left_false _ _ (left_false _ _ (left_false _ _ e))) in grind (arith, nat_tests, first)

timer_home : (c : Config) (now : ℕ) (timer : Option Timer) (h : PartHeard) (dst : ℕ) → (is_some timer ≡ true → is_element c dst ≡ true) → dst ≡ h.dst.0 → IsHome c h.dst
    → is_some (timer_after now timer h) ≡ true → is_element c dst ≡ true
timer_home c now (Some t) h dst k e home s = k refl
timer_home c now None h dst k e home s = rw e (home (started (is_unicast h.dst) _ s))
  where
    started : (b : Bool) (t : Timer) → is_some (cond b (Some t) None) ≡ true → b ≡ true
    started true t s = refl
    started false t s = cc

heard_home : (c : Config) (a : Assembly) (now : ℕ) (h : PartHeard) → IsHome c h.dst → a.dst.0 ≡ h.dst.0 → IsTimedHere c a → IsTimedHere c (heard_by a now h)
heard_home c a now h home e k = by_test (IsTimedHere c) (is_some (piece_at a.pieces (seg_o_of h.part))) a _ (λ t. k) (λ t. timer_home c now a.timer h a.dst.0 k e home)

judged_home : (c : Config) (a : Assembly) (now : ℕ) (h : PartHeard) → IsHome c h.dst → IsTimedHere c a → IsTimedHere c (judged_after a now h)
judged_home c a now h home k = by_test (IsTimedHere c) (is_at_odds a h) a (heard_by a now h) (λ t. k) (λ t. heard_home c a now h home (same_dst a h t) k)

put_home : (c : Config) (place : ℕ) (a : Assembly) (rows : List Assembly) → IsTimedHere c a → Every (IsTimedHere c) rows → Every (IsTimedHere c) (put_message place a rows)
put_home c place a rows k h =
    every_pick (IsTimedHere c) (ltb place (length rows)) _ _ (every_set (IsTimedHere c) rows place a k h) (every_append (IsTimedHere c) rows (a ∷ []) h (k, tt))

noted_home : (c : Config) (rows : List Assembly) (now : ℕ) (h : PartHeard) → IsHome c h.dst → Every (IsTimedHere c) rows → Every (IsTimedHere c) (noted rows now h)
noted_home c rows now h home k =
    let heard : IsTimedHere c (message_for rows now h) = every_get (IsTimedHere c) rows (place_of h.name rows) (begun now h) (λ e. absurd cc) k in
    every_pick (IsTimedHere c) _ rows _ k (put_home c (place_of h.name rows) (judged_after (message_for rows now h) now h) rows (judged_home c (message_for rows now h) now h home heard) k)

rung_home : (c : Config) (now : ℕ) (a : Assembly) → IsTimedHere c a → IsTimedHere c (rung now a)
rung_home c now a k = by_test (IsTimedHere c) (is_due now a) _ a (λ t e. absurd cc) (λ t. k)

after_home : (c : Config) (rows : List Assembly) (call : PartCall) → IsHomeCall c call → Every (IsTimedHere c) rows → Every (IsTimedHere c) (after rows call)
after_home c rows (take_part now h) home k = noted_home c (live now rows) now h home (every_filter (IsTimedHere c) _ rows k)
after_home c rows (release n) home k = every_filter (IsTimedHere c) _ rows k
after_home c rows (tick now) home k = every_mapped (IsTimedHere c) (IsTimedHere c) (rung now) (rung_home c now) (live now rows) (every_filter (IsTimedHere c) _ rows k)

pub messages_home : (layers : Layers) → AreSafe layers → (past : Past) → IsPast (node_role layers) past → Every (IsTimedHere (config_before past)) (messages past)
messages_home layers safe past h =
    let c : Config = config_before past in
    let here : Every (λ (t : Told). IsHeardHere c t.insight) past.told = every_map (IsEntry layers c) (λ t. IsHeardHere c t.insight) (entry_here layers c) past.told (entries_of layers safe past h) in
    through_fold (Every (IsTimedHere c)) (IsHomeCall c) after (after_home c) [] (calls_from 0 past.told) (calls_home c 0 past.told here) tt

-- The acknowledgments that are due.

due_home : (c : Config) (now : ℕ) (a : Assembly) → IsTimedHere c a → Inside (λ d. is_element c d.dst.0 ≡ true) (due_ack now a)
due_home c now a k = by_test (Inside (λ (d : DueAck). is_element c d.dst.0 ≡ true)) (is_due now a) _ None (λ t. made a.timer k) (λ t. tt)
  where
    made : (timer : Option Timer) → (is_some timer ≡ true → is_element c a.dst.0 ≡ true) → Inside (λ (d : DueAck). is_element c d.dst.0 ≡ true) (option_map (ack_of a) timer)
    made None k = tt
    made (Some t) k = k refl

pub acks_own : (layers : Layers) → AreSafe layers → (past : Past) (c : Config) (ticks : ℕ) → IsPast (node_role layers) past → HasElements past c → Every (IsOwn c) (acks_at past c ticks)
acks_own layers safe past c ticks h s =
    let now : ℕ = later past ticks in
    let same : IsSameNode (config_before past) c = record { unicast = s.unicast; elements = s.elements } in
    let own : (d : DueAck) → is_element (config_before past) d.dst.0 ≡ true → is_element c d.dst.0 ≡ true = λ d e. sym (same_element (config_before past) c d.dst.0 same) ∙ e in
    every_flat (λ d. is_element (config_before past) d.dst.0 ≡ true) (IsOwn c) (due_jobs c)
    (λ d e. every_under (IsOwn c) c d.net (due_job d) (λ m. own d e))
    _ (every_chosen (IsTimedHere (config_before past)) (λ d. is_element (config_before past) d.dst.0 ≡ true) (due_ack now) (due_home (config_before past) now) (live now (messages past))
    (every_filter (IsTimedHere (config_before past)) _ (messages past) (messages_home layers safe past h)))
