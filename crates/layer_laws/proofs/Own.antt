-- What the layers of this node send comes from an element.
use Rattle.std.proofs.Common.{◌≡◌, ℕ, suc, ◌+◌, ◌<◌, ◌≤◌, Bool, true, not, ◌&&◌, ltb, leb, List, [], ◌∷◌, ◌++◌, map, filter, remove, take, drop, sym, subst, ◌∙◌, arith, Option, Some, None, false}
use Rattle.std.specs.Prelude.{slice_get}
use Rattle.std.specs.Bool.{⊤}
use Rattle.std.specs.List.{AllByRecursion as Every, flat_map, fold}
use Rattle.std.specs.Option.{option_map_or, option_to_list}
use Rattle.std.proofs.lemmas.Bool.Decides.{nat_tests}
use Rattle.std.proofs.lemmas.List.Elements.{recursion_from_All}
use Rattle.config_definitions.proofs.Reading.{Octets}
use Rattle.config_definitions.specs.declared.acts.ConfigAct.{ConfigAct}
use Rattle.layer_definitions.specs.KeyRefresh.{transmit_app}
use Rattle.layer_definitions.specs.Network.{net_text}
use Rattle.layer_states.specs.Friends.{FriendsState}
use Rattle.layer_states.specs.Friends.{after as friends_after, tick as friend_tick}
use Rattle.layer_states.specs.Sending.{SendCall, ack, after, begin, clear, due, ends, ack_of, begun, is_due, is_full, is_last, place_of, round_of, rows_acked, stepped}
use Rattle.layer_states.specs.declared.friends.OwnShort.{OwnShort}
use Rattle.layer_states.specs.declared.sending.Sending.{Sending}
use Rattle.mesh_base.proofs.Every.{every_slot, every_take}
use Rattle.mesh_base.specs.declared.address.Address.{Address}
use Rattle.mesh_base.specs.declared.control.ControlMsg.{ControlMsg}
use Rattle.mesh_base.specs.declared.control.ControlMsg.TheVariants as C
use Rattle.mesh_base.specs.declared.fields.NetFields.{NetFields}
use Rattle.mesh_base.specs.declared.fields.NetMaterial.{NetMaterial}
use Rattle.mesh_base.specs.declared.iv_state.IvStep.{IvStep}
use Rattle.mesh_base.specs.declared.iv_state.IvStep.TheVariants as I
use Rattle.mesh_base.specs.declared.pair.Name.{Name}
use Rattle.mesh_types.specs.declared.answers.Answer.{Answer}
use Rattle.mesh_types.specs.declared.answers.Answer.TheVariants as A
use Rattle.mesh_types.specs.declared.events.Event.{Event}
use Rattle.mesh_types.specs.declared.events.Event.TheVariants as E
use Rattle.model_states.specs.Publication.{heartbeat_due, heartbeat_shown, rows_due}
use Rattle.node_layers.specs.ConfiguredLayers.{reply_job, sent_publication, sent_reply}
use Rattle.node_layers.specs.Friendship.{act_of, config_after, control_jobs, ended_calls, friends, own_short, publication_short, replies_to}
use Rattle.node_layers.specs.Models.{element_replies, elements_of, level_answer, model_replies, onoff_answer}
use Rattle.node_layers.specs.NodeLayers.{published_at, published_jobs, replies_of, reply_jobs}
use Rattle.node_layers.specs.Publishing.{Publication, heartbeat_job, heartbeat_jobs, is_own_row, is_still_held, publication_job, publication_of, publications_due, published}
use Rattle.node_layers.specs.Sending.{acknowledged, begun_calls, calls_at, calls_from, messages, round_jobs, segments_at, stepped_calls}
use Rattle.record_types.specs.declared.records.PublishRow.{PublishRow}
use Rattle.record_types.specs.declared.records.StoreRecord.{StoreRecord}
use Rattle.event_definitions.specs.Answers.{config_before, later, name_of}
use Rattle.event_definitions.specs.Fit.{HasElements, HasOwnEvents, IsOwn, IsOwnEvent}
use Rattle.event_definitions.specs.Handling.{past_of}
use Rattle.event_definitions.specs.History.{Insight, OfBeacon, OfNothing, OfPdu, Past, Told, ticks_after}
use Rattle.event_definitions.specs.Jobs.{element_address, under, segment_job}
use Rattle.event_definitions.specs.Layers.{AccessMessage, ControlMessage}
use Rattle.event_definitions.proofs.Each.{every_append}
use Rattle.event_definitions.specs.Safe.{IsChange}
use Rattle.store_definitions.specs.Config.{Config, changed, config_of, is_element}
use Rattle.layer_laws.proofs.Acts.{Acted, acted_weaker}
use Rattle.layer_laws.proofs.Changes.{every_place}
use Rattle.layer_laws.proofs.Messages.{act_acted}
use Rattle.layer_laws.proofs.FriendCalls.{EntriesGood, HeardGood, KeptGood, SendGood, control_jobs_fit, friends_good}
use Rattle.layer_laws.proofs.Friends.{every_drop}
use Rattle.layer_laws.proofs.Lists.{Inside, and_true, every_chosen, every_flat, every_flat_any, every_mapped, every_pick, every_set, option_cases, through_fold, when}
use Rattle.layer_laws.proofs.Node.{IsSameNode, change_none, same_changed, same_element, same_node, then_same}
use Rattle.layer_laws.proofs.Parts.{every_under}
use Rattle.layer_laws.proofs.Stored.{Leaf}

-- Own segmented messages.

abbrev IsFrom : Config → Sending → Type 0
IsFrom c s = is_element c s.message.name.src.0 ≡ true

abbrev IsOwnCall : Config → SendCall → Type 0
IsOwnCall c (begin now m) = is_element c m.name.src.0 ≡ true
IsOwnCall c _ = ⊤

every_remove : {A : Type 0} (P : A → Type 0) (xs : List A) (i : ℕ) → Every P xs → Every P (remove xs i)
every_remove P xs i h = every_append P (take i xs) (drop (suc i) xs) (every_take P i xs h) (every_drop P (suc i) xs h)

acked_from : (c : Config) (rows : List Sending) (from : Address) (obo : Bool) (seq_zero block : ℕ) → Every (IsFrom c) rows → Every (IsFrom c) (rows_acked rows from obo seq_zero block)
acked_from c rows from obo seq_zero block h =
    let place : ℕ = place_of from obo seq_zero rows in
    option_cases _ (slice_get rows place) (λ e. rw e h)
    (λ s e. let one : IsFrom c s = subst (Inside (IsFrom c)) e (every_slot (IsFrom c) rows place h) in
    rw e (when _ (ends (ack_of block s)) (λ t. rw t (every_remove (IsFrom c) rows place h)) (λ t. rw t (every_set (IsFrom c) rows place _ one h))))

stepped_from : (c : Config) (now : ℕ) (s : Sending) → IsFrom c s → Inside (IsFrom c) (stepped now s)
stepped_from c now s h =
    when _ (not (is_due now s)) (λ e. rw e h) (λ e. rw e (when _ (is_last s) (λ f. rw f tt) (λ f. rw f h)))

send_after : (c : Config) (rows : List Sending) (call : SendCall) → IsOwnCall c call → Every (IsFrom c) rows → Every (IsFrom c) (after rows call)
send_after c rows (begin now m) k h = every_pick (IsFrom c) (is_full rows) rows (rows ++ begun now m ∷ []) h (every_append (IsFrom c) rows (begun now m ∷ []) h (k, tt))
send_after c rows (ack from obo seq_zero block) k h = acked_from c rows from obo seq_zero block h
send_after c rows (due now) k h = every_chosen (IsFrom c) (IsFrom c) (stepped now) (stepped_from c now) rows h
send_after c rows clear k h = tt

begun_own : (c : Config) (now : ℕ) (event : Event) → IsOwnEvent c event → Every (IsOwnCall c) (begun_calls now event)
begun_own c now (E.Begin m) h = (h, tt)
begun_own c now _ h = tt

acknowledged_own : (c : Config) (from : Address) (m : ControlMsg) → Every (IsOwnCall c) (acknowledged from m)
acknowledged_own c from (C.Acknowledgment a) = (tt, tt)
acknowledged_own c from _ = tt

step_own : (c : Config) (step : IvStep) → Every (IsOwnCall c) (stepped_calls step)
step_own c (I.Recover s) = (tt, tt)
step_own c _ = tt

entry_own : (c : Config) (now : ℕ) (t : Told) → IsOwnEvent c t.entry.event → Every (IsOwnCall c) (calls_at now t)
entry_own c now t h = by_answer t.entry.answer
  where
    by_answer : (answer : Answer) → Every (IsOwnCall c) (calls_at now (record t { entry = record t.entry { answer = answer } }))
    by_answer A.Begun = begun_own c now t.entry.event h
    by_answer (A.Control name dst opcode params) = acknowledged_own c name.src _
    by_answer (A.Beacon index key iv) = step_own c iv
    by_answer (A.Ticked ticks) = (tt, tt)
    by_answer _ = tt

sends_own : (c : Config) (now : ℕ) (told : List Told) → Every (λ t. IsOwnEvent c t.entry.event) told → Every (IsOwnCall c) (calls_from now told)
sends_own c now [] h = tt
sends_own c now (t ∷ ts) h = every_append (IsOwnCall c) (calls_at now t) (calls_from (ticks_after now t.entry.answer) ts) (entry_own c now t h.0) (sends_own c (ticks_after now t.entry.answer) ts h.1)

messages_own : (past : Past) → HasOwnEvents past → Every (IsFrom (config_before past)) (messages past)
messages_own past h =
    let c : Config = config_before past in
    through_fold (Every (IsFrom c)) (IsOwnCall c) after (send_after c) [] (calls_from 0 past.told)
    (sends_own c 0 past.told (recursion_from_All (λ (t : Told). IsOwnEvent c t.entry.event) past.told h)) tt

elements_same : (past : Past) (c : Config) → HasElements past c → IsSameNode (config_before past) c
elements_same past c s = record { unicast = s.unicast; elements = s.elements }

round_own : (base c : Config) (now : ℕ) (s : Sending) → IsSameNode base c → IsFrom base s → Every (IsOwn c) (round_jobs c now s)
round_own base c now s same h =
    when _ (is_due now s && not (is_last s))
    (λ e. rw e (every_flat_any (IsOwn c) (λ seg_o. under c s.message.net (segment_job false s.message seg_o))
    (λ seg_o. every_under (IsOwn c) c s.message.net (segment_job false s.message seg_o) (λ m. sym (same_element base c s.message.name.src.0 same) ∙ h)) (round_of s)))
    (λ e. rw e tt)

pub segments_own : (past : Past) (c : Config) (ticks : ℕ) → HasOwnEvents past → HasElements past c → Every (IsOwn c) (segments_at past c ticks)
segments_own past c ticks h s =
    every_flat (IsFrom (config_before past)) (IsOwn c) (round_jobs c (later past ticks)) (λ x k. round_own (config_before past) c (later past ticks) x (elements_same past c s) k) (messages past) (messages_own past h)

-- The address of a place below the number of elements.

placed : (unicast place elements : ℕ) → place < elements → (leb unicast (unicast + place) && ltb (unicast + place) (unicast + elements)) ≡ true
placed unicast place elements h = grind (arith, nat_tests, h)

pub place_own : (c : Config) (place : ℕ) → place < c.elements → is_element c (element_address c place).0 ≡ true
place_own c place h = placed c.unicast.0 place c.elements h

-- Replies: each from a place of an element.

abbrev IsPlaced : Config → ℕ × List ℕ → Type 0
IsPlaced c reply = reply.0 < c.elements

act_placed : (c : Config) (act : Option ConfigAct) → 1 ≤ c.elements → Every (IsPlaced c) (map (λ (a : ConfigAct). (0, a.reply)) (option_to_list act))
act_placed c None h = tt
act_placed c (Some a) h = (h, tt)

replies_placed : (past : Past) (st : FriendsState) (m : AccessMessage) → 1 ≤ (config_before past).elements → Every (IsPlaced (config_before past)) (replies_to past st m)
replies_placed past st m h =
    let c : Config = config_before past in
    every_append (IsPlaced c) (map (λ (a : ConfigAct). (0, a.reply)) (option_to_list (act_of past st m))) (model_replies past m) (act_placed c (act_of past st m) h)
    (every_flat (λ e. e < c.elements) (IsPlaced c) (element_replies past c m)
    (λ element l. every_mapped (λ (payload : List ℕ). ⊤) (IsPlaced c) (λ payload. (element, payload)) (λ payload k. l) (option_to_list (onoff_answer past c element m) ++ option_to_list (level_answer past c element m)) (any_list _))
    (elements_of c) (every_place 0 c.elements c.elements (omega arith)))
  where
    any_list : (xs : List (List ℕ)) → Every (λ (x : List ℕ). ⊤) xs
    any_list [] = tt
    any_list (x ∷ xs) = (tt, any_list xs)

same_place : (base c : Config) (place : ℕ) → IsSameNode base c → place < base.elements → place < c.elements
same_place base c place s h = rw s.elements h

sent_reply_own : (past : Past) (c : Config) (m : AccessMessage) → HasElements past c → (reply : ℕ × List ℕ) → IsPlaced (config_before past) reply → Every (IsOwn c) (sent_reply c m reply)
sent_reply_own past c m s reply k =
    every_under (IsOwn c) c m.net (reply_job c m reply) (λ material. place_own c reply.0 (same_place (config_before past) c reply.0 (elements_same past c s) k))

pub replies_own : (past : Past) (c : Config) (m : AccessMessage) → 1 ≤ (config_before past).elements → HasElements past c → Every (IsOwn c) (replies_of past c m)
replies_own past c m h s =
    let st : FriendsState = fold friends_after (friends past) (ended_calls (config_before past) m) in
    every_flat (IsPlaced (config_before past)) (IsOwn c) (reply_jobs c st m)
    (λ reply k. every_pick (IsOwn c) _ [] (sent_reply c m reply) tt (sent_reply_own past c m s reply k))
    (replies_to past (friends past) m) (replies_placed past (friends past) m h)

-- What is published: rows of this node's own elements.

abbrev IsOwnPublication : Config → Publication → Type 0
IsOwnPublication c p = is_element c p.row.element.0 ≡ true

row_own : (c : Config) (row : PublishRow) → is_still_held c row ≡ true → is_element c row.element.0 ≡ true
row_own c row e = (and_true (is_element c row.element.0) _ (and_true (is_own_row c row) _ e).0).0

every_passed : {A : Type 0} (test : A → Bool) (xs : List A) → Every (λ x. test x ≡ true) (filter test xs)
every_passed test [] = tt
every_passed test (x ∷ xs) = when _ (test x) (λ e. rw e (e, every_passed test xs)) (λ e. rw e (every_passed test xs))

publication_own : (past : Past) (c : Config) (now : ℕ) (row : PublishRow) → is_still_held c row ≡ true → Inside (IsOwnPublication c) (publication_of past c now row)
publication_own past c now row e =
    option_cases _ (transmit_app c.apps c.nets row.app) (λ f. rw f tt) (λ keys f. rw f (row_own c row e))

due_own : (past : Past) (c : Config) (ticks : ℕ) → Every (IsOwnPublication c) (publications_due past c ticks)
due_own past c ticks =
    let now : ℕ = later past ticks in
    every_chosen (λ row. is_still_held c row ≡ true) (IsOwnPublication c) (publication_of past c now) (publication_own past c now) (filter (is_still_held c) (rows_due (published past) now)) (every_passed (is_still_held c) (rows_due (published past) now))

heartbeat_own : (past : Past) (c : Config) (ticks : ℕ) → 1 ≤ c.elements → Every (IsOwn c) (heartbeat_jobs past c ticks)
heartbeat_own past c ticks h =
    option_cases _ (heartbeat_due (published past) (later past ticks)) (λ e. rw e tt) (λ row e. rw e (every_under (IsOwn c) c row.net (heartbeat_job c row) (λ material. place_own c 0 h)))

sent_publication_own : (c : Config) (p : Publication) → IsOwnPublication c p → Every (IsOwn c) (sent_publication c p)
sent_publication_own c p k = every_under (IsOwn c) c p.net (publication_job p) (λ material. k)

pub published_own : (past : Past) (c : Config) (ticks : ℕ) → 1 ≤ c.elements → Every (IsOwn c) (published_at past c ticks)
published_own past c ticks h =
    let st : FriendsState = friends_after (friends past) (friend_tick (later past ticks)) in
    every_append (IsOwn c) (flat_map (published_jobs c st) (publications_due past c ticks)) (heartbeat_jobs past c ticks)
    (every_flat (IsOwnPublication c) (IsOwn c) (published_jobs c st)
    (λ p k. every_pick (IsOwn c) _ [] (sent_publication c p) tt (sent_publication_own c p k))
    (publications_due past c ticks) (due_own past c ticks))
    (heartbeat_own past c ticks h)

-- Messages of this node in a queue.

module _ (base : Config) (some : 1 ≤ base.elements) where
  abbrev AnyPdu : NetFields → Type 0
  AnyPdu f = ⊤

  abbrev AnyKept : Name → List ℕ → Type 0
  AnyKept name octets = ⊤

  abbrev Own : OwnShort → Type 0
  Own m = is_element base m.src.0 ≡ true

  lowered : (f : NetFields) (ttl : ℕ) → AnyPdu f → AnyPdu (record f { ttl = ttl })
  lowered f ttl h = tt

  texts : (m : NetMaterial) (f : NetFields) → AnyPdu f → AnyKept (name_of f) (net_text m f)
  texts m f h = tt

  any_heard : (insight : Insight) (answer : Answer) → HeardGood AnyPdu AnyKept Own lowered texts insight answer
  any_heard (OfPdu (Some r) low opening) answer = λ e. tt
  any_heard (OfPdu None low opening) answer = tt
  any_heard (OfBeacon b) answer = tt
  any_heard OfNothing answer = tt

  any_kept : (event : Event) → KeptGood AnyPdu AnyKept Own lowered texts event
  any_kept (E.Kept lpn fsn name pdu) = tt
  any_kept _ = tt

  at_place : (c : Config) (place : ℕ) → IsSameNode base c → place < base.elements → is_element base (element_address c place).0 ≡ true
  at_place c place s h = same_element base c (element_address c place).0 s ∙ place_own c place (same_place base c place s h)

  send_own : (c : Config) (event : Event) → IsSameNode base c → IsOwnEvent base event → SendGood AnyPdu AnyKept Own lowered texts c event
  send_own c (E.Send element dst ttl key payload) s h = λ keys. at_place c element s h
  send_own c _ s h = tt

  -- the records of an act leave the elements
  after_act : (c : Config) (act : Option ConfigAct) → Acted IsChange act → IsSameNode c (config_after c act)
  after_act c None h = same_node c
  after_act c (Some a) h = by_change a.change h.change
    where
      by_change : (change : Option StoreRecord) → Inside IsChange change → IsSameNode c (option_map_or (changed c) change c)
      by_change None k = same_node c
      by_change (Some item) k = same_changed c item (change_none item k)

  replied_own : (past : Past) → IsSameNode base (config_before past) → (st : FriendsState) (m : AccessMessage)
      → Every Own (map (own_short (config_after (config_before past) (act_of past st m)) m) (replies_to past st m))
  replied_own past s st m =
      let c : Config = config_before past in
      let act : Option ConfigAct = act_of past st m in
      let same : IsSameNode base (config_after c act) =
      then_same base c (config_after c act) s (after_act c act (acted_weaker (Leaf c (Octets m.payload)) IsChange (λ item l. l.change) act (act_acted c _ (heartbeat_shown (published past)) m))) in
      every_mapped (IsPlaced c) Own (own_short (config_after c act) m) (λ reply k. at_place (config_after c act) reply.0 same (rw (← s.elements) k)) (replies_to past st m) (replies_placed past st m (rw s.elements some))

  publishes_own : (past : Past) → IsSameNode base (config_before past) → (ticks : ℕ) → Every Own (map publication_short (publications_due past (config_before past) ticks))
  publishes_own past s ticks =
      every_mapped (IsOwnPublication (config_before past)) Own publication_short (λ p k. same_element base (config_before past) p.row.element.0 s ∙ k) (publications_due past (config_before past) ticks) (due_own past (config_before past) ticks)

  entries_own : (before ts : List Told) → Every (λ t. IsSameNode base (config_of t.records)) ts → Every (λ t. IsOwnEvent base t.entry.event) ts
      → EntriesGood AnyPdu AnyKept Own lowered texts before ts
  entries_own before [] h k = tt
  entries_own before (t ∷ ts) h k = (
    record {
      heard = any_heard t.insight t.entry.answer;
      kept = λ a. any_kept t.entry.event;
      sent = send_own (config_of t.records) t.entry.event h.0 k.0;
      replied = replied_own (past_of before t) h.0;
      publishes = publishes_own (past_of before t) h.0;
    },
    entries_own (before ++ t ∷ []) ts h.1 k.1,
  )

  pub control_own : (past : Past) (c : Config) (m : ControlMessage) → Every (λ t. IsSameNode base (config_of t.records)) past.told → Every (λ t. IsOwnEvent base t.entry.event) past.told
      → IsSameNode base c → Every (IsOwn c) (control_jobs past c m)
  control_own past c m h k s =
      control_jobs_fit AnyPdu AnyKept Own lowered texts c (IsOwn c)
      (λ material ttl dst tpdu kept. place_own c 0 (same_place base c 0 s some)) (λ material f h. tt)
      (λ material o kept h. sym (same_element base c o.src.0 s) ∙ h) (λ name pdu h. tt) past m
      (friends_good AnyPdu AnyKept Own lowered texts past (entries_own [] past.told h k))
