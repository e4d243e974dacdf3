-- Friendship in a life: what its entries do with the friendships, and what the messages of Low Power nodes ask for (Mesh Profile 1.0.1, sections
-- 3.6.6 and 3.5.5). A message of this node that goes unsegmented to an address of a friendship is stored, whether the node was asked to send
-- it, replies with it, or publishes it.
use Rattle.std.specs.Prelude.{ℕ, ◌+◌, ◌-◌, ◌==◌, ◌&&◌, nat_le, Bool, true, false, if◌then◌else◌, List, [], ◌∷◌, ◌++◌, length, map, filter, fold, Option, Some, None, is_none, Result, Ok, Err}
use Rattle.std.specs.List.{flat_map, list_any}
use Rattle.std.specs.Option.{option_map_or, option_to_list}
use Rattle.config_definitions.specs.declared.acts.ConfigAct.{ConfigAct}
use Rattle.layer_definitions.specs.Control.{control_text}
use Rattle.layer_definitions.specs.ControlReading.{control_of}
use Rattle.layer_definitions.specs.KeyRefresh.{net_row}
use Rattle.layer_definitions.specs.Network.{net_text}
use Rattle.layer_states.specs.Friends.{FriendCall, FriendsState, after, end_all, keep, list_add, list_remove, poll, put, put_own, request, tick, clear, offered, poll_result, is_cleared, is_friend, is_of, heard_of, is_noted, poll_timeouts}
use Rattle.layer_states.specs.Friends as F
use Rattle.layer_states.specs.declared.friends.FriendFault.{FriendFault}
use Rattle.layer_states.specs.declared.friends.OwnShort.{OwnShort}
use Rattle.layer_states.specs.declared.friends.PollAnswer.{PollAnswer}
use Rattle.layer_states.specs.declared.friends.PollAnswer.TheVariants as P
use Rattle.layer_states.specs.declared.friends.Polled.{Polled}
use Rattle.mesh_base.specs.declared.address.Address.{Address}
use Rattle.mesh_base.specs.declared.control.ControlMsg.{ControlMsg}
use Rattle.mesh_base.specs.declared.control.ControlMsg.TheVariants as C
use Rattle.mesh_base.specs.declared.control.Offer.{Offer}
use Rattle.mesh_base.specs.declared.control.Request.{Request}
use Rattle.mesh_base.specs.declared.fields.Heard.{Heard}
use Rattle.mesh_base.specs.declared.fields.NetMaterial.{NetMaterial}
use Rattle.mesh_base.specs.declared.keys.UpperKey.{UpperKey}
use Rattle.mesh_types.specs.declared.answers.Answer.{Answer}
use Rattle.mesh_types.specs.declared.answers.Answer.TheVariants as A
use Rattle.mesh_types.specs.declared.events.Event.{Event}
use Rattle.mesh_types.specs.declared.events.Event.TheVariants as E
use Rattle.mesh_types.specs.declared.jobs.Job.{Job}
use Rattle.mesh_types.specs.declared.jobs.Job.TheVariants as J
use Rattle.model_states.specs.Publication.{heartbeat_shown}
use Rattle.node_layers.specs.Configuration.{config_act, ends_friendships}
use Rattle.node_layers.specs.Models.{delivered_by, model_replies}
use Rattle.node_layers.specs.Publishing.{Publication, publications_due, published}
use Rattle.event_definitions.specs.Answers.{config_before, is_before_cache, name_of}
use Rattle.event_definitions.specs.Handling.{past_of}
use Rattle.event_definitions.specs.History.{Insight, OfPdu, Past, Reading, Told, now_of}
use Rattle.event_definitions.specs.Jobs.{element_address, reply_ttl, send_keys, under}
use Rattle.event_definitions.specs.Layers.{AccessMessage, ControlMessage}
use Rattle.store_definitions.specs.Config.{Config, changed}

-- Replies: of the Configuration Server, then of the models by element, each with the place of its element.

abbrev pub act_of : Past → FriendsState → AccessMessage → Option ConfigAct
act_of past st m = config_act (config_before past) (poll_timeouts st.slots) (heartbeat_shown (published past)) m

abbrev pub replies_to : Past → FriendsState → AccessMessage → List (ℕ × List ℕ)
replies_to past st m = map (λ act. (0, act.reply)) (option_to_list (act_of past st m)) ++ model_replies past m

-- what the records say after the message: its replies see it
abbrev pub config_after : Config → Option ConfigAct → Config
config_after c act = option_map_or (λ (a : ConfigAct). option_map_or (changed c) a.change c) act c

-- a message of this node that goes unsegmented
abbrev pub is_short : List ℕ → Bool
is_short payload = nat_le (length payload) 11

abbrev pub own_short : Config → AccessMessage → ℕ × List ℕ → OwnShort
own_short c m reply =
    record {
      net = m.net;
      key = m.key;
      ttl = reply_ttl c m.ttl;
      src = element_address c reply.0;
      dst = m.name.src;
      payload = reply.1;
    }

-- stored where it is short; a message to an address of no friendship is refused by the table, which then stays as it is
abbrev pub stored : List OwnShort → List FriendCall
stored messages = map put_own (filter (λ m. is_short m.payload) messages)

-- What an entry does.

-- a PDU heard under master credentials
abbrev pub heard_calls : Reading → List FriendCall
heard_calls r = if is_none r.by.lpn then put r.fields ∷ [] else []

-- it came under the credentials of the friendship, or the offer, of its own SRC
abbrev pub is_by_friend : Reading → Bool
is_by_friend r = option_map_or (λ lpn. lpn.0 == r.fields.src.0) r.by.lpn false

abbrev pub is_by_master : Reading → Bool
is_by_master r = is_none r.by.lpn

-- a Friend Request goes to all friends, with TTL 0, and to a node that is one (3.6.6.3.1)
abbrev pub is_request : Config → Reading → Bool
is_request c r = is_by_master r && r.fields.dst.0 == 0xfffd && r.fields.ttl == 0 && c.friend == 1

abbrev pub if_so : Bool → FriendCall → List FriendCall
if_so true call = call ∷ []
if_so false call = []

-- what a control message does: `own` is the first element's address, and the network key is that by which it was heard
abbrev pub control_calls : ℕ → Config → Reading → ControlMsg → List FriendCall
control_calls now c r (C.Poll fsn) = if_so (is_by_friend r) (poll now r.fields.src fsn)
control_calls now c r (C.Request q) =
    flat_map (λ net. if_so (is_request c r) (request now net (element_address c 0) r.fields.src q))
    (option_to_list (net_row c.nets r.by.index))
control_calls now c r (C.Clear l) = if_so (is_by_master r) (clear l.lpn l.lpn_counter)
control_calls now c r (C.ListAdd l) = if_so (is_by_friend r) (list_add now r.fields.src l.addresses)
control_calls now c r (C.ListRemove l) = if_so (is_by_friend r) (list_remove now r.fields.src l.addresses)
control_calls now c r _ = []

-- The octets of a stored PDU are known once it is sent, and so are kept at the Poll that it answers.
abbrev pub stored_octets : NetMaterial → Bool → Address → PollAnswer → List FriendCall
stored_octets m fsn lpn (P.Stored f) = keep lpn fsn (name_of f) (net_text m f) ∷ []
stored_octets m fsn lpn _ = []

abbrev pub answered_calls : FriendsState → ℕ → Reading → ControlMsg → List FriendCall
answered_calls st now r (C.Poll fsn) =
    if is_by_friend r then of_result (poll_result st.slots now r.fields.src fsn) else []
  where
    of_result : Result Polled FriendFault → List FriendCall
    of_result (Ok p) = stored_octets r.by.material fsn r.fields.src p.answer
    of_result (Err fault) = []
answered_calls st now r _ = []

abbrev pub ended_calls : Config → AccessMessage → List FriendCall
ended_calls c m = if ends_friendships c m then end_all ∷ [] else []

-- friendships that end do so before the reply
abbrev pub calls_of_message : Past → FriendsState → AccessMessage → List FriendCall
calls_of_message past st m =
    ended_calls (config_before past) m
    ++ stored (map (own_short (config_after (config_before past) (act_of past st m)) m) (replies_to past st m))

-- a message that the node was asked to send, if there is a key for it
abbrev pub send_calls : Config → Event → List FriendCall
send_calls c (E.Send element dst ttl key payload) =
    option_map_or (λ keys. stored (short_of keys ∷ [])) (send_keys c key) []
  where
    short_of : ℕ × UpperKey → OwnShort
    short_of keys =
        record { net = keys.0; key = keys.1; ttl = ttl; src = element_address c element; dst = dst; payload = payload }
send_calls c _ = []

abbrev pub kept_calls : Event → List FriendCall
kept_calls (E.Kept lpn fsn name pdu) = keep lpn fsn name pdu ∷ []
kept_calls _ = []

abbrev pub publication_short : Publication → OwnShort
publication_short p =
    record { net = p.net; key = p.key; ttl = p.ttl; src = p.row.element; dst = p.row.address; payload = p.payload }

-- by its answer
abbrev pub calls_by_answer : Past → FriendsState → Told → Answer → List FriendCall
calls_by_answer past st t (A.Control name dst opcode params) = of_insight t.insight
  where
    of_insight : Insight → List FriendCall
    of_insight (OfPdu (Some r) low opening) =
        let now = now_of past.told in
        let m = control_of opcode params in
        control_calls now (config_before past) r m ++ answered_calls st now r m
    of_insight _ = []
calls_by_answer past st t (A.Delivered name dst key payload) =
    option_map_or (calls_of_message past st) (delivered_by t) []
calls_by_answer past st t A.Planned = send_calls (config_before past) t.entry.event
calls_by_answer past st t A.Kept = kept_calls t.entry.event
calls_by_answer past st t (A.Ticked now) =
    tick now ∷ stored (map publication_short (publications_due past (config_before past) (now - now_of past.told)))
calls_by_answer past st t _ = []

abbrev pub heard_by : Insight → Answer → List FriendCall
heard_by (OfPdu (Some r) low opening) answer = if is_before_cache answer then [] else heard_calls r
heard_by _ answer = []

-- A PDU is stored first; then what it asks for is done.
abbrev pub friends_with : FriendsState → Past → Told → FriendsState
friends_with st past t =
    let heard = fold after st (heard_by t.insight t.entry.answer) in
    fold after heard (calls_by_answer past heard t t.entry.answer)

abbrev pub friends_from : FriendsState → List Told → List Told → FriendsState
friends_from st before [] = st
friends_from st before (t ∷ ts) = friends_from (friends_with st (past_of before t) t) (before ++ t ∷ []) ts

abbrev pub no_friends : FriendsState
no_friends = record { slots = []; offers = 0 }

-- the friendships and offers at the end of what was told
abbrev pub friends : Past → FriendsState
friends past = friends_from no_friends [] past.told

-- What the answers ask.

abbrev pub friend_keys : Past → List Heard
friend_keys past = F.friend_keys (friends past).slots

abbrev pub is_befriended : Past → Address → Bool
is_befriended past a = F.is_befriended (friends past).slots a

abbrev pub is_to_be_kept : Past → Address → Bool → Bool
is_to_be_kept past lpn fsn = list_any (is_noted lpn fsn) (friends past).slots

-- What a control message asks to be sent. All of it goes from the first element.

abbrev pub own_control : Config → ℕ → Address → ControlMsg → Option (Address × Bool) → NetMaterial → Job
own_control c ttl dst m poll_kept material = J.Control material ttl (element_address c 0) dst (control_text m) poll_kept

abbrev pub offer_jobs : Config → FriendsState → ℕ → Reading → Request → List Job
offer_jobs c st now r q = if is_request c r then of_result (offered st now r.fields.src q) else []
  where
    of_result : Result Offer FriendFault → List Job
    of_result (Ok o) = under c r.by.index (own_control c 0 r.fields.src (C.Offer o) None)
    of_result (Err fault) = []

-- flags of an Update: bit 0 where the network key is in phase 2, bit 1 where IV Update is in progress (3.6.5.2)
abbrev pub flags_of : Config → ℕ → ℕ
flags_of c net =
    (if option_map_or (λ row. row.phase == 2) (net_row c.nets net) false then 1 else 0) +
    (if c.iv.progress then 2 else 0)

abbrev pub update_of : Config → ℕ → ControlMsg
update_of c net = C.Update (record { flags = flags_of c net; iv = c.iv.current; more_data = 0 })

-- the answer to a Poll goes under the friendship credentials by which it was heard
abbrev pub answer_jobs : Config → Reading → Bool → PollAnswer → List Job
answer_jobs c r fsn P.Update =
    own_control c 0 r.fields.src (update_of c r.by.index) (Some (r.fields.src, fsn)) r.by.material ∷ []
answer_jobs c r fsn (P.Stored f) = J.Relay r.by.material f ∷ []
answer_jobs c r fsn (P.Own m) =
    J.Message m.net r.by.material m.key m.ttl m.src m.dst m.payload (Some (r.fields.src, fsn)) ∷ []
answer_jobs c r fsn (P.Repeat name pdu) = J.Repeat name pdu ∷ []
answer_jobs c r fsn P.Silent = []

-- the Friend node before this one is told, with the Default TTL
abbrev pub clear_jobs : Config → Reading → Option (Address × ℕ) → List Job
clear_jobs c r None = []
clear_jobs c r (Some told) =
    under c r.by.index (own_control c c.ttl told.0 (C.Clear (record { lpn = r.fields.src; lpn_counter = told.1 })) None)

abbrev pub poll_jobs : Config → FriendsState → ℕ → Reading → Bool → List Job
poll_jobs c st now r fsn = if is_by_friend r then of_result (poll_result st.slots now r.fields.src fsn) else []
  where
    of_result : Result Polled FriendFault → List Job
    of_result (Ok p) = answer_jobs c r fsn p.answer ++ clear_jobs c r p.clear
    of_result (Err fault) = []

-- a list message of a friendship is confirmed
abbrev pub confirm_jobs : Config → FriendsState → Reading → ℕ → List Job
confirm_jobs c st r transaction =
    if is_by_friend r && list_any (is_friend r.fields.src) st.slots
    then own_control c 0 r.fields.src (C.ListConfirm transaction) None r.by.material ∷ []
    else []

-- so is a Friend Clear that ends a friendship, with the Default TTL
abbrev pub cleared_jobs : Config → FriendsState → Reading → Address → ℕ → List Job
cleared_jobs c st r lpn counter =
    if is_by_master r && list_any (is_cleared lpn counter) st.slots
    then under c r.by.index
    (own_control c c.ttl r.fields.src (C.ClearConfirm (record { lpn = lpn; lpn_counter = counter })) None)
    else []

abbrev pub jobs_of_control : Config → FriendsState → ℕ → Reading → ControlMsg → List Job
jobs_of_control c st now r (C.Request q) = offer_jobs c st now r q
jobs_of_control c st now r (C.Poll fsn) = poll_jobs c st now r fsn
jobs_of_control c st now r (C.ListAdd l) = confirm_jobs c st r l.transaction
jobs_of_control c st now r (C.ListRemove l) = confirm_jobs c st r l.transaction
jobs_of_control c st now r (C.Clear l) = cleared_jobs c st r l.lpn l.lpn_counter
jobs_of_control c st now r _ = []

abbrev pub control_jobs : Past → Config → ControlMessage → List Job
control_jobs past c m =
    jobs_of_control c (fold after (friends past) (heard_calls m.reading)) (now_of past.told) m.reading
    (control_of m.opcode m.params)
