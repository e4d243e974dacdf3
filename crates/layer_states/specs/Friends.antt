-- Friendship as the Friend node keeps it (Mesh Profile 1.0.1, section 3.6.6). Times are ticks of 10 ms. `lpn` is the address of a Low Power
-- node: that of its first element.
use Rattle.std.specs.Prelude.{ℕ, ◌+◌, ◌-◌, ◌*◌, ◌%◌, ◌^◌, ◌==◌, ◌||◌, ◌&&◌, not, nat_lt, nat_le, Bool, true, false, if◌then◌else◌, List, [], ◌∷◌, ◌++◌, length, drop, map, filter, find, fold, slice_index, Option, Some, None, is_some, is_none, Result, Ok, Err}
use Rattle.std.specs.List.{list_any}
use Rattle.std.specs.Option.{option_map, option_map_or}
use Rattle.node_limits.specs.declared.TheConstants.{FRIENDSHIPS, FRIEND_QUEUE_LOG, FRIEND_QUEUE, FRIEND_ADDRESSES}
use Rattle.layer_definitions.specs.KeyRefresh.{friendship_material, transmit_key}
use Rattle.layer_states.specs.Cache.{last_of}
use Rattle.layer_states.specs.Names.{is_same, is_unicast}
use Rattle.layer_states.specs.declared.friends.FriendFault.{FriendFault}
use Rattle.layer_states.specs.declared.friends.FriendFault.TheVariants.{NoSlot, BadRequest, Stranger}
use Rattle.layer_states.specs.declared.friends.Friendship.{Friendship}
use Rattle.layer_states.specs.declared.friends.KeptPdu.{KeptPdu}
use Rattle.layer_states.specs.declared.friends.OwnShort.{OwnShort}
use Rattle.layer_states.specs.declared.friends.PollAnswer.{PollAnswer}
use Rattle.layer_states.specs.declared.friends.PollAnswer.TheVariants as P
use Rattle.layer_states.specs.declared.friends.Polled.{Polled}
use Rattle.layer_states.specs.declared.friends.QueueEntry.{QueueEntry}
use Rattle.layer_states.specs.declared.friends.QueueEntry.TheVariants as Q
use Rattle.mesh_base.specs.declared.address.Address.{Address}
use Rattle.mesh_base.specs.declared.control.Offer.{Offer}
use Rattle.mesh_base.specs.declared.control.Request.{Request}
use Rattle.mesh_base.specs.declared.fields.Heard.{Heard}
use Rattle.mesh_base.specs.declared.fields.NetFields.{NetFields}
use Rattle.mesh_base.specs.declared.keys.NetKeyRow.{NetKeyRow}
use Rattle.mesh_base.specs.declared.pair.Name.{Name}

-- The state: the friendships and offers in the order of the offers, and the number of offers in this life modulo 2^16.
pub record FriendsState : Type 0 where
  pub slots : List Friendship
  pub offers : ℕ

-- An offer becomes a friendship by its first Poll (3.6.6.4.1).
abbrev pub is_friendship : Friendship → Bool
is_friendship s = is_some s.fsn

abbrev pub is_of : Address → Friendship → Bool
is_of lpn s = s.lpn.0 == lpn.0

abbrev pub is_friend : Address → Friendship → Bool
is_friend lpn s = is_of lpn s && is_friendship s

-- those whose time isn't over
abbrev pub standing : ℕ → List Friendship → List Friendship
standing now slots = filter (λ s. nat_lt now s.until) slots

-- those of other Low Power nodes
abbrev pub others : Address → List Friendship → List Friendship
others lpn slots = filter (λ s. not (is_of lpn s)) slots

-- a change of those that pass a test
abbrev pub change_where : (Friendship → Bool) → (Friendship → Friendship) → List Friendship → List Friendship
change_where test change slots = map (λ s. if test s then change s else s) slots

-- The Friend Request (3.6.5.3, 3.6.6.3.1).

abbrev pub is_between : ℕ → ℕ → ℕ → Bool
is_between low high n = nat_le low n && nat_le n high

-- The first field outside its range, counted from 1: MinQueueSizeLog, in the low 3 bits of Criteria, is 1 to that of the queue; ReceiveDelay is at least 10
-- milliseconds; PollTimeout is 1 second to 96 hours; PreviousAddress is unassigned or unicast; there is an element, and each has a unicast
-- address.
abbrev pub field_outside : Address → Request → Option ℕ
field_outside lpn r =
    if not (is_between 1 FRIEND_QUEUE_LOG (r.criteria % 2 ^ 3)) then Some 1
    else if nat_lt r.receive_delay 0x0a then Some 2
    else if not (is_between 0x00000a 0x34bbff r.poll_timeout) then Some 3
    else if not (r.previous.0 == 0 || is_unicast r.previous) then Some 4
    else if r.elements == 0 || nat_lt 0x7fff (lpn.0 + r.elements - 1) then Some 5
    else None

-- no place is left by the others that stand
abbrev pub request_fault : ℕ → List Friendship → Address → Request → Option FriendFault
request_fault now slots lpn r =
    let held = length (others lpn (standing now slots)) in
    if nat_le FRIENDSHIPS held then Some (NoSlot held) else option_map BadRequest (field_outside lpn r)

-- ReceiveWindow of 100 milliseconds, the sizes of the queue and of the list, and an RSSI that isn't known (3.6.5.4)
abbrev pub offer_of : ℕ → Offer
offer_of counter =
    record {
      receive_window = 0x64;
      queue_size = FRIEND_QUEUE;
      subscription_list_size = FRIEND_ADDRESSES;
      rssi = 0x7f;
      friend_counter = counter;
    }

abbrev pub offered : FriendsState → ℕ → Address → Request → Result Offer FriendFault
offered st now lpn r = option_map_or Err (request_fault now st.slots lpn r) (Ok (offer_of st.offers))

-- An offer goes when no Poll comes within 1 second. The friendship credentials are made of what is sent under the network key now and
-- of both counters (3.8.6.3.1), and stay these until the friendship goes, whatever becomes of the key.
abbrev pub offer_slot : ℕ → ℕ → NetKeyRow → Address → Address → Request → Friendship
offer_slot counter now net own lpn r =
    record {
      lpn = lpn;
      own = own;
      net = net.index;
      request = r;
      until = now + 100;
      fsn = None;
      answered = false;
      kept = None;
      list = [];
      queue = [];
      material = friendship_material (transmit_key net) lpn.0 own.0 r.lpn_counter counter;
    }

-- the offer stands behind the others, in place of what stood for the same Low Power node
abbrev pub requested : FriendsState → ℕ → NetKeyRow → Address → Address → Request → FriendsState
requested st now net own lpn r =
    record {
      slots = others lpn (standing now st.slots) ++ offer_slot st.offers now net own lpn r ∷ [];
      offers = (st.offers + 1) % 2 ^ 16;
    }

-- The Friend Poll (3.6.6.4.2).

-- whether the Poll before had this FSN
abbrev pub is_again : Bool → Friendship → Bool
is_again fsn s = option_map_or (is_same fsn) s.fsn false

-- another FSN says that the message that was answered has arrived
abbrev pub queue_left : Friendship → List QueueEntry
queue_left s = if s.answered then drop 1 s.queue else s.queue

abbrev pub answer_again : Option KeptPdu → PollAnswer
answer_again None = P.Silent
answer_again (Some k) = P.Repeat k.name k.pdu

abbrev pub answer_next : List QueueEntry → PollAnswer
answer_next [] = P.Update
answer_next (Q.Heard f ∷ rest) = P.Stored f
answer_next (Q.Own m ∷ rest) = P.Own m

abbrev pub poll_answer : Bool → Friendship → PollAnswer
poll_answer fsn s = if is_again fsn s then answer_again s.kept else answer_next (queue_left s)

-- The first Poll asks for a Friend Clear to the Friend node before this one, if there was another one (3.6.6.3.1).
abbrev pub poll_clear : Friendship → Option (Address × ℕ)
poll_clear s =
    if is_none s.fsn && is_unicast s.request.previous && not (s.request.previous.0 == s.own.0)
    then Some (s.request.previous, s.request.lpn_counter)
    else None

-- a friendship goes PollTimeout, in units of 100 milliseconds, after the last of these messages: Poll, List Add, List Remove
abbrev pub renewed : ℕ → Friendship → ℕ
renewed now s = now + 10 * s.request.poll_timeout

abbrev pub is_empty : List QueueEntry → Bool
is_empty [] = true
is_empty (e ∷ es) = false

abbrev pub polled : ℕ → Bool → Friendship → Friendship
polled now fsn s =
    if is_again fsn s then record s { until = renewed now s }
    else record s {
      until = renewed now s;
      fsn = Some fsn;
      answered = not (is_empty (queue_left s));
      kept = None;
      queue = queue_left s;
    }

abbrev pub poll_result : List Friendship → ℕ → Address → Bool → Result Polled FriendFault
poll_result slots now lpn fsn =
    option_map_or (λ s. Ok (record { answer = poll_answer fsn s; clear = poll_clear s }))
    (find (is_of lpn) (standing now slots))
    (Err Stranger)

-- The octets that answered a Poll are noted for the last Poll of a friendship, once.
abbrev pub is_noted : Address → Bool → Friendship → Bool
is_noted lpn fsn s = is_of lpn s && is_again fsn s && is_none s.kept

abbrev pub with_kept : Name → List ℕ → Friendship → Friendship
with_kept name pdu s = record s { kept = Some (record { name = name; pdu = pdu }) }

-- The Friend Queue (3.6.6.4.2, 3.5.5).

-- the addresses of a Low Power node's elements
abbrev pub has_address : Friendship → Address → Bool
has_address s a = nat_le s.lpn.0 a.0 && nat_lt a.0 (s.lpn.0 + s.request.elements)

abbrev pub is_address : Address → Address → Bool
is_address a b = a.0 == b.0

-- an address of a friendship that stands
abbrev pub is_befriended : List Friendship → Address → Bool
is_befriended slots a = list_any (λ s. is_friendship s && has_address s a) slots

-- A PDU heard is stored where it is no segment and may be relayed, where the Low Power node didn't send it, and where it goes to one of
-- that node's addresses or of its list.
abbrev pub is_stored : NetFields → Friendship → Bool
is_stored f s =
    is_friendship s
    && nat_lt (slice_index f.tpdu 0) (2 ^ 7)
    && nat_le 2 f.ttl
    && not (has_address s f.src)
    && (has_address s f.dst || list_any (is_address f.dst) s.list)

-- in a full queue a message more takes the place of the oldest
abbrev pub queued : QueueEntry → Friendship → Friendship
queued e s = record s { answered = s.answered && nat_lt (length s.queue) FRIEND_QUEUE; queue = last_of FRIEND_QUEUE (s.queue ++ e ∷ []) }

-- The Friend Subscription List (3.6.6.4.3): it holds each address once, and passes over those that have no place.

abbrev pub with_address : List Address → Address → List Address
with_address list a = if list_any (is_address a) list || nat_le FRIEND_ADDRESSES (length list) then list else list ++ a ∷ []

abbrev pub list_with : List Address → List Address → List Address
list_with list added = fold with_address list added

abbrev pub list_without : List Address → List Address → List Address
list_without list removed = filter (λ a. not (list_any (is_address a) removed)) list

abbrev pub list_changed : ℕ → (List Address → List Address) → Friendship → Friendship
list_changed now change s = record s { until = renewed now s; list = change s.list }

-- a message that needs a friendship is refused where there is none
abbrev pub friend_result : Bool → Result Unit FriendFault
friend_result found = if found then Ok tt else Err Stranger

-- The Friend Clear (3.6.6.3.2): LPNCounter is 0 to 255 above the friendship's, modulo 2^16.
abbrev pub is_cleared : Address → ℕ → Friendship → Bool
is_cleared lpn counter s = is_friend lpn s && nat_lt ((counter + 2 ^ 16 - s.request.lpn_counter) % 2 ^ 16) 256

-- What is heard, and what is asked of the state.

-- what is heard under the friendship credentials
abbrev pub heard_of : Friendship → Heard
heard_of s = record { index = s.net; lpn = Some s.lpn; fresh = false; material = s.material }

abbrev pub friend_keys : List Friendship → List Heard
friend_keys slots = map heard_of slots

-- the address and the PollTimeout of each friendship
abbrev pub poll_timeouts : List Friendship → List (Address × ℕ)
poll_timeouts slots = map (λ s. (s.lpn, s.request.poll_timeout)) (filter is_friendship slots)

-- The calls on the table, and what each leaves of the state. After a refusal it is as before.
pub data FriendCall : Type 0 where
  request : ℕ → NetKeyRow → Address → Address → Request → FriendCall
  poll : ℕ → Address → Bool → FriendCall
  keep : Address → Bool → Name → List ℕ → FriendCall
  put : NetFields → FriendCall
  put_own : OwnShort → FriendCall
  list_add : ℕ → Address → List Address → FriendCall
  list_remove : ℕ → Address → List Address → FriendCall
  clear : Address → ℕ → FriendCall
  tick : ℕ → FriendCall
  end_all : FriendCall

abbrev pub slots_after : List Friendship → FriendCall → List Friendship
slots_after slots (request now net own lpn r) = slots
slots_after slots (poll now lpn fsn) =
    if list_any (is_of lpn) (standing now slots) then change_where (is_of lpn) (polled now fsn) (standing now slots)
    else slots
slots_after slots (keep lpn fsn name pdu) = change_where (is_noted lpn fsn) (with_kept name pdu) slots
slots_after slots (put f) = change_where (is_stored f) (queued (Q.Heard (record f { ttl = f.ttl - 1 }))) slots
slots_after slots (put_own m) = change_where (λ s. is_friendship s && has_address s m.dst) (queued (Q.Own m)) slots
slots_after slots (list_add now lpn added) =
    if list_any (is_friend lpn) (standing now slots)
    then change_where (is_friend lpn) (list_changed now (λ list. list_with list added)) (standing now slots)
    else slots
slots_after slots (list_remove now lpn removed) =
    if list_any (is_friend lpn) (standing now slots)
    then change_where (is_friend lpn) (list_changed now (λ list. list_without list removed)) (standing now slots)
    else slots
slots_after slots (clear lpn counter) = filter (λ s. not (is_cleared lpn counter s)) slots
slots_after slots (tick now) = standing now slots
slots_after slots end_all = []

abbrev pub after : FriendsState → FriendCall → FriendsState
after st (request now net own lpn r) =
    if is_some (request_fault now st.slots lpn r) then st else requested st now net own lpn r
after st call = record st { slots = slots_after st.slots call }

-- the state after a list of calls
abbrev pub friends : List FriendCall → FriendsState
friends calls = fold after (record { slots = []; offers = 0 }) calls
