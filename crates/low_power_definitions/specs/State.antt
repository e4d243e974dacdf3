-- What a Low Power node knows of its friend, and what each call on it answers, sends and leaves (Mesh Profile 1.0.1, section 3.6.6). A life
-- begins with `no_friend`: all of it is lost at a power cut. There are no timers.
use Rattle.std.specs.Prelude.{ℕ, ◌+◌, ◌%◌, ◌^◌, ◌&&◌, not, nat_le, Bool, true, false, if◌then◌else◌, List, [], ◌∷◌, length, fold, Option, Some, None, Result, Ok, Err}
use Rattle.std.specs.List.{list_any}
use Rattle.std.specs.Option.{option_map, option_map_or}
use Rattle.node_limits.specs.declared.TheConstants.{FRIEND_ADDRESSES}
use Rattle.layer_definitions.specs.Control.{control_text}
use Rattle.layer_definitions.specs.KeyRefresh.{friendship_material, master_material, transmit_key}
use Rattle.layer_states.specs.Friends.{is_address, with_address}
use Rattle.layer_states.specs.Names.{is_name}
use Rattle.low_power_definitions.specs.declared.lpn.Credentials.{Credentials}
use Rattle.low_power_definitions.specs.declared.lpn.Friend.{Friend}
use Rattle.low_power_definitions.specs.declared.lpn.ListFault.{ListFault}
use Rattle.low_power_definitions.specs.declared.lpn.ListFault.TheVariants as L
use Rattle.low_power_definitions.specs.declared.lpn.LpnHeard.{LpnHeard}
use Rattle.low_power_definitions.specs.declared.lpn.LpnHeard.TheVariants.{Unasked, Repeat, Pass}
use Rattle.low_power_definitions.specs.declared.lpn.LpnJob.{LpnJob}
use Rattle.low_power_definitions.specs.declared.lpn.Standing.{Standing}
use Rattle.low_power_definitions.specs.declared.lpn.Standing.TheVariants as S
use Rattle.mesh_base.specs.declared.address.Address.{Address}
use Rattle.mesh_base.specs.declared.control.ControlMsg.{ControlMsg}
use Rattle.mesh_base.specs.declared.control.ControlMsg.TheVariants as C
use Rattle.mesh_base.specs.declared.control.Request.{Request}
use Rattle.mesh_base.specs.declared.fields.Heard.{Heard}
use Rattle.mesh_base.specs.declared.fields.NetFields.{NetFields}
use Rattle.mesh_base.specs.declared.fields.NetMaterial.{NetMaterial}
use Rattle.mesh_base.specs.declared.keys.NetKeyRow.{NetKeyRow}
use Rattle.mesh_base.specs.declared.pair.Name.{Name}

pub record LowPowerState : Type 0 where
  -- the address of its first element, and how many elements it has
  pub own : Address
  pub elements : ℕ
  -- how many Friend Requests it sent in this life, modulo 2^16
  pub seeks : ℕ
  -- whether it has a friend
  pub standing : Standing
  -- the last friend of this life, or 0000
  pub previous : Address
  -- the PDU that closed the last Poll; none after an Offer
  pub closed_by : Option Name
  -- the addresses that it asked its friends to add, each once; and how many list messages it sent in this life, modulo 2^8
  pub list : List Address
  pub lists : ℕ

abbrev pub no_friend : Address → ℕ → LowPowerState
no_friend own elements =
    record {
      own = own;
      elements = elements;
      seeks = 0;
      standing = S.Alone;
      previous = record { 0 = 0 };
      closed_by = None;
      list = [];
      lists = 0;
    }

abbrev pub friend_of : Standing → Option Friend
friend_of (S.Befriended f) = Some f
friend_of _ = None

-- The Friend Request (3.6.5.3): a queue of 2 messages at least, a ReceiveDelay of 100 milliseconds, a PollTimeout of 60 seconds. It goes to
-- all Friend nodes under the master credentials.

abbrev pub request_of : LowPowerState → Request
request_of st =
    record {
      criteria = 0x01;
      receive_delay = 0x64;
      poll_timeout = 0x000258;
      previous = st.previous;
      elements = st.elements;
      lpn_counter = st.seeks;
    }

abbrev pub request_job : LowPowerState → LpnJob
request_job st = record { dst = record { 0 = 0xfffd }; tpdu = control_text (C.Request (request_of st)); under = None }

-- It ends the friendship, and with it the open Poll.
abbrev pub sought : LowPowerState → LowPowerState
sought st = record st { seeks = (st.seeks + 1) % 2 ^ 16; standing = S.Seeking st.seeks }

-- The Friend Offer (3.6.6.4.1): the first one makes a friendship, and is answered by a Poll with FSN 0.

abbrev pub offered : Standing → Address → ℕ → Option Credentials
offered (S.Seeking lpn_counter) from friend_counter =
    Some (record { friend = from; lpn_counter = lpn_counter; friend_counter = friend_counter })
offered _ from friend_counter = None

abbrev pub befriended : LowPowerState → Credentials → LowPowerState
befriended st c =
    record st {
      standing = S.Befriended (record { credentials = c; fsn = false; polling = true });
      previous = c.friend;
      closed_by = None;
    }

-- a message to the friend goes under the friendship credentials
abbrev pub to_friend : Credentials → ControlMsg → LpnJob
to_friend c m = record { dst = c.friend; tpdu = control_text m; under = Some c }

abbrev pub offer_job : LowPowerState → Address → ℕ → Option LpnJob
offer_job st from friend_counter =
    option_map (λ c. to_friend c (C.Poll false)) (offered st.standing from friend_counter)

-- The Friend Poll (3.6.6.4.2): it is open until a PDU under the friendship credentials closes it. The next one has the other FSN.

abbrev pub poll_job : LowPowerState → Option LpnJob
poll_job st = option_map (λ f. to_friend f.credentials (C.Poll f.fsn)) (friend_of st.standing)

abbrev pub polled : Standing → Standing
polled (S.Befriended f) = S.Befriended (record f { polling = true })
polled s = s

abbrev pub is_polling : Standing → Bool
is_polling (S.Befriended f) = f.polling
is_polling _ = false

abbrev pub is_closing : Option Name → Name → Bool
is_closing closed_by n = option_map_or (λ m. is_name m n) closed_by false

-- SRC, IV Index and SEQ of a network PDU
abbrev pub name_of : NetFields → Name
name_of f = record { src = f.src; pair = record { iv = f.iv; seq = f.seq } }

-- what becomes of a PDU: whether it came under friendship credentials, and its name
abbrev pub heard_as : LowPowerState → Bool → Name → LpnHeard
heard_as st by_friend n =
    if by_friend && not (is_polling st.standing) then Unasked else if is_closing st.closed_by n then Repeat else Pass

-- a PDU under friendship credentials that passes closes the Poll
abbrev pub is_answer : Bool → LpnHeard → Bool
is_answer by_friend Pass = by_friend
is_answer by_friend _ = false

abbrev pub closed : Standing → Standing
closed (S.Befriended f) = S.Befriended (record f { fsn = not f.fsn; polling = false })
closed s = s

abbrev pub answered : LowPowerState → Name → LowPowerState
answered st n = record st { standing = closed st.standing; closed_by = Some n }

-- The Friend Subscription List Add (3.6.6.4.3), of one address. It is sent also for an address that is in the list, since a new friend doesn't
-- have it yet.

abbrev pub is_full : List Address → Address → Bool
is_full list a = not (list_any (is_address a) list) && nat_le FRIEND_ADDRESSES (length list)

abbrev pub list_job : LowPowerState → Credentials → Address → LpnJob
list_job st c a = to_friend c (C.ListAdd (record { transaction = st.lists; addresses = a ∷ [] }))

abbrev pub list_to : LowPowerState → Address → Option Friend → Result LpnJob ListFault
list_to st a None = Err L.NoFriend
list_to st a (Some f) =
    if is_full st.list a then Err (L.TooMany (length st.list)) else Ok (list_job st f.credentials a)

abbrev pub list_result : LowPowerState → Address → Result LpnJob ListFault
list_result st a = list_to st a (friend_of st.standing)

abbrev pub listed : LowPowerState → Address → LowPowerState
listed st a = record st { list = with_address st.list a; lists = (st.lists + 1) % 2 ^ 8 }

-- Credentials, by the row of the network key that the friendship goes under.

abbrev pub friend_material : Address → NetKeyRow → Credentials → NetMaterial
friend_material own net c = friendship_material (transmit_key net) own.0 c.friend.0 c.lpn_counter c.friend_counter

-- what a job is sealed under
abbrev pub job_material : Address → NetKeyRow → LpnJob → NetMaterial
job_material own net job = option_map_or (friend_material own net) job.under (master_material (transmit_key net))

-- what is heard of the friend
abbrev pub heard_of : LowPowerState → NetKeyRow → Option Heard
heard_of st net =
    option_map
    (λ f. record { index = net.index; lpn = Some st.own; fresh = false; material = friend_material st.own net f.credentials })
    (friend_of st.standing)

-- The calls, and what each leaves of the state. After a refusal it is as before.
pub data LpnCall : Type 0 where
  seek : LpnCall
  poll : LpnCall
  list : Address → LpnCall
  hear : Bool → Name → LpnCall
  offer : Address → ℕ → LpnCall

abbrev pub after_list : LowPowerState → Address → Result LpnJob ListFault → LowPowerState
after_list st a (Ok job) = listed st a
after_list st a (Err fault) = st

abbrev pub after : LowPowerState → LpnCall → LowPowerState
after st seek = sought st
after st poll = record st { standing = polled st.standing }
after st (list a) = after_list st a (list_result st a)
after st (hear by_friend n) = if is_answer by_friend (heard_as st by_friend n) then answered st n else st
after st (offer from friend_counter) = option_map_or (befriended st) (offered st.standing from friend_counter) st

-- the state after a list of calls
abbrev pub lpn : Address → ℕ → List LpnCall → LowPowerState
lpn own elements calls = fold after (no_friend own elements) calls
