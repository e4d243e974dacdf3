-- A Low Power node with its Friend node, Poll by Poll (Mesh Profile 1.0.1, section 3.6.6.4.2). Polls and answers may get lost. The messages
-- that are taken, with those that still wait, are those that came, each once and in their order.
use Rattle.std.specs.Prelude.{◌≡◌, ℕ, ◌<◌, ◌≤◌, ⊤, Bool, true, false, if◌then◌else◌, List, [], ◌∷◌, ◌++◌, length, Option, Some, None}
use Rattle.std.specs.Option.{option_map_or, option_to_list}
use Rattle.node_limits.specs.declared.TheConstants.{FRIEND_QUEUE}
use Rattle.layer_states.specs.Friends.{FriendsState, is_again, is_noted, offer_slot, poll_answer, polled, queue_left, queued, with_kept}
use Rattle.layer_states.specs.declared.friends.Friendship.{Friendship}
use Rattle.layer_states.specs.declared.friends.KeptPdu.{KeptPdu}
use Rattle.layer_states.specs.declared.friends.PollAnswer.{PollAnswer}
use Rattle.layer_states.specs.declared.friends.PollAnswer.TheVariants as P
use Rattle.layer_states.specs.declared.friends.QueueEntry.{QueueEntry}
use Rattle.layer_states.specs.declared.friends.QueueEntry.TheVariants as Q
use Rattle.low_power_definitions.specs.State.{LowPowerState, after, friend_of, hear, heard_as, is_answer, is_closing, name_of, offer, poll, request_of, seek}
use Rattle.low_power_definitions.specs.declared.lpn.Friend.{Friend}
use Rattle.low_power_definitions.specs.declared.lpn.Standing.TheVariants as S
use Rattle.mesh_base.specs.declared.address.Address.{Address}
use Rattle.mesh_base.specs.declared.fields.NetFields.{NetFields}
use Rattle.mesh_base.specs.declared.keys.NetKeyRow.{NetKeyRow}
use Rattle.mesh_base.specs.declared.pair.Name.{Name}

-- the Low Power node, and the friendship with it at its Friend node
pub record Sides : Type 0 where
  pub lpn : LowPowerState
  pub friend : Friendship

-- What happens: a message comes for the Low Power node; or it polls, and the Poll is lost, its answer is lost, or the answer is heard. Of an
-- answer: the moment, the name that an Update or an own message is sealed under, and the octets, which the Friend node notes.
pub data Turn : Type 0 where
  comes : QueueEntry → Turn
  poll_lost : Turn
  answer_lost : ℕ → Name → List ℕ → Turn
  answer_heard : ℕ → Name → List ℕ → Turn

-- FSN of the Poll
abbrev pub fsn_of : LowPowerState → Bool
fsn_of st = option_map_or (λ f. f.fsn) (friend_of st.standing) false

-- the name of the PDU that answers, if one does
abbrev pub answer_name : Name → PollAnswer → Option Name
answer_name drawn P.Update = Some drawn
answer_name drawn (P.Stored f) = Some (name_of f)
answer_name drawn (P.Own m) = Some drawn
answer_name drawn (P.Repeat n octets) = Some n
answer_name drawn P.Silent = None

abbrev pub answering : Sides → Name → Option Name
answering x drawn = answer_name drawn (poll_answer (fsn_of x.lpn) x.friend)

-- The message that the answer carries. An answer that is repeated carries what it carried before; an Update carries none.

abbrev pub first_of : List QueueEntry → Option QueueEntry
first_of [] = None
first_of (e ∷ entries) = Some e

abbrev pub carried : Bool → Friendship → Option QueueEntry
carried fsn s =
    if is_again fsn s then (if s.answered then first_of s.queue else None) else first_of (queue_left s)

-- the friendship after a Poll whose answer is noted
abbrev pub noted : Bool → Name → List ℕ → Friendship → Friendship
noted fsn n octets s = if is_noted s.lpn fsn s then with_kept n octets s else s

abbrev pub served : ℕ → Bool → Option Name → List ℕ → Friendship → Friendship
served now fsn n octets s = option_map_or (λ m. noted fsn m octets (polled now fsn s)) n (polled now fsn s)

-- whether the Low Power node takes an answer
abbrev pub takes : LowPowerState → Option Name → Bool
takes st n = option_map_or (λ m. is_answer true (heard_as st true m)) n false

abbrev pub after_answer : LowPowerState → Option Name → LowPowerState
after_answer st n = option_map_or (λ m. after st (hear true m)) n st

abbrev pub after_turn : Sides → Turn → Sides
after_turn x (comes e) = record x { friend = queued e x.friend }
after_turn x poll_lost = record x { lpn = after x.lpn poll }
after_turn x (answer_lost now drawn octets) =
    record {
      lpn = after x.lpn poll;
      friend = served now (fsn_of x.lpn) (answering x drawn) octets x.friend;
    }
after_turn x (answer_heard now drawn octets) =
    record {
      lpn = after_answer (after x.lpn poll) (answering x drawn);
      friend = served now (fsn_of x.lpn) (answering x drawn) octets x.friend;
    }

-- what comes, and what is taken

abbrev pub comers : Turn → List QueueEntry
comers (comes e) = e ∷ []
comers _ = []

abbrev pub taken : Sides → Turn → List QueueEntry
taken x (answer_heard now drawn octets) =
    if takes (after x.lpn poll) (answering x drawn) then option_to_list (carried (fsn_of x.lpn) x.friend) else []
taken x _ = []

abbrev pub all_comers : List Turn → List QueueEntry
all_comers [] = []
all_comers (turn ∷ turns) = comers turn ++ all_comers turns

abbrev pub all_taken : Sides → List Turn → List QueueEntry
all_taken x [] = []
all_taken x (turn ∷ turns) = taken x turn ++ all_taken (after_turn x turn) turns

abbrev pub at_end : Sides → List Turn → Sides
at_end x [] = x
at_end x (turn ∷ turns) = at_end (after_turn x turn) turns

-- What still waits: where the last Poll that the Friend node heard had the present FSN, its answer wasn't taken, and all of the queue waits;
-- else what was answered was taken.
abbrev pub waiting : Sides → List QueueEntry
waiting x = if is_again (fsn_of x.lpn) x.friend then x.friend.queue else queue_left x.friend

-- no message comes while the queue is full: it would take the place of another one
abbrev pub HasRoom : Sides → Turn → Type 0
HasRoom x (comes e) = length x.friend.queue < FRIEND_QUEUE
HasRoom x _ = ⊤

abbrev pub HaveRoom : Sides → List Turn → Type 0
HaveRoom x [] = ⊤
HaveRoom x (turn ∷ turns) = HasRoom x turn × HaveRoom (after_turn x turn) turns

-- What is kept of an answer that carried a PDU of another node has the name of that PDU.
abbrev pub IsKept : Friendship → Type 0
IsKept s =
    (k : KeptPdu) (f : NetFields) → s.kept ≡ Some k → s.answered ≡ true → first_of s.queue ≡ Some (Q.Heard f)
    → k.name ≡ name_of f

-- both sides know the friendship, and what was answered by a message has that message first in its queue
pub record AreFriends (x : Sides) : Type 0 where
  pub friend : Friend
  pub standing : x.lpn.standing ≡ S.Befriended friend
  pub first : x.friend.answered ≡ true → 1 ≤ length x.friend.queue
  pub kept : IsKept x.friend

-- It is so as soon as an Offer that answers a Request is taken. The Poll that follows is one that `after_turn` sends once more.

abbrev pub begun : LowPowerState → FriendsState → ℕ → NetKeyRow → Address → Sides
begun st friends now net at =
    record {
      lpn = after (after st seek) (offer at friends.offers);
      friend = offer_slot friends.offers now net at st.own (request_of st);
    }

abbrev pub BeginAsFriends : Type 0
BeginAsFriends =
    (st : LowPowerState) (friends : FriendsState) (now : ℕ) (net : NetKeyRow) (at : Address)
    → AreFriends (begun st friends now net at)

-- and it stays so
abbrev pub StayFriends : Type 0
StayFriends = (x : Sides) (turns : List Turn) → AreFriends x → HaveRoom x turns → AreFriends (at_end x turns)

abbrev pub EachOnce : Type 0
EachOnce =
    (x : Sides) (turns : List Turn) → AreFriends x → HaveRoom x turns
    → all_taken x turns ++ waiting (at_end x turns) ≡ waiting x ++ all_comers turns

-- An answer that is heard is taken, unless its name is that of the PDU that closed the Poll before.
abbrev pub AnswersAreTaken : Type 0
AnswersAreTaken =
    (x : Sides) (drawn n : Name) → AreFriends x → answering x drawn ≡ Some n → is_closing x.lpn.closed_by n ≡ false
    → takes (after x.lpn poll) (answering x drawn) ≡ true

-- An answer that carries a PDU of another node has the name of that PDU, also where it is repeated.
abbrev pub NamesAreKept : Type 0
NamesAreKept =
    (x : Sides) (drawn n : Name) (f : NetFields) → AreFriends x → answering x drawn ≡ Some n
    → carried (fsn_of x.lpn) x.friend ≡ Some (Q.Heard f) → n ≡ name_of f
