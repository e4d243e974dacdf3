-- What waits in the Friend Queues of a node can be sent: there is a network PDU of it.
use Rattle.std.specs.Prelude.{◌<◌, ◌≤◌, ◌^◌, ⊤, List, [], ◌∷◌, length}
use Rattle.app_keys.specs.AppRows.{HasAidWidth}
use Rattle.layer_definitions.specs.Network.{HasPdu}
use Rattle.layer_states.specs.declared.friends.Friendship.{Friendship}
use Rattle.layer_states.specs.declared.friends.OwnShort.{OwnShort}
use Rattle.layer_states.specs.declared.friends.QueueEntry.{QueueEntry}
use Rattle.layer_states.specs.declared.friends.QueueEntry.TheVariants as Q
use Rattle.layer_states.specs.declared.friends.PollAnswer.{PollAnswer}
use Rattle.layer_states.specs.declared.friends.PollAnswer.TheVariants as P
use Rattle.node_friends.specs.declared.acts.FriendAct.{FriendAct}
use Rattle.node_friends.specs.declared.acts.FriendAct.TheVariants as A

-- a message of this node: TTL has 7 bits, the AID of an application key 6, and there is a payload
pub record IsSendable (m : OwnShort) : Type 0 where
  pub ttl : m.ttl < 2 ^ 7
  pub key : HasAidWidth m.key
  pub payload : 1 ≤ length m.payload

-- each PDU heard has fields of which there is a PDU, and each message of this node can be sent
abbrev pub AreSendable : List QueueEntry → Type 0
AreSendable [] = ⊤
AreSendable (Q.Heard f ∷ entries) = HasPdu f × AreSendable entries
AreSendable (Q.Own m ∷ entries) = IsSendable m × AreSendable entries

-- Of a friendship or an offer, the NID of its credentials has 7 bits, and what waits can be sent.
abbrev pub HoldsSendable : Friendship → Type 0
HoldsSendable s = (s.material.nid < 2 ^ 7) × AreSendable s.queue

-- all of them are so
abbrev pub HoldSendable : List Friendship → Type 0
HoldSendable [] = ⊤
HoldSendable (s ∷ slots) = HoldsSendable s × HoldSendable slots

-- what answers a Poll can be sent
abbrev pub IsSendableAnswer : PollAnswer → Type 0
IsSendableAnswer (P.Stored f) = HasPdu f
IsSendableAnswer (P.Own m) = IsSendable m
IsSendableAnswer answer = ⊤

-- what a control message leads to can be sent: of an answer to a Poll something is asked, and of the rest nothing
abbrev pub IsSendableAct : FriendAct → Type 0
IsSendableAct (A.Answered fsn polled) = IsSendableAnswer polled.answer
IsSendableAct act = ⊤
