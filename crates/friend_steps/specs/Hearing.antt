-- What the friendships make of a network PDU heard: what stands before it, and what it leaves.
use Rattle.std.specs.Prelude.{◌≡◌, ℕ, ◌<◌, ◌^◌, ⊤, Bool, false, IfSome, List, Option, Some, None}
use Rattle.std.specs.Option.{option_map_or}
use Rattle.app_keys.specs.AppRows.{HasAidWidth}
use Rattle.mesh_jobs.specs.Replying.{replies_sent}
use Rattle.friend_steps.specs.Replying.{ended, replied_left}
use Rattle.layer_definitions.specs.ControlReading.{control_of}
use Rattle.layer_definitions.specs.Network.{HasPdu}
use Rattle.layer_states.specs.Friends.{FriendsState, is_befriended}
use Rattle.mesh_base.specs.declared.address.Address.{Address}
use Rattle.mesh_hearing.specs.Heard.{delivered_from}
use Rattle.mesh_hearing.specs.declared.hearing.Hearing.{Hearing}
use Rattle.mesh_reading.specs.Held.{opened_in, reading_in}
use Rattle.mesh_types.specs.declared.answers.Answer.{Answer}
use Rattle.mesh_types.specs.declared.answers.Answer.TheVariants as A
use Rattle.mesh_types.specs.declared.events.Event.TheVariants as E
use Rattle.node_friends.specs.Acts.{IsActOf}
use Rattle.node_friends.specs.declared.acts.FriendAct.{FriendAct}
use Rattle.node_friends.specs.Steps.{AreFriendsOf, after_control}
use Rattle.node_layers.specs.Configuration.{ends_friendships}
use Rattle.node_layers.specs.Friendship.{act_of, config_after, friends, replies_to}
use Rattle.node_layers.specs.NodeLayers.{node_layers}
use Rattle.node_models.specs.Replies.{replies_in}
use Rattle.node_models.specs.declared.taken.MessageReplies.{MessageReplies}
use Rattle.node_records.specs.Meaning.{IsMeaningOf}
use Rattle.node_records.specs.declared.persist.Persist.{Persist}
use Rattle.event_definitions.specs.Answers.{config_before}
use Rattle.event_definitions.specs.History.{Insight, OfPdu, Past, now_of}
use Rattle.event_definitions.specs.Layers.{AccessMessage}
use Rattle.event_definitions.specs.Readings.{Sees}
use Rattle.store_definitions.specs.Config.{Config}

-- What the models made of a message in a node with friendships: its replies, the Default TTL behind it, and whether it ends the friendships.
pub record AreTaken (past : Past) (m : AccessMessage) (default : ℕ) (over : Bool) (sent : MessageReplies) : Type 0 where
  pub replies : replies_in sent ≡ replies_to past (friends past) m
  pub ttl : default ≡ (config_after (config_before past) (act_of past (friends past) m)).ttl
  pub ends : over ≡ ends_friendships (config_before past) m

-- the same of the message that an answer delivered, if it did
abbrev pub AreTakenBy : Past → Insight → Answer → ℕ → Bool → MessageReplies → Type 0
AreTakenBy past insight answer ttl ends replies =
    (m : AccessMessage) → delivered_from insight answer ≡ Some m → AreTaken past m ttl ends replies

-- After a past, the store's value says its records, these are its friendships, and this is its time.
pub record FriendsStandFor (past : Past) (p : Persist) (st : FriendsState) (now : ℕ) : Type 0 where
  pub meaning : IsMeaningOf past.records p
  pub friends : AreFriendsOf st past.told
  pub time : now ≡ now_of past.told

-- Octets were read so, after some past with these friendships.
abbrev pub IsSomeReading : FriendsState → Insight → Type 0
IsSomeReading st insight =
    (past : Past) × (octets : List ℕ) × AreFriendsOf st past.told × Sees node_layers past (E.Net octets) insight

-- Octets that were read have fields of which there is a PDU, under a NID of 7 bits; and an application key that opens a message has an AID of
-- 6 bits.
abbrev pub IsReadWell : Hearing → Type 0
IsReadWell h = IfSome (reading_in h.pdu) (λ r. HasPdu r.fields × (r.by.material.nid < 2 ^ 7))

abbrev pub IsOpenedWell : Hearing → Type 0
IsOpenedWell h = IfSome (opened_in h.pdu) (λ o. HasAidWidth o.key)

-- What a control message leaves, where the records say `c`, and what it leads to.

abbrev pub control_left : FriendsState → Config → ℕ → Insight → Answer → FriendsState
control_left st c now insight (A.Control name dst opcode params) = of_insight insight
  where
    of_insight : Insight → FriendsState
    of_insight (OfPdu (Some r) low opening) = after_control st now c r (control_of opcode params)
    of_insight _ = st
control_left st c now insight _ = st

abbrev pub IsActBy : FriendsState → Config → ℕ → Insight → Answer → FriendAct → Type 0
IsActBy st c now insight (A.Control name dst opcode params) act = of_insight insight
  where
    of_insight : Insight → Type 0
    of_insight (OfPdu (Some r) low opening) = IsActOf c st now r (control_of opcode params) act
    of_insight _ = ⊤
IsActBy st c now insight _ act = ⊤

-- What the replies to a message leave, if one was delivered, and which of them are left to be sent.

abbrev pub message_left : FriendsState → Address → ℕ → Bool → List (ℕ × List ℕ) → Insight → Answer → FriendsState
message_left st unicast ttl ends replies insight answer =
    option_map_or (λ m. replied_left st unicast ttl ends m replies) (delivered_from insight answer) st

abbrev pub replies_left : FriendsState → Bool → List (ℕ × List ℕ) → Insight → Answer → List (ℕ × List ℕ)
replies_left st ends replies insight answer =
    option_map_or (λ (m : AccessMessage). replies_sent (is_befriended (ended ends st).slots m.name.src) replies)
    (delivered_from insight answer) replies
