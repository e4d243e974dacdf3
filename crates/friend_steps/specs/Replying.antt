-- What the replies to a message leave of the friendships.
use Rattle.std.specs.Prelude.{ℕ, ◌+◌, ◌==◌, Bool, if◌then◌else◌, List, map}
use Rattle.layer_states.specs.Friends.{FriendsState, after, end_all}
use Rattle.layer_states.specs.declared.friends.OwnShort.{OwnShort}
use Rattle.mesh_base.specs.declared.address.Address.{Address}
use Rattle.node_friends.specs.Steps.{after_sent}
use Rattle.event_definitions.specs.Layers.{AccessMessage}

-- where a message ends the friendships, it does so before its replies
abbrev pub ended : Bool → FriendsState → FriendsState
ended ends st = if ends then after st end_all else st

-- a reply as a message of a node whose first element has this address, with this Default TTL
abbrev pub reply_short : Address → ℕ → AccessMessage → ℕ × List ℕ → OwnShort
reply_short unicast ttl m reply =
    record {
      net = m.net;
      key = m.key;
      ttl = if m.ttl == 0 then 0 else ttl;
      src = record { 0 = unicast.0 + reply.0 };
      dst = m.name.src;
      payload = reply.1;
    }

abbrev pub replied_left : FriendsState → Address → ℕ → Bool → AccessMessage → List (ℕ × List ℕ) → FriendsState
replied_left st unicast ttl ends m replies = after_sent (ended ends st) (map (reply_short unicast ttl m) replies)
