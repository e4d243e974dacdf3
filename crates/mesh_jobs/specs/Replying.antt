-- The replies to a message that was delivered.
use Rattle.std.specs.Prelude.{◌≡◌, ℕ, ◌&&◌, not, ⊤, Bool, List, [], None, Some, filter, fold}
use Rattle.layer_states.specs.Friends.{after, is_befriended}
use Rattle.mesh_base.specs.declared.address.Address.{Address}
use Rattle.mesh_base.specs.declared.keys.UpperKey.{UpperKey}
use Rattle.mesh_types.specs.declared.answers.Answer.{Answer}
use Rattle.mesh_types.specs.declared.answers.Answer.TheVariants as A
use Rattle.network_layer.specs.declared.reading.NetReading.{NetReading}
use Rattle.node_layers.specs.Friendship.{ended_calls, friends, is_short, replies_to}
use Rattle.node_models.specs.Replies.{replies_in}
use Rattle.node_models.specs.declared.taken.MessageReplies.{MessageReplies}
use Rattle.event_definitions.specs.Answers.{config_before}
use Rattle.event_definitions.specs.History.{Insight, Past}
use Rattle.event_definitions.specs.Layers.{AccessMessage}
use Rattle.event_definitions.specs.Stores.{message_of}

-- of replies to an address, which may be that of a friendship, those that are sent: a short one to a friendship is stored
abbrev pub replies_sent : Bool → List (ℕ × List ℕ) → List (ℕ × List ℕ)
replies_sent befriended replies = filter (λ (reply : ℕ × List ℕ). not (befriended && is_short reply.1)) replies

-- whether the source of a message has a friendship that still stands when it is replied to: the message may have ended them all
abbrev pub is_source_befriended : Past → AccessMessage → Bool
is_source_befriended past m =
    is_befriended (fold after (friends past) (ended_calls (config_before past) m)).slots m.name.src

-- These are the replies that are sent to the message that an answer delivered. Of another answer nothing is asked: it has no replies.
abbrev pub AreRepliesTo : Past → Insight → Answer → MessageReplies → Type 0
AreRepliesTo past insight (A.Delivered name dst key payload) replies =
    (m : AccessMessage) → message_of insight name dst ≡ Some m
    → replies_in replies ≡ replies_sent (is_source_befriended past m) (replies_to past (friends past) m)
AreRepliesTo past insight _ replies = ⊤

-- A message from this source that was read so and opened under this key, as far as the jobs of its replies go by it: by
-- its source, the network key index and the TTL that it was heard with, and the key. What else it says is left out.
abbrev pub heard_as : NetReading → UpperKey → Address → AccessMessage
heard_as r key src = record {
  name = record { src = src; pair = record { iv = r.fields.iv; seq = r.fields.seq } };
  dst = r.fields.dst;
  net = r.by.index;
  ttl = r.fields.ttl;
  key = key;
  label = None;
  payload = [];
}
