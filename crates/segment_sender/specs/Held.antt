-- What is known of the messages that are held, and which of them send a round.
use Rattle.std.specs.Prelude.{◌≡◌, ℕ, ◌<◌, ◌≤◌, ◌^◌, ◌&&◌, not, Bool, IsFalse, All, length}
use Rattle.layer_definitions.specs.Lower.{last_segment}
use Rattle.layer_states.specs.Sending.{is_due, is_last}
use Rattle.mesh_types.specs.declared.events.Outgoing.{Outgoing}
use Rattle.layer_states.specs.declared.sending.Sending.{Sending}

-- A message in segments: its upper transport PDU is that of some payload, SEQ has 24 bits, TTL 7 and AID 6, and AID is 0 without an
-- application key. What is sealed is so.
pub record IsOutgoing (m : Outgoing) : Type 0 where
  pub least : 5 ≤ length m.upper
  pub seq : m.name.pair.seq < 2 ^ 24
  pub ttl : m.ttl < 2 ^ 7
  pub aid : m.aid < 2 ^ 6
  pub device : IsFalse m.akf → m.aid ≡ 0

-- what is known of a message that is held: no piece is left behind its last one
pub record IsHeldWell (s : Sending) : Type 0 where
  pub message : IsOutgoing s.message
  pub left : All (λ i. i ≤ last_segment s.message.upper) s.left

-- whether a message sends a round at this time
abbrev pub has_round : ℕ → Sending → Bool
has_round now s = is_due now s && not (is_last s)
