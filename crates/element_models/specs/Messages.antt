-- What the code has of an access message and of a reply, as the definitions of a life have it.
use Rattle.std.specs.Prelude.{ℕ, ◌≤◌, List, length}
use Rattle.element_models.specs.declared.message.Message.{Message}
use Rattle.element_models.specs.declared.taken.Reply.{Reply}
use Rattle.event_definitions.specs.Layers.{AccessMessage}

abbrev pub message_in : Message → AccessMessage
message_in m =
    record {
      name = m.name;
      dst = m.dst;
      net = m.net;
      ttl = m.ttl;
      key = m.key;
      label = m.label;
      payload = m.payload.now;
    }

-- the place of the element, and the payload
abbrev pub reply_in : Reply → ℕ × List ℕ
reply_in r = (r.element, r.payload)

-- a reply has an octet
abbrev pub HasOctet : ℕ × List ℕ → Type 0
HasOctet reply = 1 ≤ length reply.1
