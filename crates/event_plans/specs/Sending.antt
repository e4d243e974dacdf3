-- What the node can send, and what it is asked to send.
use Rattle.std.specs.Prelude.{◌+◌, ◌<◌, ◌≤◌, ◌^◌, ⊤, length}
use Rattle.mesh_types.specs.declared.events.Event.{Event}
use Rattle.mesh_types.specs.declared.events.Event.TheVariants as E
use Rattle.segment_sender.specs.Held.{IsOutgoing}
use Rattle.store_definitions.specs.Config.{Config}

-- A message goes from an address of 16 bits, with a TTL of 7 bits, and has an octet. A segmented message that begins is one
-- that may be sent in segments.
abbrev pub IsSendable : Config → Event → Type 0
IsSendable c (E.Send element dst ttl key payload) =
    (c.unicast.0 + element < 2 ^ 16) × (ttl < 2 ^ 7) × (1 ≤ length payload)
IsSendable c (E.Begin m) = IsOutgoing m
IsSendable c _ = ⊤

-- an event that brings neither octets heard nor time
abbrev pub IsOwn : Event → Type 0
IsOwn (E.Net octets) = ⊥
IsOwn (E.Bcn octets) = ⊥
IsOwn (E.Tick ticks) = ⊥
IsOwn _ = ⊤
