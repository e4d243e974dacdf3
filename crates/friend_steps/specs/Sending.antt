-- A message that the node is asked to send.
use Rattle.std.specs.Prelude.{◌+◌, ◌<◌, ◌≤◌, ◌^◌, length}
use Rattle.mesh_types.specs.declared.events.Event.{Event}
use Rattle.mesh_types.specs.declared.events.Event.TheVariants as E
use Rattle.store_definitions.specs.Config.{Config}

-- It goes from an address of 16 bits; TTL has 7 bits, and there is a payload.
abbrev pub IsSend : Config → Event → Type 0
IsSend c (E.Send element dst ttl key payload) = (c.unicast.0 + element < 2 ^ 16) × (ttl < 2 ^ 7) × (1 ≤ length payload)
IsSend c _ = ⊥
