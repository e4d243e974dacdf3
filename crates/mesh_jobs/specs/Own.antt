-- What is asked of the node's own messages.
use Rattle.std.specs.Prelude.{◌≡◌, ◌+◌, ◌<◌, ◌^◌, ⊤, Bool}
use Rattle.mesh_types.specs.declared.events.Event.{Event}
use Rattle.mesh_types.specs.declared.events.Event.TheVariants as E
use Rattle.event_definitions.specs.History.{Past}
use Rattle.event_definitions.specs.Layers.{Layers}
use Rattle.store_definitions.specs.Config.{Config}

-- An event that asks for at most one job: nothing was heard as a network PDU, no time passed, and no segments begin. A message is sent by an
-- address of 16 bits.
abbrev pub IsSingle : Config → Event → Type 0
IsSingle c (E.Net octets) = ⊥
IsSingle c (E.Tick ticks) = ⊥
IsSingle c (E.Begin m) = ⊥
IsSingle c (E.Send element dst ttl key payload) = c.unicast.0 + element < 2 ^ 16
IsSingle c _ = ⊤

-- whether the layers say that the message of an event goes to an address of a friendship
abbrev pub IsBefriended : Layers → Past → Event → Bool → Type 0
IsBefriended layers past (E.Send element dst ttl key payload) befriended = befriended ≡ layers.is_befriended past dst
IsBefriended layers past _ befriended = ⊤
