-- The kind of an event.
use Rattle.mesh_types.specs.declared.events.Event.{Event}
use Rattle.mesh_types.specs.declared.events.Event.TheVariants as E
use Rattle.mesh_types.specs.declared.events.Kind.{Kind}
use Rattle.mesh_types.specs.declared.events.Kind.TheVariants as K
use Rattle.mesh_types.specs.declared.low_power.LowPowerEvent.{LowPowerEvent}
use Rattle.mesh_types.specs.declared.low_power.LowPowerEvent.TheVariants as P

abbrev pub low_power_kind : LowPowerEvent → Kind
low_power_kind P.Seek = K.Seek
low_power_kind P.Poll = K.Poll
low_power_kind (P.List a) = K.List

-- the kind of an event, as the report shows it
abbrev pub kind_of : Event → Kind
kind_of (E.Net octets) = K.Net
kind_of (E.Bcn octets) = K.Bcn
kind_of (E.Send element dst ttl key payload) = K.Send
kind_of (E.Raw dst ttl tpdu) = K.Raw
kind_of (E.Tick ticks) = K.Tick
kind_of (E.Begin message) = K.Begin
kind_of (E.Kept lpn fsn name pdu) = K.Kept
kind_of (E.LowPower event) = low_power_kind event
