-- What a node holds to read and to open with, and what was read and opened.
use Rattle.std.specs.Prelude.{Option, Some, None}
use Rattle.layer_definitions.specs.KeyRefresh.{net_index, app_index, AreBound}
use Rattle.layer_definitions.specs.Order.{IsByIndex}
use Rattle.mesh_base.specs.declared.lower.Lower.{Lower}
use Rattle.mesh_reading.specs.declared.heard.HeardPdu.{HeardPdu}
use Rattle.mesh_reading.specs.declared.heard.HeardPdu.TheVariants as H
use Rattle.mesh_reading.specs.declared.opening.Opened.{Opened}
use Rattle.network_layer.specs.declared.reading.NetReading.{NetReading}
use Rattle.event_definitions.specs.History.{Opening, Reading, Insight, OfNothing, OfPdu}
use Rattle.event_definitions.specs.Readings.{labels_tried}
use Rattle.mesh_reading.specs.Keys.{HeldKeys}
use Rattle.store_definitions.specs.Config.{Config}

-- what the records of a node say of its keys
abbrev pub held_in : Config → HeldKeys
held_in c = record { nets = c.nets; apps = c.apps; device = c.dev_key; labels = labels_tried c }

-- Keys that a node may hold: network keys and application keys stand by index, and the network key of each application key is held. A
-- caller has this of the records of each node that can be run.
pub record AreHeldKeys (c : Config) : Type 0 where
  pub nets : IsByIndex net_index c.nets
  pub apps : IsByIndex app_index c.apps
  pub bound : AreBound c.apps c.nets

-- a reading and an opening, as the definitions of a life have them
abbrev pub reading_of : NetReading → Reading
reading_of r = record { fields = r.fields; by = r.by }

abbrev pub opening_of : Opened → Opening
opening_of o = record { key = o.key; label = o.label; payload = o.payload }

-- what octets heard as a network PDU were read as, as the definitions of a life have it
abbrev pub pdu_insight : HeardPdu → Insight
pdu_insight H.Reset = OfNothing
pdu_insight H.Unread = OfPdu None None None
pdu_insight (H.Network r) = OfPdu (Some (reading_of r)) None None
pdu_insight (H.Lower r low) = OfPdu (Some (reading_of r)) (Some low) None
pdu_insight (H.Opened r low o) = OfPdu (Some (reading_of r)) (Some low) (Some (opening_of o))

-- the network PDU, the lower transport PDU, and what an access message opened to, where there are such
abbrev pub reading_in : HeardPdu → Option NetReading
reading_in H.Reset = None
reading_in H.Unread = None
reading_in (H.Network r) = Some r
reading_in (H.Lower r low) = Some r
reading_in (H.Opened r low o) = Some r

abbrev pub low_in : HeardPdu → Option Lower
low_in (H.Lower r low) = Some low
low_in (H.Opened r low o) = Some low
low_in _ = None

abbrev pub opened_in : HeardPdu → Option Opened
opened_in (H.Opened r low o) = Some o
opened_in _ = None
