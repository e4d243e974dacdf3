-- What a node answers to what it hears and to time, by the definitions of a life.
use Rattle.std.specs.Prelude.{◌≡◌, ℕ, if◌then◌else◌, List, [], ◌∷◌, ◌++◌, filter, Option, None}
use Rattle.layer_states.specs.Reassembly.{acks_due}
use Rattle.mesh_hearing.specs.Tables.{AreTablesOf, TablesView}
use Rattle.mesh_hearing.specs.declared.beacons.BeaconHearing.{BeaconHearing}
use Rattle.mesh_hearing.specs.declared.hearing.Delivered.{Delivered}
use Rattle.mesh_hearing.specs.declared.hearing.Hearing.{Hearing}
use Rattle.mesh_hearing.specs.declared.ticks.Passed.{Passed}
use Rattle.mesh_reading.specs.Held.{pdu_insight}
use Rattle.mesh_types.specs.declared.answers.Answer.{Answer}
use Rattle.mesh_types.specs.declared.answers.Answer.TheVariants as A
use Rattle.mesh_types.specs.declared.events.Event.TheVariants as E
use Rattle.node_layers.specs.NodeLayers.{node_layers}
use Rattle.node_layers.specs.Reassembly.{messages}
use Rattle.node_layers.specs.Sending as own
use Rattle.event_definitions.specs.Answers.{answer_of, config_before, later}
use Rattle.event_definitions.specs.History.{Insight, OfBeacon, OfNothing, Past, Told}
use Rattle.event_definitions.specs.Readings.{Sees}
use Rattle.event_definitions.specs.Layers.{AccessMessage}
use Rattle.event_definitions.specs.Stores.{message_of}
use Rattle.segment_sender.specs.Held.{has_round}

-- what the octets of a network PDU were read as
abbrev pub insight_of : Hearing → Insight
insight_of h = pdu_insight h.pdu

-- the message that an answer delivered, as its octets opened
abbrev pub delivered_from : Insight → Answer → Option AccessMessage
delivered_from insight (A.Delivered name dst key payload) = message_of insight name dst
delivered_from insight _ = None

-- a message that was delivered, as the definitions of a life have it
abbrev pub message_delivered : Delivered → AccessMessage
message_delivered d = record {
  name = d.name;
  dst = d.dst;
  net = d.reading.now.by.index;
  ttl = d.reading.now.fields.ttl;
  key = d.opened.now.key;
  label = d.opened.now.label;
  payload = d.opened.now.payload;
}

-- After a past, octets heard as a network PDU were read and answered so, and the tables stand for the entries with this one.
pub record IsHeard (past : Past) (octets : List ℕ) (h : Hearing) (t : TablesView) : Type 0 where
  pub sees : Sees node_layers past (E.Net octets) (insight_of h)
  pub answer : h.answer ≡ answer_of node_layers past (E.Net octets) (insight_of h)
  pub tables : (e : Told) → e.insight ≡ insight_of h → e.entry.answer ≡ h.answer → e.records ≡ past.records
      → AreTablesOf t (past.told ++ e ∷ [])

-- what the octets of a beacon were read as
abbrev pub beacon_insight : BeaconHearing → Insight
beacon_insight h = if h.reset then OfNothing else OfBeacon h.beacon

-- After a past, octets heard as a beacon were read and answered so.
pub record IsBeaconHeard (past : Past) (octets : List ℕ) (h : BeaconHearing) : Type 0 where
  pub sees : Sees node_layers past (E.Bcn octets) (beacon_insight h)
  pub answer : h.answer ≡ answer_of node_layers past (E.Bcn octets) (beacon_insight h)

-- After a past, time passed and was answered so: the acknowledgments due are those of the messages in progress, the messages that send a
-- round are those that are held, and after a Node Reset there are none. The tables stand for the entries with this one.
pub record IsPassed (past : Past) (ticks : ℕ) (passed : Passed) (t : TablesView) : Type 0 where
  pub sees : Sees node_layers past (E.Tick ticks) OfNothing
  pub answer : passed.answer ≡ answer_of node_layers past (E.Tick ticks) OfNothing
  pub acks : passed.acks ≡ (if (config_before past).reset then [] else acks_due (later past ticks) (messages past))
  pub rounds : passed.rounds.items
      ≡ (if (config_before past).reset then [] else filter (has_round (later past ticks)) (own.messages past))
  pub tables : (e : Told) → e.insight ≡ OfNothing → e.entry.answer ≡ passed.answer → AreTablesOf t (past.told ++ e ∷ [])
