-- The jobs of a network PDU heard, by how far its octets were read.
use Rattle.std.proofs.Common.{◌≡◌, ℕ, true, false, List, [], refl, ap, Some, None}
use Rattle.mesh_jobs.specs.Hearing.{insight_read, read_jobs}
use Rattle.mesh_reading.specs.Held.{pdu_insight, reading_in, reading_of, opening_of}
use Rattle.mesh_reading.specs.declared.heard.HeardPdu.{HeardPdu}
use Rattle.mesh_reading.specs.declared.heard.HeardPdu.TheVariants as H
use Rattle.mesh_types.specs.declared.answers.Answer.{Answer}
use Rattle.mesh_types.specs.declared.events.Event.TheVariants as E
use Rattle.network_layer.specs.declared.reading.NetReading.{NetReading}
use Rattle.node_layers.specs.NodeLayers.{node_layers}
use Rattle.event_definitions.proofs.Accepting.{some_is}
use Rattle.event_definitions.specs.Answers.{is_before_cache}
use Rattle.event_definitions.specs.History.{OfPdu, Past}
use Rattle.event_definitions.specs.Jobs.{jobs_of}
use Rattle.store_definitions.specs.Config.{Config}

-- a PDU that read is read so
pub read_is : (h : HeardPdu) (r : NetReading) → reading_in h ≡ Some r → pdu_insight h ≡ insight_read r h
read_is H.Reset r e = absurd cc
read_is H.Unread r e = absurd cc
read_is (H.Network x) r e = ap (λ (y : NetReading). OfPdu (Some (reading_of y)) None None) (some_is e)
read_is (H.Lower x low) r e = ap (λ (y : NetReading). OfPdu (Some (reading_of y)) (Some low) None) (some_is e)
read_is (H.Opened x low o) r e = ap (λ (y : NetReading). OfPdu (Some (reading_of y)) (Some low) (Some (opening_of o))) (some_is e)

-- octets that don't read ask for nothing
pub none_read : (past : Past) (c : Config) (octets : List ℕ) (h : HeardPdu) (a : Answer) → reading_in h ≡ None
    → [] ≡ jobs_of node_layers past c (E.Net octets) (pdu_insight h) a
unfolding jobs_of
none_read past c octets H.Reset a e = refl
none_read past c octets H.Unread a e = refl
none_read past c octets (H.Network x) a e = absurd cc
none_read past c octets (H.Lower x low) a e = absurd cc
none_read past c octets (H.Opened x low o) a e = absurd cc

-- nor does a PDU that has its answer before the message cache
pub none_before : (past : Past) (c : Config) (octets : List ℕ) (r : NetReading) (h : HeardPdu) (a : Answer) → is_before_cache a ≡ true
    → [] ≡ jobs_of node_layers past c (E.Net octets) (insight_read r h) a
unfolding jobs_of
none_before past c octets r h a e = rw e refl

pub jobs_read : (past : Past) (c : Config) (octets : List ℕ) (r : NetReading) (h : HeardPdu) (a : Answer) → is_before_cache a ≡ false
    → read_jobs past c r h a ≡ jobs_of node_layers past c (E.Net octets) (insight_read r h) a
unfolding jobs_of
jobs_read past c octets r h a e = rw e refl
