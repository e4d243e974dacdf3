-- By computation.
use Rattle.std.proofs.Common.{refl}
use Rattle.cipher_definitions.specs.Octets.{octets_of}
use Rattle.layer_definitions.specs.IvIndex.{iv_due, iv_next}
use Rattle.layer_definitions.specs.Lower.{lower_text, seq_auth}
use Rattle.mesh_base.specs.IvState.{transmit_of}
use Rattle.node_layers.specs.BuiltLayers.{built_layers}
use Rattle.node_layers.specs.ConfiguredLayers.{configured_layers}
use Rattle.node_layers.specs.NodeLayers.{node_layers}
use Rattle.event_definitions.specs.Answers.{answer_of}
use Rattle.event_definitions.specs.Jobs.{jobs_of}
use Rattle.event_definitions.specs.Stores.{stores}
use Rattle.store_definitions.specs.Config.{changed}
use Rattle.worked_layers.specs.Sending.{EightAreHeld, PdusGoOn, SegmentsAreSent, UpdateWaits}

pub pdus_go_on : PdusGoOn
unfolding node_layers configured_layers built_layers answer_of jobs_of stores changed
pdus_go_on net_key dev_key pdu = record { goes_on = refl; with_one = refl; with_none = refl }

pub eight_are_held : EightAreHeld
unfolding node_layers configured_layers built_layers answer_of jobs_of stores changed seq_auth lower_text octets_of
eight_are_held net_key dev_key pdu = record { waits = refl; no_room = refl; room_again = refl }

pub segments_are_sent : SegmentsAreSent
unfolding node_layers configured_layers built_layers answer_of jobs_of stores changed seq_auth lower_text octets_of transmit_of
segments_are_sent net_key dev_key pdu u v = record { plans = refl; begins = refl; full = refl }

pub update_waits : UpdateWaits
unfolding node_layers configured_layers built_layers answer_of jobs_of stores changed seq_auth lower_text octets_of transmit_of iv_next iv_due
update_waits net_key dev_key pdu u v = record { waits = refl; ends = refl; sends_again = refl; not_before = refl; not_acknowledged = refl }
