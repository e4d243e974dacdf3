-- By computation.
use Rattle.std.proofs.Common.{refl}
use Rattle.cipher_definitions.specs.Octets.{octets_of}
use Rattle.config_definitions.specs.Answers.{message_act}
use Rattle.config_definitions.specs.Messages.{app_key_in, config_message, key_in, message_of}
use Rattle.layer_definitions.specs.Lower.{lower_text, seq_auth}
use Rattle.node_layers.specs.BuiltLayers.{built_layers}
use Rattle.node_layers.specs.ConfiguredLayers.{configured_layers}
use Rattle.node_layers.specs.NodeLayers.{node_layers}
use Rattle.event_definitions.specs.Answers.{answer_of}
use Rattle.event_definitions.specs.Jobs.{jobs_of}
use Rattle.event_definitions.specs.Stores.{stores}
use Rattle.store_definitions.specs.Config.{changed}
use Rattle.worked_layers.specs.Segments.{SegmentsHeard, SegmentsRepeated, SegmentsTimed, SegmentsUnopened}

pub segments_heard : SegmentsHeard
unfolding node_layers configured_layers built_layers answer_of jobs_of stores changed seq_auth lower_text message_act config_message message_of app_key_in key_in octets_of
segments_heard net_key dev_key a b piece_a piece_b = record { waits = refl; delivers = refl; stores = refl; waits_too = refl; delivers_too = refl }

pub segments_repeated : SegmentsRepeated
unfolding node_layers configured_layers built_layers answer_of jobs_of stores changed seq_auth lower_text message_act config_message message_of app_key_in key_in octets_of
segments_repeated net_key dev_key a b piece_a piece_b = record { cached = refl; again = refl }

pub segments_timed : SegmentsTimed
unfolding node_layers configured_layers built_layers answer_of jobs_of stores changed seq_auth lower_text message_act config_message message_of app_key_in key_in octets_of
segments_timed net_key dev_key a b piece_a piece_b = record { acknowledges = refl; delivers = refl; forgets = refl; waits = refl }

pub segments_unopened : SegmentsUnopened
unfolding node_layers configured_layers built_layers answer_of jobs_of stores changed seq_auth lower_text message_act config_message message_of app_key_in key_in octets_of
segments_unopened net_key dev_key a b piece_a piece_b =
    record { no_key = refl; begins_anew = refl; waits_anew = refl; delivers_anew = refl; stores_anew = refl }
