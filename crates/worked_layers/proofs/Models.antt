-- By computation.
use Rattle.std.proofs.Common.{refl}
use Rattle.config_definitions.specs.Answers.{message_act}
use Rattle.config_definitions.specs.Messages.{binding_in, config_message, heartbeat_in, holder_in, label_in, message_of, model_in, publication_in}
use Rattle.model_states.specs.Level.{level_message}
use Rattle.model_states.specs.OnOff.{onoff_message}
use Rattle.model_states.specs.Publication.{least_log, row_index}
use Rattle.model_states.specs.Timing.{remaining_time}
use Rattle.node_layers.specs.BuiltLayers.{built_layers}
use Rattle.node_layers.specs.ConfiguredLayers.{configured_layers}
use Rattle.node_layers.specs.NodeLayers.{node_layers}
use Rattle.event_definitions.specs.Answers.{answer_of}
use Rattle.event_definitions.specs.Jobs.{jobs_of}
use Rattle.event_definitions.specs.Stores.{stores}
use Rattle.store_definitions.specs.Config.{changed}
use Rattle.worked_layers.specs.Models.{HeartBeats, LevelMoves, OnOffSwitches}

pub onoff_switches : OnOffSwitches node_layers
unfolding node_layers configured_layers built_layers answer_of jobs_of stores changed message_act config_message message_of binding_in heartbeat_in holder_in label_in model_in publication_in onoff_message level_message remaining_time
onoff_switches net_key dev_key app_key pdu aid = record { binds = refl; stores = refl; turns_on = refl; keeps = refl; opens = refl }

pub level_moves : LevelMoves node_layers
unfolding node_layers configured_layers built_layers answer_of jobs_of stores changed message_act config_message message_of binding_in heartbeat_in holder_in label_in model_in publication_in onoff_message level_message remaining_time
level_moves net_key dev_key app_key pdu aid = record { binds = refl; begins = refl; moves = refl }

pub heart_beats : HeartBeats node_layers
unfolding node_layers configured_layers built_layers answer_of jobs_of stores changed message_act config_message message_of binding_in heartbeat_in holder_in label_in model_in publication_in onoff_message level_message remaining_time row_index least_log
heart_beats net_key dev_key app_key pdu aid = record { sets = refl; first = refl; waits = refl; second = refl; ends = refl }
