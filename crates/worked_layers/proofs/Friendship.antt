-- By computation.
use Rattle.std.proofs.Common.{refl}
use Rattle.cipher_definitions.specs.Octets.{number_of, octets_of}
use Rattle.layer_definitions.specs.Control.{control_text}
use Rattle.mesh_base.specs.IvState.{transmit_of}
use Rattle.node_layers.specs.BuiltLayers.{built_layers}
use Rattle.node_layers.specs.ConfiguredLayers.{configured_layers}
use Rattle.node_layers.specs.NodeLayers.{node_layers}
use Rattle.event_definitions.specs.Answers.{answer_of}
use Rattle.event_definitions.specs.Jobs.{jobs_of}
use Rattle.event_definitions.specs.Stores.{stores}
use Rattle.store_definitions.specs.Config.{changed}
use Rattle.worked_layers.specs.Friendship.{FriendshipStands, MessagesAreStored}

pub friendship_stands : FriendshipStands
unfolding node_layers configured_layers built_layers answer_of jobs_of stores changed control_text octets_of number_of transmit_of
friendship_stands net_key dev_key pdu octets = record { offer = refl; updates = refl; keeps = refl; repeats = refl; goes_on = refl }

pub messages_are_stored : MessagesAreStored
unfolding node_layers configured_layers built_layers answer_of jobs_of stores changed control_text octets_of number_of transmit_of
messages_are_stored net_key dev_key pdu octets = record { stores = refl; answers = refl; sends = refl; refuses = λ pair e upper. rw e refl; relays = refl }
