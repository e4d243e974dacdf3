-- What a configuration message does and is answered by (Mesh Profile 1.0.1, section 4.3): a case for each message.
use Rattle.std.specs.Prelude.{ℕ, List, Option}
use Rattle.std.specs.Option.{option_map}
use Rattle.config_definitions.specs.Features.{composition_shown, friend_set, node_reset, octet_set, octet_shown, poll_timeout_shown, relay_set, relay_shown}
use Rattle.config_definitions.specs.Keys.{app_key_act, app_key_add, app_key_delete, app_key_list, app_key_update, net_key_act, net_key_add, net_key_delete, net_key_list, net_key_update, phase_set, phase_shown}
use Rattle.config_definitions.specs.Messages.{config_message}
use Rattle.config_definitions.specs.Models.{app_bind, app_unbind, bind_act, delete_all_act, group_act, group_add, group_delete, group_overwrite, label_act, label_add, label_delete, label_overwrite}
use Rattle.config_definitions.specs.Params.{switch_octet}
use Rattle.config_definitions.specs.Publishing.{heartbeat_set, heartbeat_shown, publication_set, publication_shown}
use Rattle.config_definitions.specs.declared.acts.ConfigAct.{ConfigAct}
use Rattle.config_definitions.specs.declared.acts.Status.TheVariants as S
use Rattle.config_definitions.specs.declared.messages.ConfigMessage.{ConfigMessage}
use Rattle.config_definitions.specs.declared.messages.ConfigMessage.TheVariants as M
use Rattle.mesh_base.specs.declared.address.Address.{Address}
use Rattle.model_states.specs.declared.publication.HeartbeatRow.{HeartbeatRow}
use Rattle.store_definitions.specs.Config.{Config}

-- What a node does, of which its records say this, with a message that was heard under this network key index. `polls` are the Low Power nodes
-- of its friendships with their PollTimeouts, and `beat` is its heartbeat as a Status shows it.
unfoldable pub message_act : Config → ℕ → List (Address × ℕ) → HeartbeatRow → ConfigMessage → ConfigAct
message_act c under polls beat (M.AppKeyAdd k) =
    app_key_act (app_key_add c k.indexes.net k.indexes.app k.key) k.indexes
message_act c under polls beat (M.AppKeyUpdate k) =
    app_key_act (app_key_update c k.indexes.net k.indexes.app k.key) k.indexes
message_act c under polls beat (M.PublicationSet v) = publication_set c v
message_act c under polls beat (M.AppKeyDelete k) = app_key_act (app_key_delete c k.net k.app) k
message_act c under polls beat (M.AppKeyGet net) = app_key_list c net
message_act c under polls beat M.CompositionGet = composition_shown c
message_act c under polls beat M.BeaconGet = octet_shown 0x0b c.beacon
message_act c under polls beat (M.BeaconSet on) = octet_set 1 0x0b c.beacon (switch_octet on)
message_act c under polls beat M.DefaultTtlGet = octet_shown 0x0e c.ttl
message_act c under polls beat (M.DefaultTtlSet ttl) = octet_set 2 0x0e c.ttl ttl
message_act c under polls beat M.FriendGet = octet_shown 0x11 c.friend
message_act c under polls beat (M.FriendSet on) = friend_set c on
message_act c under polls beat M.ProxyGet = octet_shown 0x14 0x02
message_act c under polls beat M.ProxySet = octet_shown 0x14 0x02
message_act c under polls beat (M.PhaseGet net) = phase_shown c net
message_act c under polls beat (M.PhaseSet net transition) = phase_set c net transition
message_act c under polls beat (M.PublicationGet holder) = publication_shown c holder
message_act c under polls beat (M.SubscriptionAdd s) = group_act c (group_add c) s
message_act c under polls beat (M.SubscriptionDelete s) = group_act c (group_delete c) s
message_act c under polls beat (M.SubscriptionDeleteAll holder) = delete_all_act c holder
message_act c under polls beat (M.SubscriptionOverwrite s) = group_act c (group_overwrite c) s
message_act c under polls beat (M.LabelAdd s) = label_act c (label_add c) s
message_act c under polls beat (M.LabelDelete s) = label_act c (label_delete c) s
message_act c under polls beat (M.LabelOverwrite s) = label_act c (label_overwrite c) s
message_act c under polls beat M.TransmitGet = octet_shown 0x25 c.transmit
message_act c under polls beat (M.TransmitSet transmit) = octet_set 5 0x25 c.transmit transmit
message_act c under polls beat M.RelayGet = relay_shown c
message_act c under polls beat (M.RelaySet relay) = relay_set c relay
message_act c under polls beat (M.PollTimeoutGet lpn) = poll_timeout_shown polls lpn
message_act c under polls beat M.HeartbeatGet = heartbeat_shown S.Success beat
message_act c under polls beat (M.HeartbeatSet h) = heartbeat_set c h
message_act c under polls beat (M.AppBind b) = bind_act c (app_bind c) b
message_act c under polls beat (M.AppUnbind b) = bind_act c (app_unbind c) b
message_act c under polls beat (M.NetKeyAdd k) = net_key_act (net_key_add c k.net k.key) k.net
message_act c under polls beat (M.NetKeyDelete net) = net_key_act (net_key_delete c under net) net
message_act c under polls beat M.NetKeyGet = net_key_list c
message_act c under polls beat (M.NetKeyUpdate k) = net_key_act (net_key_update c k.net k.key) k.net
message_act c under polls beat M.NodeReset = node_reset

-- what it does with a payload; None where that is no message
abbrev pub config_answer : Config → ℕ → List (Address × ℕ) → HeartbeatRow → List ℕ → Option ConfigAct
config_answer c under polls beat payload = option_map (message_act c under polls beat) (config_message payload)
