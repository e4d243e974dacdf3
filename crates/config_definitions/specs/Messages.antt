-- From an access payload to its configuration message: a row for each, with its opcode (Mesh Profile 1.0.1, section 4.3.4) and its fields
-- (4.3.2). The low octet of a number stands first (3.1.1.2).
use Rattle.std.specs.Prelude.{ℕ, ◌==◌, ◌&&◌, ◌||◌, nat_le, Bool, true, false, if◌then◌else◌, List, [], ◌∷◌, Option, Some, None, length, take, drop}
use Rattle.std.specs.Option.{option_map, option_map_or}
use Rattle.config_definitions.specs.Params.{address_of, first_index, index_of, number_of, second_index}
use Rattle.config_definitions.specs.declared.messages.AppBinding.{AppBinding}
use Rattle.config_definitions.specs.declared.messages.AppKeyIndexes.{AppKeyIndexes}
use Rattle.config_definitions.specs.declared.messages.AppKeyValue.{AppKeyValue}
use Rattle.config_definitions.specs.declared.messages.ConfigMessage.{ConfigMessage}
use Rattle.config_definitions.specs.declared.messages.ConfigMessage.TheVariants as M
use Rattle.config_definitions.specs.declared.messages.ElementModel.{ElementModel}
use Rattle.config_definitions.specs.declared.messages.GroupSubscription.{GroupSubscription}
use Rattle.config_definitions.specs.declared.messages.LabelSubscription.{LabelSubscription}
use Rattle.config_definitions.specs.declared.messages.ModelId.{ModelId}
use Rattle.config_definitions.specs.declared.messages.ModelId.TheVariants as I
use Rattle.config_definitions.specs.declared.messages.NetKeyValue.{NetKeyValue}
use Rattle.config_definitions.specs.declared.messages.PhaseTransition.TheVariants as T
use Rattle.config_definitions.specs.declared.messages.PublicationValue.{PublicationValue}
use Rattle.config_definitions.specs.declared.messages.RelayValue.{RelayValue}
use Rattle.mesh_base.specs.declared.address.Address.{Address}
use Rattle.model_states.specs.Access.{opcode_in}
use Rattle.model_states.specs.declared.publication.HeartbeatRow.{HeartbeatRow}

-- Fields.

-- a key or a label: 16 octets
unfoldable pub key_in : List ℕ → Option (List ℕ)
key_in octets = if length octets == 16 then Some octets else None

-- a model: two octets, or four where a vendor defined it
unfoldable pub model_in : List ℕ → Option ModelId
model_in (a ∷ b ∷ []) = Some (I.Sig (number_of a b))
model_in (a ∷ b ∷ d ∷ e ∷ []) = Some (I.Vendor (number_of a b) (number_of d e))
model_in _ = None

-- a switch: 00 or 01
unfoldable pub switch_in : List ℕ → Option Bool
switch_in (value ∷ []) = if value == 0 then Some false else if value == 1 then Some true else None
switch_in _ = None

-- nothing
unfoldable pub without : ConfigMessage → List ℕ → Option ConfigMessage
without m [] = Some m
without m _ = None

-- any octet, of which nothing is read
unfoldable pub any_octet : ConfigMessage → List ℕ → Option ConfigMessage
any_octet m (octet ∷ []) = Some m
any_octet m _ = None

-- the index of a network key
unfoldable pub net_in : List ℕ → Option ℕ
net_in (a ∷ b ∷ []) = Some (index_of a b)
net_in _ = None

-- an address
unfoldable pub address_in : List ℕ → Option Address
address_in (a ∷ b ∷ []) = Some (address_of a b)
address_in _ = None

-- Default TTL is 00 or 02 to 7f (4.2.7)
abbrev pub is_default_ttl : ℕ → Bool
is_default_ttl value = value == 0 || (nat_le 2 value && nat_le value 0x7f)

unfoldable pub default_ttl_in : List ℕ → Option ℕ
default_ttl_in (value ∷ []) = if is_default_ttl value then Some value else None
default_ttl_in _ = None

unfoldable pub octet_in : List ℕ → Option ℕ
octet_in (value ∷ []) = Some value
octet_in _ = None

-- both indexes; and the key
unfoldable pub indexes_in : List ℕ → Option AppKeyIndexes
indexes_in (a ∷ b ∷ d ∷ []) = Some (record { net = first_index a b; app = second_index b d })
indexes_in _ = None

unfoldable pub app_key_in : List ℕ → Option AppKeyValue
app_key_in (a ∷ b ∷ d ∷ key) =
    option_map (λ key. record { indexes = record { net = first_index a b; app = second_index b d }; key = key }) (key_in key)
app_key_in _ = None

-- the index, the key
unfoldable pub net_key_in : List ℕ → Option NetKeyValue
net_key_in (a ∷ b ∷ key) = option_map (λ key. record { net = index_of a b; key = key }) (key_in key)
net_key_in _ = None

-- Relay, its retransmissions
unfoldable pub relay_in : List ℕ → Option RelayValue
relay_in (on ∷ retransmit ∷ []) =
    option_map (λ on. record { on = on; retransmit = retransmit }) (switch_in (on ∷ []))
relay_in _ = None

-- the index, the transition: 02 to phase 2, 03 to the end
unfoldable pub transition_in : List ℕ → Option ConfigMessage
transition_in (a ∷ b ∷ transition ∷ []) =
    if transition == 2 then Some (M.PhaseSet (index_of a b) T.ToPhaseTwo)
    else if transition == 3 then Some (M.PhaseSet (index_of a b) T.ToEnd)
    else None
transition_in _ = None

-- the element, the model
unfoldable pub holder_in : ℕ → ℕ → List ℕ → Option ElementModel
holder_in a b model = option_map (λ model. record { element = address_of a b; model = model }) (model_in model)

unfoldable pub element_model_in : List ℕ → Option ElementModel
element_model_in (a ∷ b ∷ model) = holder_in a b model
element_model_in _ = None

-- the element, the group, the model
unfoldable pub group_in : List ℕ → Option GroupSubscription
group_in (a ∷ b ∷ d ∷ e ∷ model) =
    option_map (λ holder. record { holder = holder; group = address_of d e }) (holder_in a b model)
group_in _ = None

-- the element, the label, the model
unfoldable pub label_in : List ℕ → Option LabelSubscription
label_in (a ∷ b ∷ rest) =
    option_map (λ holder. record { holder = holder; label = take 16 rest }) (holder_in a b (drop 16 rest))
label_in _ = None

-- the element, the application key, the model
unfoldable pub binding_in : List ℕ → Option AppBinding
binding_in (a ∷ b ∷ d ∷ e ∷ model) =
    option_map (λ holder. record { holder = holder; app = index_of d e }) (holder_in a b model)
binding_in _ = None

-- Publish TTL is 00 to 7f, or ff for the Default TTL (4.2.2.5)
abbrev pub is_publish_ttl : ℕ → Bool
is_publish_ttl ttl = nat_le ttl 0x7f || ttl == 0xff

-- the element, the publish address, the application key, TTL, period, retransmissions, the model
unfoldable pub publication_in : List ℕ → Option PublicationValue
publication_in (a ∷ b ∷ d ∷ e ∷ f ∷ g ∷ ttl ∷ period ∷ retransmit ∷ model) =
    if is_publish_ttl ttl then option_map asked (holder_in a b model) else None
  where
    asked : ElementModel → PublicationValue
    asked holder = record {
      holder = holder;
      address = address_of d e;
      app = index_of f g;
      ttl = ttl;
      period = period;
      retransmit = retransmit;
    }
publication_in _ = None

-- Count Log is 00 to 11 or ff, Period Log 00 to 11, TTL 00 to 7f (4.2.17)
abbrev pub is_heartbeat : HeartbeatRow → Bool
is_heartbeat h = (nat_le h.count 0x11 || h.count == 0xff) && nat_le h.period 0x11 && nat_le h.ttl 0x7f

-- the destination, Count Log, Period Log, TTL, features, the network key
unfoldable pub heartbeat_in : List ℕ → Option HeartbeatRow
heartbeat_in (a ∷ b ∷ count ∷ period ∷ ttl ∷ d ∷ e ∷ f ∷ g ∷ []) =
    if is_heartbeat asked then Some asked else None
  where
    asked : HeartbeatRow
    asked = record {
      dst = address_of a b;
      count = count;
      period = period;
      ttl = ttl;
      features = number_of d e;
      net = index_of f g;
    }
heartbeat_in _ = None

-- The messages.

-- the message of this opcode with these parameters
unfoldable pub message_of : ℕ → List ℕ → Option ConfigMessage
message_of opcode params =
    if opcode == 0x00 then option_map M.AppKeyAdd (app_key_in params)
    else if opcode == 0x01 then option_map M.AppKeyUpdate (app_key_in params)
    else if opcode == 0x03 then option_map M.PublicationSet (publication_in params)
    else if opcode == 0x8000 then option_map M.AppKeyDelete (indexes_in params)
    else if opcode == 0x8001 then option_map M.AppKeyGet (net_in params)
    else if opcode == 0x8008 then any_octet M.CompositionGet params
    else if opcode == 0x8009 then without M.BeaconGet params
    else if opcode == 0x800a then option_map M.BeaconSet (switch_in params)
    else if opcode == 0x800c then without M.DefaultTtlGet params
    else if opcode == 0x800d then option_map M.DefaultTtlSet (default_ttl_in params)
    else if opcode == 0x800f then without M.FriendGet params
    else if opcode == 0x8010 then option_map M.FriendSet (switch_in params)
    else if opcode == 0x8012 then without M.ProxyGet params
    else if opcode == 0x8013 then option_map (λ on. M.ProxySet) (switch_in params)
    else if opcode == 0x8015 then option_map M.PhaseGet (net_in params)
    else if opcode == 0x8016 then transition_in params
    else if opcode == 0x8018 then option_map M.PublicationGet (element_model_in params)
    else if opcode == 0x801b then option_map M.SubscriptionAdd (group_in params)
    else if opcode == 0x801c then option_map M.SubscriptionDelete (group_in params)
    else if opcode == 0x801d then option_map M.SubscriptionDeleteAll (element_model_in params)
    else if opcode == 0x801e then option_map M.SubscriptionOverwrite (group_in params)
    else if opcode == 0x8020 then option_map M.LabelAdd (label_in params)
    else if opcode == 0x8021 then option_map M.LabelDelete (label_in params)
    else if opcode == 0x8022 then option_map M.LabelOverwrite (label_in params)
    else if opcode == 0x8023 then without M.TransmitGet params
    else if opcode == 0x8024 then option_map M.TransmitSet (octet_in params)
    else if opcode == 0x8026 then without M.RelayGet params
    else if opcode == 0x8027 then option_map M.RelaySet (relay_in params)
    else if opcode == 0x802d then option_map M.PollTimeoutGet (address_in params)
    else if opcode == 0x8038 then without M.HeartbeatGet params
    else if opcode == 0x8039 then option_map M.HeartbeatSet (heartbeat_in params)
    else if opcode == 0x803d then option_map M.AppBind (binding_in params)
    else if opcode == 0x803f then option_map M.AppUnbind (binding_in params)
    else if opcode == 0x8040 then option_map M.NetKeyAdd (net_key_in params)
    else if opcode == 0x8041 then option_map M.NetKeyDelete (net_in params)
    else if opcode == 0x8042 then without M.NetKeyGet params
    else if opcode == 0x8045 then option_map M.NetKeyUpdate (net_key_in params)
    else if opcode == 0x8049 then without M.NodeReset params
    else None

-- the message that a payload is; None where opcode, length or a value has no row
unfoldable pub config_message : List ℕ → Option ConfigMessage
config_message payload = by_opcode (opcode_in payload)
  where
    by_opcode : Option (ℕ × List ℕ) → Option ConfigMessage
    by_opcode (Some (opcode, params)) = message_of opcode params
    by_opcode None = None
