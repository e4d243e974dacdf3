-- Messages about the features of the node (Mesh Profile 1.0.1, sections 4.3.2.1 to 4.3.2.14, 4.3.2.53 to 4.3.2.57 and 4.3.2.67 to 4.3.2.71).
use Rattle.std.specs.Prelude.{ℕ, ◌+◌, ◌*◌, ◌/◌, ◌%◌, ◌==◌, not, Bool, if◌then◌else◌, List, [], ◌∷◌, ◌++◌, Option, Some, None}
use Rattle.std.specs.List.{find}
use Rattle.std.specs.Option.{option_map_or}
use Rattle.node_limits.specs.declared.TheConstants.{REPLAY_ENTRIES}
use Rattle.config_definitions.specs.Params.{replied, acted, switch_octet}
use Rattle.config_definitions.specs.declared.acts.ConfigAct.{ConfigAct}
use Rattle.config_definitions.specs.declared.messages.RelayValue.{RelayValue}
use Rattle.mesh_base.specs.declared.address.Address.{Address}
use Rattle.model_states.specs.Access.{two_low_first, composition}
use Rattle.record_types.specs.declared.records.StoreRecord.{StoreRecord}
use Rattle.record_types.specs.declared.records.StoreRecord.TheVariants as R
use Rattle.store_definitions.specs.Config.{Config}

-- the record of a feature that changes
abbrev pub feature_record : ℕ → ℕ → ℕ → Option StoreRecord
feature_record which before value = if before == value then None else Some (R.Feature which value)

-- the Status of a state of one octet
abbrev pub octet_shown : ℕ → ℕ → ConfigAct
octet_shown opcode value = replied (0x80 ∷ opcode ∷ value ∷ [])

-- it is set: its Status with the new value
abbrev pub octet_set : ℕ → ℕ → ℕ → ℕ → ConfigAct
octet_set which opcode before value = acted (feature_record which before value) (0x80 ∷ opcode ∷ value ∷ [])

-- Friend Set: without Friend the friendships and the offers end (4.4.1.2.6)
abbrev pub friend_set : Config → Bool → ConfigAct
friend_set c on = record (octet_set 3 0x11 c.friend (switch_octet on)) { ends_friendships = not on }

-- Relay Status 8028: Relay, and its retransmissions
abbrev pub relay_shown : Config → ConfigAct
relay_shown c = replied (0x80 ∷ 0x28 ∷ c.relay ∷ c.retransmit ∷ [])

abbrev pub relay_set : Config → RelayValue → ConfigAct
relay_set c relay =
    acted (feature_record 4 (c.relay * 256 + c.retransmit) (switch_octet relay.on * 256 + relay.retransmit))
    (0x80 ∷ 0x28 ∷ switch_octet relay.on ∷ relay.retransmit ∷ [])

-- Composition Data Status 02: page 0, which tells how many entries the replay list has (CRPL)
abbrev pub composition_shown : Config → ConfigAct
composition_shown c = replied (0x02 ∷ 0x00 ∷ composition c.elements REPLAY_ENTRIES)

-- Low Power Node PollTimeout Status 802e: the address, and the PollTimeout of its friendship in three octets, 0 without one
abbrev pub three_low_first : ℕ → List ℕ
three_low_first n = n % 256 ∷ n / 256 % 256 ∷ n / 65536 % 256 ∷ []

abbrev pub poll_timeout : List (Address × ℕ) → Address → ℕ
poll_timeout polls lpn = option_map_or (λ p. p.1) (find (λ p. p.0.0 == lpn.0) polls) 0

abbrev pub poll_timeout_shown : List (Address × ℕ) → Address → ConfigAct
poll_timeout_shown polls lpn =
    replied (0x80 ∷ 0x2e ∷ two_low_first lpn.0 ++ three_low_first (poll_timeout polls lpn))

-- Node Reset Status 804a
abbrev pub node_reset : ConfigAct
node_reset = acted (Some R.Reset) (0x80 ∷ 0x4a ∷ [])
