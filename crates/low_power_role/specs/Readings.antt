-- What octets are read as by a Low Power node.
use Rattle.std.specs.Prelude.{◌≡◌, ℕ, Bool, true, false, if◌then◌else◌, List, [], ◌∷◌, ◌++◌, Option, Some, None, MatchOption}
use Rattle.std.specs.List.{flat_map, slice_get}
use Rattle.std.specs.Option.{option_to_list}
use Rattle.layer_definitions.specs.KeyRefresh.{heard_keys}
use Rattle.layer_definitions.specs.Network.{IsUnread, Reads}
use Rattle.layer_states.specs.Names.{is_unicast}
use Rattle.low_power_definitions.specs.State.{LowPowerState, heard_of, name_of}
use Rattle.mesh_base.specs.declared.fields.Heard.{Heard}
use Rattle.mesh_base.specs.declared.keys.NetKeyRow.{NetKeyRow}
use Rattle.mesh_base.specs.declared.keys.UpperKey.{UpperKey}
use Rattle.mesh_base.specs.declared.keys.UpperKey.TheVariants as U
use Rattle.mesh_base.specs.declared.lower.Lower.{Lower}
use Rattle.mesh_base.specs.declared.lower.Lower.TheVariants.{Access}
use Rattle.mesh_types.specs.declared.events.Event.{Event}
use Rattle.mesh_types.specs.declared.events.Event.TheVariants as E
use Rattle.event_definitions.specs.Answers.{config_before}
use Rattle.event_definitions.specs.History.{Insight, OfNothing, OfPdu, Opening, Past, Reading}
use Rattle.event_definitions.specs.Readings.{IsLowerPdu, IsOpenedUnder, fields_heard}
use Rattle.low_power_role.specs.Answers.{early_answer, network_answer}
use Rattle.low_power_role.specs.State.{state_of}
use Rattle.store_definitions.specs.Config.{Config}

-- The network layer: under the known IV Index, with the first network key, the old key before the new, and then with the credentials of the
-- friendship.

-- the first network key, if there is one: all goes under it
abbrev pub own_nets : Config → List NetKeyRow
own_nets c = option_to_list (slice_get c.nets 0)

abbrev pub friend_keys : Config → LowPowerState → List Heard
friend_keys c st = flat_map (λ net. option_to_list (heard_of st net)) (own_nets c)

abbrev pub keys_heard : Past → List Heard
keys_heard past = let c = config_before past in heard_keys (own_nets c) ++ friend_keys c (state_of past)

abbrev pub IsReading : Past → List ℕ → Option Reading → Type 0
IsReading past octets (Some r) =
    (place : ℕ) × Reads (keys_heard past) (config_before past).iv.current octets r.fields place r.by
IsReading past octets None = IsUnread (keys_heard past) (config_before past).iv.current octets

-- The lower transport layer, which a PDU comes to if the network layer has no answer to it.

abbrev pub IsLower : Past → Option Reading → Option Lower → Type 0
IsLower past None low = low ≡ None
IsLower past (Some r) low = MatchOption (network_answer past r) (IsLowerPdu r.fields low) (λ answer. low ≡ None)

-- The upper transport layer, which a message comes to if neither the friendship nor the replay list has an answer to it: the device key alone
-- is tried.

abbrev pub keys_tried : Config → Reading → Bool → List UpperKey
keys_tried c r true = []
keys_tried c r false = if is_unicast r.fields.dst then U.Device c.dev_key ∷ [] else []

abbrev pub IsOpened : Past → Reading → Lower → Option Opening → Type 0
IsOpened past r (Access akf aid upper) opening =
    IsOpenedUnder (keys_tried (config_before past) r akf) (fields_heard r (name_of r.fields) false) upper opening
IsOpened past r _ opening = opening ≡ None

abbrev pub IsOpening : Past → Option Reading → Option Lower → Option Opening → Type 0
IsOpening past (Some r) (Some low) opening =
    MatchOption (early_answer past r) (IsOpened past r low opening) (λ answer. opening ≡ None)
IsOpening past _ _ opening = opening ≡ None

-- nothing else has octets that are read
abbrev pub has_octets : Event → Bool
has_octets (E.Net octets) = true
has_octets _ = false

pub data Sees (past : Past) : Event → Insight → Type 0 where
  sees_pdu : {octets : List ℕ} {reading : Option Reading} {low : Option Lower} {opening : Option Opening}
      → IsReading past octets reading
      → IsLower past reading low
      → IsOpening past reading low opening
      → Sees past (E.Net octets) (OfPdu reading low opening)
  sees_nothing : {event : Event} → has_octets event ≡ false → Sees past event OfNothing
