-- What the octets of an event are read as, after what stands before it. Only sealing is defined: octets read as what seals to them.
use Rattle.std.specs.Prelude.{◌≡◌, ℕ, not, Bool, true, false, IsFalse, if◌then◌else◌, List, [], ◌∷◌, ◌++◌, Option, Some, None, MatchOption, MatchBool, map}
use Rattle.std.specs.List.{slice_get}
use Rattle.layer_definitions.specs.Beacon.{ReadsBeacon}
use Rattle.layer_definitions.specs.KeyRefresh.{heard_keys, beacon_keys, app_keys}
use Rattle.layer_definitions.specs.Lower.{ReadsLower}
use Rattle.layer_definitions.specs.Network.{Reads}
use Rattle.layer_definitions.specs.Labels.{is_virtual, OpensLabel, IsLabelUnopened}
use Rattle.layer_definitions.specs.Upper.{Opens, IsUnopened}
use Rattle.mesh_base.specs.declared.beacon.Beacon.{Beacon}
use Rattle.mesh_base.specs.declared.fields.Heard.{Heard}
use Rattle.mesh_base.specs.declared.fields.NetFields.{NetFields}
use Rattle.mesh_base.specs.declared.keys.UpperKey.{UpperKey}
use Rattle.mesh_base.specs.declared.keys.UpperKey.TheVariants as U
use Rattle.mesh_base.specs.declared.lower.Lower.{Lower}
use Rattle.mesh_base.specs.declared.lower.Lower.TheVariants.{Access, Control, AccessPart, ControlPart}
use Rattle.mesh_base.specs.declared.pair.Name.{Name}
use Rattle.mesh_base.specs.declared.upper.UpperFields.{UpperFields}
use Rattle.mesh_types.specs.declared.events.Event.{Event}
use Rattle.mesh_types.specs.declared.events.Event.TheVariants as E
use Rattle.layer_states.specs.Names.{is_unicast}
use Rattle.event_definitions.specs.Answers.{config_before, network_answer, lower_answer, message_name}
use Rattle.store_definitions.specs.Config.{Config}
use Rattle.event_definitions.specs.History.{Reading, Opening, Insight, OfPdu, OfBeacon, OfNothing, Past}
use Rattle.event_definitions.specs.Layers.{Layers}

-- The network layer: under the known IV Index, with the network keys by index, the old key before the new, and then with the credentials
-- of friendships.

abbrev pub keys_heard : Layers → Past → List Heard
keys_heard layers past = heard_keys (config_before past).nets ++ layers.friend_keys past

abbrev pub IsReading : Layers → Past → List ℕ → Option Reading → Type 0
IsReading layers past octets (Some r) =
    (place : ℕ) × Reads (keys_heard layers past) (config_before past).iv.current octets r.fields place r.by
IsReading layers past octets None =
    (f : NetFields) (place : ℕ) (by : Heard)
    → Reads (keys_heard layers past) (config_before past).iv.current octets f place by → ⊥

-- The lower transport layer, which a PDU comes to if the network layer has no answer to it.

abbrev pub IsLowerPdu : NetFields → Option Lower → Type 0
IsLowerPdu f (Some low) = ReadsLower f.ctl f.tpdu low
IsLowerPdu f None = (low : Lower) → ReadsLower f.ctl f.tpdu low → ⊥

abbrev pub IsLower : Past → Option Reading → Option Lower → Type 0
IsLower past None low = low ≡ None
IsLower past (Some r) low = MatchOption (network_answer past r) (IsLowerPdu r.fields low) (λ answer. low ≡ None)

-- The upper transport layer, which a whole access message comes to if the layers below have no answer to it.

-- The keys that are tried: the device key where DST is unicast; the application keys of the network key whose AID fits.
abbrev pub keys_tried : Config → Reading → Bool → ℕ → List UpperKey
keys_tried c r true aid = app_keys c.apps r.by.index aid
keys_tried c r false aid = if is_unicast r.fields.dst then U.Device c.dev_key ∷ [] else []

-- what the nonce and the TransMIC of a message heard are made of, besides the key
abbrev pub fields_heard : Reading → Name → Bool → UpperFields
fields_heard r n szmic =
    record { pair = n.pair; src = r.fields.src; dst = r.fields.dst; long_mic = szmic; label = None }

-- the labels that are tried, in the order held
abbrev pub labels_tried : Config → List (List ℕ)
labels_tried c = map (λ l. l.2) c.labels

-- by a key alone
abbrev pub IsOpenedUnder : List UpperKey → UpperFields → List ℕ → Option Opening → Type 0
IsOpenedUnder keys f upper (Some o) =
    (place : ℕ) × (slice_get keys place ≡ Some o.key) × (o.label ≡ None) × Opens keys f upper place o.payload
IsOpenedUnder keys f upper None = IsUnopened keys f upper

-- by a label and a key, where DST is virtual
abbrev pub IsOpenedByLabel : List UpperKey → List (List ℕ) → UpperFields → List ℕ → Option Opening → Type 0
IsOpenedByLabel keys labels f upper (Some o) =
    (at : ℕ) × (place : ℕ) × (slice_get keys place ≡ Some o.key) × (slice_get labels at ≡ o.label)
    × OpensLabel keys labels f upper at place o.payload
IsOpenedByLabel keys labels f upper None = IsLabelUnopened keys labels f upper

abbrev pub IsOpenedFor : Config → List UpperKey → UpperFields → List ℕ → Option Opening → Type 0
IsOpenedFor c keys f upper opening =
    MatchBool (is_virtual f.dst) (IsOpenedByLabel keys (labels_tried c) f upper opening)
    (IsOpenedUnder keys f upper opening)

abbrev pub IsOpened : Layers → Past → Reading → Name → Lower → Option Opening → Type 0
IsOpened layers past r n (Access akf aid upper) opening =
    let c = config_before past in IsOpenedFor c (keys_tried c r akf aid) (fields_heard r n false) upper opening
IsOpened layers past r n (AccessPart akf aid szmic seq_zero seg_o seg_n piece) opening =
    let c = config_before past in
    IsOpenedFor c (keys_tried c r akf aid) (fields_heard r n szmic)
    (layers.whole past n (AccessPart akf aid szmic seq_zero seg_o seg_n piece)) opening
IsOpened layers past r n (Control opcode params) opening = opening ≡ None
IsOpened layers past r n (ControlPart opcode seq_zero seg_o seg_n piece) opening = opening ≡ None

abbrev pub IsOpeningOf : Layers → Past → Reading → Lower → Option Name → Option Opening → Type 0
IsOpeningOf layers past r low None opening = opening ≡ None
IsOpeningOf layers past r low (Some n) opening =
    MatchOption (lower_answer layers past r low n) (IsOpened layers past r n low opening) (λ answer. opening ≡ None)

abbrev pub IsOpening : Layers → Past → Option Reading → Option Lower → Option Opening → Type 0
IsOpening layers past (Some r) (Some low) opening = IsOpeningOf layers past r low (message_name r.fields low) opening
IsOpening layers past _ _ opening = opening ≡ None

-- Beacons.

abbrev pub IsBeacon : Past → List ℕ → Option Beacon → Type 0
IsBeacon past octets (Some b) = ReadsBeacon (beacon_keys (config_before past).nets) octets b
IsBeacon past octets None = (b : Beacon) → ReadsBeacon (beacon_keys (config_before past).nets) octets b → ⊥

-- whether an event has octets that are read: after a Node Reset nothing is
abbrev pub has_octets : Past → Event → Bool
has_octets past (E.Net octets) = not (config_before past).reset
has_octets past (E.Bcn octets) = not (config_before past).reset
has_octets past _ = false

pub data Sees (layers : Layers) (past : Past) : Event → Insight → Type 0 where
  sees_pdu : {octets : List ℕ} {reading : Option Reading} {low : Option Lower} {opening : Option Opening}
      → IsFalse (config_before past).reset
      → IsReading layers past octets reading
      → IsLower past reading low
      → IsOpening layers past reading low opening
      → Sees layers past (E.Net octets) (OfPdu reading low opening)
  sees_beacon : {octets : List ℕ} {b : Option Beacon}
      → IsFalse (config_before past).reset
      → IsBeacon past octets b
      → Sees layers past (E.Bcn octets) (OfBeacon b)
  sees_nothing : {event : Event} → has_octets past event ≡ false → Sees layers past event OfNothing
