-- Which keys a node hears and sends with, by the phase of the Key Refresh of each network key (Mesh Profile 1.0.1, section 3.10.4). The
-- lists of rows are given by index.
use Rattle.std.specs.Prelude.{ℕ, ◌+◌, ◌==◌, Bool, true, false, if◌then◌else◌, List, [], ◌∷◌, Option, Some, None, unwrap_or, option_and_then, map, filter, All, IsSome}
use Rattle.std.specs.List.{flat_map}
use Rattle.std.specs.Option.{option_map}
use Rattle.cipher_definitions.specs.Kdf.{master_credentials, friendship_credentials, aid}
use Rattle.layer_definitions.specs.Beacon.{BeaconSource, beacon_text}
pub use Rattle.mesh_base.specs.Keys.{app_row, net_row}
use Rattle.mesh_base.specs.declared.fields.Heard.{Heard}
use Rattle.mesh_base.specs.declared.fields.NetMaterial.{NetMaterial}
use Rattle.mesh_base.specs.declared.iv_state.IvState.{IvState}
use Rattle.mesh_base.specs.declared.keys.AppKeyRow.{AppKeyRow}
use Rattle.mesh_base.specs.declared.keys.NetKeyRow.{NetKeyRow}
use Rattle.mesh_base.specs.declared.keys.UpperKey.{UpperKey}
use Rattle.mesh_base.specs.declared.keys.UpperKey.TheVariants.{App}

-- Network keys.

-- by what the rows of network keys are ordered
abbrev pub net_index : NetKeyRow → ℕ
net_index r = r.index

-- the material of the master credentials of a network key (3.8.6.3.1)
unfoldable pub master_material : List ℕ → NetMaterial
master_material key =
    let k = master_credentials key in
    record { nid = k.nid; encryption = k.encryption; privacy = k.privacy }

-- the material of the friendship credentials of a network key (3.8.6.3.1)
unfoldable pub friendship_material : List ℕ → ℕ → ℕ → ℕ → ℕ → NetMaterial
friendship_material key lpn friend lpn_counter friend_counter =
    let k = friendship_credentials key lpn friend lpn_counter friend_counter in
    record { nid = k.nid; encryption = k.encryption; privacy = k.privacy }

-- the master credentials of a key are heard
abbrev pub heard_key : ℕ → Bool → List ℕ → Heard
heard_key index fresh key = record { index = index; lpn = None; fresh = fresh; material = master_material key }

-- a row's keys with what tells the new one, the old key before the new
abbrev pub keys_of : {A : Type 0} → (Bool → List ℕ → A) → List ℕ → Option (List ℕ) → List A
keys_of make key None = make false key ∷ []
keys_of make key (Some next) = make false key ∷ make true next ∷ []

-- the master credentials that are heard, in the order in which they are tried: by index, the old key before the new
abbrev pub heard_keys : List NetKeyRow → List Heard
heard_keys rows = flat_map (λ r. keys_of (heard_key r.index) r.key r.next) rows

-- the keys whose beacons are read, in the same order
abbrev pub beacon_keys : List NetKeyRow → List BeaconSource
beacon_keys rows =
    flat_map (λ r. keys_of (λ fresh key. record { index = r.index; fresh = fresh; key = key }) r.key r.next) rows

-- what is sent goes under the new key in phase 2, and else under the old one
abbrev pub transmit_key : NetKeyRow → List ℕ
transmit_key r = if r.phase == 2 then unwrap_or r.next r.key else r.key

-- the material that seals what is sent under a network key index
abbrev pub transmit_material : List NetKeyRow → ℕ → Option NetMaterial
transmit_material rows index = option_map (λ r. master_material (transmit_key r)) (net_row rows index)

-- the node's beacon of a network key: under the new key with Key Refresh flag 1 in phase 2, else under the old one with flag 0
abbrev pub own_beacon : IvState → NetKeyRow → List ℕ
own_beacon s r =
    beacon_text (transmit_key r) ((if r.phase == 2 then 1 else 0) + (if s.progress then 2 else 0)) s.current

-- Application keys.

-- by what the rows of application keys are ordered
abbrev pub app_index : AppKeyRow → ℕ
app_index r = r.index

abbrev pub app_key : ℕ → List ℕ → UpperKey
app_key index key = App index (aid key) key

-- the application keys of a network key whose AID fits, in the order in which they are tried: by index, the old key before the new
abbrev pub app_keys : List AppKeyRow → ℕ → ℕ → List UpperKey
app_keys rows net id =
    flat_map (λ r. map (app_key r.index) (filter (λ key. aid key == id) (keys_of (λ fresh key. key) r.key r.next)))
    (filter (λ r. r.net == net) rows)

-- an application key is sent with under its new value, if it has one, where its network key is in phase 2
abbrev pub transmit_value : AppKeyRow → NetKeyRow → List ℕ
transmit_value r net = if net.phase == 2 then unwrap_or r.next r.key else r.key

-- the network key index and the key that an application key index is sent with, if it is held
abbrev pub transmit_app : List AppKeyRow → List NetKeyRow → ℕ → Option (ℕ × UpperKey)
transmit_app rows nets index =
    option_and_then (λ r. option_map (λ net. (r.net, app_key index (transmit_value r net))) (net_row nets r.net))
    (app_row rows index)

-- Each application key is bound to a network key that is held (3.8.6.2). A node meets this by what it stores: an application key is added
-- only for a network key that is held, and goes with it.
abbrev pub AreBound : List AppKeyRow → List NetKeyRow → Type 0
AreBound apps nets = All (λ (r : AppKeyRow). IsSome (net_row nets r.net)) apps
