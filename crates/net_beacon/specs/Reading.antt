-- What octets read as under a list of keys (Mesh Profile 1.0.1, section 3.9.3).
use Rattle.std.specs.Prelude.{◌≡◌, ℕ, List, Option, Some, None, slice_get}
use Rattle.mesh_base.specs.declared.beacon.Beacon.{Beacon}
use Rattle.layer_definitions.specs.Beacon.{BeaconSource, ReadsBeacon, ReadsBeaconUnder}

-- no key of the list has a beacon with these octets
abbrev pub IsUnread : List BeaconSource → List ℕ → Type 0
IsUnread keys octets =
    (k : ℕ) (by : BeaconSource) (flags iv : ℕ) → slice_get keys k ≡ Some by → ReadsBeaconUnder by.key octets flags iv
    → ⊥

-- the beacon that the octets read as, or none
abbrev pub IsAnswer : List BeaconSource → List ℕ → Option Beacon → Type 0
IsAnswer keys octets None = IsUnread keys octets
IsAnswer keys octets (Some b) = ReadsBeacon keys octets b
