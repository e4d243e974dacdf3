-- Network keys whose beacons are read, as they are kept.
use Rattle.std.specs.Prelude.{ℕ, Bool, false, bytes_eq, List, map, Option, Some, None}
use Rattle.layer_definitions.specs.Beacon.{BeaconSource}
use Rattle.layer_definitions.specs.KeyRefresh.{beacon_keys}
use Rattle.mesh_base.specs.declared.keys.NetKeyRow.{NetKeyRow}

-- the keys of rows, each in a place
abbrev pub values_of : List NetKeyRow → List (Option (List ℕ))
values_of rows = map (λ (b : BeaconSource). Some b.key) (beacon_keys rows)

-- a place that has this key
abbrev pub is_value : List ℕ → Option (List ℕ) → Bool
is_value key None = false
is_value key (Some kept) = bytes_eq kept key
