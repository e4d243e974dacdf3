-- One network key alone whose beacons are read.
use Rattle.std.proofs.Common.{◌≡◌, ℕ, zero, suc, false, List, [], ◌∷◌, Option, Some, None, slice_get, refl, subst, sym}
use Rattle.layer_definitions.specs.Beacon.{BeaconSource, ReadsBeacon, ReadsBeaconUnder}
use Rattle.layer_definitions.specs.KeyRefresh.{beacon_keys, net_index}
use Rattle.layer_definitions.specs.Order.{by_index, put_row, put_rows}
use Rattle.mesh_base.specs.declared.beacon.Beacon.{Beacon}
use Rattle.mesh_base.specs.declared.keys.NetKeyRow.{NetKeyRow}
use Rattle.net_beacon.specs.Reading.{IsUnread}

abbrev row_of : List ℕ → NetKeyRow
row_of key = record { index = 0; phase = 0; key = key; next = None }

abbrev source_of : List ℕ → BeaconSource
source_of key = record { index = 0; fresh = false; key = key }

keys_are : (key : List ℕ) → beacon_keys (by_index net_index (row_of key ∷ [])) ≡ source_of key ∷ []
unfolding put_rows put_row
keys_are key = refl

first_only : (x by : BeaconSource) (place : ℕ) → slice_get (x ∷ []) place ≡ Some by → x ≡ by
first_only x by zero e = cc
first_only x by (suc n) e = absurd (cc)

of_one : (key octets : List ℕ) (b : Beacon) → ReadsBeacon (source_of key ∷ []) octets b → (flags : ℕ) × ReadsBeaconUnder key octets flags b.iv
of_one key octets b r =
    (r.flags, subst (λ (x : BeaconSource). ReadsBeaconUnder x.key octets r.flags b.iv) (sym (first_only (source_of key) r.by r.place r.by_is)) r.reads)

-- what the octets read as under it
pub read_alone : (key octets : List ℕ) (b : Beacon) → ReadsBeacon (beacon_keys (by_index net_index (row_of key ∷ []))) octets b
    → (flags : ℕ) × ReadsBeaconUnder key octets flags b.iv
read_alone key octets b r = of_one key octets b (subst (λ (ks : List BeaconSource). ReadsBeacon ks octets b) (keys_are key) r)

-- octets that are no beacon of it
pub unread_alone : (key octets : List ℕ) → IsUnread (beacon_keys (by_index net_index (row_of key ∷ []))) octets
    → (flags iv : ℕ) → ReadsBeaconUnder key octets flags iv → ⊥
unread_alone key octets none flags iv h =
    subst (λ (ks : List BeaconSource). IsUnread ks octets) (keys_are key) none zero (source_of key) flags iv refl h
