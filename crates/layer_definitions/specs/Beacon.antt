-- Secure Network beacons (Mesh Profile 1.0.1). Section numbers are the profile's.
use Rattle.std.specs.Prelude.{◌≡◌, ℕ, ◌/◌, ◌%◌, ◌^◌, ◌<◌, ◌==◌, Bool, Some, List, ◌∷◌, ◌++◌, take, slice_get}
use Rattle.cipher_definitions.specs.Octets.{four_octets}
use Rattle.cipher_definitions.specs.Cmac.{cmac}
use Rattle.cipher_definitions.specs.Kdf.{network_id, beacon_key}
use Rattle.mesh_base.specs.declared.beacon.Beacon.{Beacon}

-- what is authenticated: flags, Network ID and IV Index (3.9.3.1)
abbrev pub beacon_fields : List ℕ → ℕ → ℕ → List ℕ
beacon_fields key flags iv = flags ∷ network_id key ++ four_octets iv

-- The octets of the beacon of a network key: type 01, the fields, and the first 8 octets of their AES-CMAC under the BeaconKey (3.9.3).
unfoldable pub beacon_text : List ℕ → ℕ → ℕ → List ℕ
beacon_text key flags iv = 1 ∷ beacon_fields key flags iv ++ take 8 (cmac (beacon_key key) (beacon_fields key flags iv))

-- a key whose beacons are read: its network key index, and whether it is the new key of a Key Refresh
pub record BeaconSource : Type 0 where
  pub index : ℕ
  pub fresh : Bool
  pub key : List ℕ

-- Key Refresh is bit 0 of the flags and IV Update bit 1; the others have no effect (3.9.3.1).
abbrev pub beacon_of : BeaconSource → ℕ → ℕ → Beacon
beacon_of by flags iv =
    record { index = by.index; fresh = by.fresh; refresh = flags % 2 == 1; update = flags / 2 % 2 == 1; iv = iv }

-- The octets are the beacon of this key with these flags and this IV Index.
pub record ReadsBeaconUnder (key octets : List ℕ) (flags iv : ℕ) : Type 0 where
  pub flags_width : flags < 2 ^ 8
  pub iv_width : iv < 2 ^ 32
  pub text : beacon_text key flags iv ≡ octets

-- The octets read as this beacon by the first key of the list under which they read at all.
pub record ReadsBeacon (keys : List BeaconSource) (octets : List ℕ) (b : Beacon) : Type 0 where
  pub place : ℕ
  pub by : BeaconSource
  pub by_is : slice_get keys place ≡ Some by
  pub flags : ℕ
  pub reads : ReadsBeaconUnder by.key octets flags b.iv
  pub beacon : b ≡ beacon_of by flags b.iv
  pub first : (k : ℕ) (earlier : BeaconSource) (f iv : ℕ) → k < place → slice_get keys k ≡ Some earlier
      → ReadsBeaconUnder earlier.key octets f iv → ⊥
