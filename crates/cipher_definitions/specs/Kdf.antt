-- The key derivations of the Mesh Profile 1.0.1. Section numbers are the profile's, and keys are
-- lists of 16 octets.
use Rattle.std.specs.Prelude.{ℕ, ◌+◌, ◌/◌, ◌%◌, ◌^◌, List, [], ◌∷◌, ◌++◌, replicate, codes}
use Rattle.cipher_definitions.specs.Octets.{two_octets, octets_of, number_of}
use Rattle.cipher_definitions.specs.Cmac.{cmac}

-- s1: AES-CMAC under the key of zeros (3.8.2.4)
unfoldable pub s1 : List ℕ → List ℕ
s1 m = cmac (replicate 16 0) m

-- k1 (3.8.2.5)
unfoldable pub k1 : List ℕ → List ℕ → List ℕ → List ℕ
k1 n salt p = cmac (cmac salt n) p

-- T of k2, k3 and k4: the key of their last steps, from the octets of their names (3.8.2.6 to 3.8.2.8)
abbrev pub derived_key : List ℕ → List ℕ → List ℕ
derived_key name n = cmac (s1 name) n

-- T1, T2 and T3 of k2 from T and P (3.8.2.6)
unfoldable pub k2_first : List ℕ → List ℕ → List ℕ
k2_first t p = cmac t (p ++ 1 ∷ [])

unfoldable pub k2_second : List ℕ → List ℕ → List ℕ
k2_second t p = cmac t (k2_first t p ++ p ++ 2 ∷ [])

unfoldable pub k2_third : List ℕ → List ℕ → List ℕ
k2_third t p = cmac t (k2_second t p ++ p ++ 3 ∷ [])

-- the number of k2: T1, T2 and T3 as one number of 384 bits, modulo 2^263 (3.8.2.6)
unfoldable pub k2_number : List ℕ → List ℕ → ℕ
k2_number n p =
    let t = derived_key (codes "smk2") n in
    number_of (k2_first t p ++ k2_second t p ++ k2_third t p) % 2 ^ 263

-- what k2 derives: NID, a number of 7 bits, and EncryptionKey and PrivacyKey (3.8.6.3.1)
pub record K2Value : Type 0 where
  pub nid : ℕ
  pub encryption : List ℕ
  pub privacy : List ℕ

-- k2: the number's highest 7 bits, the 128 bits below them, and the lowest 128 bits (3.8.2.6)
unfoldable pub k2 : List ℕ → List ℕ → K2Value
k2 n p = record {
  nid = k2_number n p / 2 ^ 256;
  encryption = octets_of 16 (k2_number n p / 2 ^ 128);
  privacy = octets_of 16 (k2_number n p);
}

-- k3: eight octets, the result modulo 2^64 (3.8.2.7)
unfoldable pub k3 : List ℕ → List ℕ
k3 n = octets_of 8 (number_of (cmac (derived_key (codes "smk3") n) (codes "id64" ++ 1 ∷ [])) % 2 ^ 64)

-- k4: a number of 6 bits, the result modulo 2^6 (3.8.2.8)
unfoldable pub k4 : List ℕ → ℕ
k4 n = number_of (cmac (derived_key (codes "smk4") n) (codes "id6" ++ 1 ∷ [])) % 2 ^ 6

-- the AID of an application key (3.8.6.2)
unfoldable pub aid : List ℕ → ℕ
aid app_key = k4 app_key

-- the Network ID of a network key (3.8.6.3.2)
unfoldable pub network_id : List ℕ → List ℕ
network_id net_key = k3 net_key

-- the BeaconKey of a network key (3.8.6.3.4)
unfoldable pub beacon_key : List ℕ → List ℕ
beacon_key net_key = k1 net_key (s1 (codes "nkbk")) (codes "id128" ++ 1 ∷ [])

-- the master credentials of a network key (3.8.6.3.1)
unfoldable pub master_credentials : List ℕ → K2Value
master_credentials net_key = k2 net_key (0 ∷ [])

-- the P of k2 for a friendship: its addresses and counters are numbers of 16 bits (3.8.6.3.1)
abbrev pub friendship_parameter : ℕ → ℕ → ℕ → ℕ → List ℕ
friendship_parameter lpn friend lpn_counter friend_counter =
    1 ∷ two_octets lpn ++ two_octets friend ++ two_octets lpn_counter ++ two_octets friend_counter

-- the friendship credentials of a network key (3.8.6.3.1)
unfoldable pub friendship_credentials : List ℕ → ℕ → ℕ → ℕ → ℕ → K2Value
friendship_credentials net_key lpn friend lpn_counter friend_counter =
    k2 net_key (friendship_parameter lpn friend lpn_counter friend_counter)

-- the virtual address of a label: the bits 10, and the last 14 bits of AES-CMAC of the label under the s1 of "vtad" (3.4.2.3)
unfoldable pub virtual_address : List ℕ → ℕ
virtual_address label = 2 ^ 15 + number_of (cmac (s1 (codes "vtad")) label) % 2 ^ 14
