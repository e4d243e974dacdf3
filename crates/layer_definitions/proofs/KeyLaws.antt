-- What is derived from keys is within its width.
use Rattle.std.proofs.Common.{ℕ, ◌<◌, ◌*◌, ◌/◌, ◌%◌, ◌^◌, List, lit<}
use Rattle.std.proofs.Math.Nat.{div-lt_iff_lt-mul, mod-lt}
use Rattle.cipher_definitions.specs.Kdf.{aid, k2, k2_number, k4, master_credentials}
use Rattle.layer_definitions.specs.KeyRefresh.{master_material}

-- the highest 7 of 263 bits
seven_bits : (n : ℕ) → n % 2 ^ 263 / 2 ^ 256 < 2 ^ 7
seven_bits n =
    let below : n % 2 ^ 263 < 2 ^ 7 * 2 ^ 256 = mod-lt n (lit< tt) in (div-lt_iff_lt-mul {k = 2 ^ 256} (lit< tt)).1 below

-- NID has 7 bits (3.8.6.3.1)
pub nid_width : (key : List ℕ) → (master_material key).nid < 2 ^ 7
unfolding master_material master_credentials k2 k2_number
nid_width key = seven_bits _

-- AID has 6 bits (3.8.6.2)
pub aid_width : (key : List ℕ) → aid key < 2 ^ 6
unfolding aid k4
aid_width key = mod-lt _ (lit< tt)
