-- The ranges of a record's fields: what a slot's octets count as a record with.
use Rattle.std.specs.Prelude.{◌≡◌, ℕ, ◌+◌, ◌*◌, ◌%◌, ◌^◌, ◌<◌, ◌≤◌, ◌==◌, ◌&&◌, ◌||◌, nat_lt, nat_le, Bool, false, IsTrue, if◌then◌else◌, List, length, replicate, All, MatchBool, IfSome, ⊤, ◌⊎◌}
use Rattle.node_limits.specs.declared.TheConstants.{ELEMENTS}
use Rattle.mesh_base.specs.IvState.{HasTransmit, transmit_of}
use Rattle.mesh_base.specs.declared.iv_state.IvState.{IvState}
use Rattle.mesh_base.specs.declared.pair.Name.{Name}
use Rattle.record_types.specs.declared.records.StoreRecord.{StoreRecord}
use Rattle.record_types.specs.declared.records.StoreRecord.TheVariants as R

-- sixteen octets
pub record IsKey (key : List ℕ) : Type 0 where
  pub size : length key ≡ 16
  pub octets : All (λ octet. octet < 2 ^ 8) key

-- a key where the op needs one, and else zeros
abbrev pub IsKeyOf : Bool → List ℕ → Type 0
IsKeyOf needed key = MatchBool needed (IsKey key) (key ≡ replicate 16 0)

-- A mark is a word under the transmit IV Index: its SEQ is a multiple of 256, and at most 2^24.
pub record IsMark (s : IvState) (mark : ℕ) : Type 0 where
  pub seq : ℕ
  pub word : mark ≡ transmit_of s * 2 ^ 25 + seq
  pub most : seq ≤ 2 ^ 24
  pub block : seq % 256 ≡ 0

-- the values that a feature may be set to: 1 beacon, 2 Default TTL, 3 friend, 4 relay with its retransmissions, 5 network transmit
abbrev pub is_feature : ℕ → ℕ → Bool
is_feature which value =
    if which == 1 then nat_le value 1
    else if which == 2 then value == 0 || (nat_le 2 value && nat_le value 0x7f)
    else if which == 3 then nat_le value 1
    else if which == 4 then nat_lt value 512
    else if which == 5 then nat_lt value 256
    else false

-- the fields of a name are within their widths
pub record IsNameInRange (name : Name) : Type 0 where
  pub src : name.src.0 < 2 ^ 16
  pub iv : name.pair.iv < 2 ^ 32
  pub seq : name.pair.seq < 2 ^ 24

-- a name whose octets are zeros, which stand for no second name
abbrev pub is_zeros : Name → Bool
is_zeros name = name.src.0 == 0 && name.pair.iv == 0 && name.pair.seq == 0

abbrev pub IsInRange : StoreRecord → Type 0
IsInRange (R.Identity unicast elements dev_key) =
    (1 ≤ elements) × (elements ≤ ELEMENTS) × (1 ≤ unicast.0) × (unicast.0 + elements ≤ 2 ^ 15) × IsKey dev_key
IsInRange (R.Numbers current progress mark hours since) =
    (current < 2 ^ 32)
    × HasTransmit (record { current = current; progress = progress; hours = hours; since = since })
    × IsMark (record { current = current; progress = progress; hours = hours; since = since }) mark
    × (hours < 2 ^ 16) × (since < 2 ^ 16)
IsInRange (R.Hour hours since) = (hours < 2 ^ 16) × (since < 2 ^ 16)
IsInRange (R.Replay first second) =
    IsNameInRange first × IfSome second (λ name. IsNameInRange name × (is_zeros name ≡ false))
IsInRange (R.NetKey op index key) = (1 ≤ op) × (op ≤ 5) × (index ≤ 0xfff) × IsKeyOf (nat_le op 2) key
IsInRange (R.AppKey op net index key) =
    (1 ≤ op) × (op ≤ 3) × (net ≤ 0xfff) × (index ≤ 0xfff) × IsKeyOf (nat_le op 2) key
IsInRange (R.Bind op element model app) = (1 ≤ op) × (op ≤ 2) × (element.0 < 2 ^ 16) × (model < 2 ^ 16) × (app ≤ 0xfff)
IsInRange (R.Subscribe op element model address) =
    (1 ≤ op) × (op ≤ 4) × (element.0 < 2 ^ 16) × (model < 2 ^ 16) × (address.0 < 2 ^ 16)
IsInRange (R.Feature which value) = IsTrue (is_feature which value)
IsInRange R.Reset = ⊤
IsInRange (R.Model element model value) =
    (element < ELEMENTS) × (((model ≡ 0x1000) × (value < 2)) ⊎ ((model ≡ 0x1002) × (value < 2 ^ 16)))
IsInRange (R.Label op element model label) =
    IsTrue (op == 1 || op == 2 || op == 4) × (element.0 < 2 ^ 16) × (model < 2 ^ 16) × IsKey label
IsInRange (R.Publish row) =
    (row.element.0 < 2 ^ 16) × (row.model < 2 ^ 16) × (row.address.0 < 2 ^ 16) × (row.app ≤ 0xfff)
    × IsTrue (nat_le row.ttl 0x7f || row.ttl == 0xff) × (row.period < 2 ^ 8) × (row.retransmit < 2 ^ 8)
