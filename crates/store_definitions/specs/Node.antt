-- What the records of a node that can be run say, and which records keep it.
use Rattle.std.specs.Prelude.{◌≡◌, ◌≢◌, ℕ, ◌+◌, ◌≤◌, ◌^◌, ◌<◌, ◌==◌, ◌&&◌, not, nat_le, false, true, Bool, ⊤, IsTrue, List, [], ◌∷◌, ◌++◌, All, is_some, if◌then◌else◌}
use Rattle.std.specs.List.{list_any}
use Rattle.node_limits.specs.declared.TheConstants.{ELEMENTS}
use Rattle.layer_definitions.specs.KeyRefresh.{net_row}
use Rattle.mesh_base.specs.IvState.{HasTransmit}
use Rattle.mesh_base.specs.declared.keys.AppKeyRow.{AppKeyRow}
use Rattle.mesh_base.specs.declared.keys.NetKeyRow.{NetKeyRow}
use Rattle.record_types.specs.declared.records.StoreRecord.{StoreRecord}
use Rattle.record_types.specs.declared.records.StoreRecord.TheVariants as R
use Rattle.store_definitions.specs.Config.{Config, config_of}
use Rattle.store_definitions.specs.Ranges.{IsMark}

-- a network key has its next key exactly in phases 1 and 2 (Mesh Profile 1.0.1, section 3.10.4)
pub record IsPhased (row : NetKeyRow) : Type 0 where
  pub phase : row.phase ≤ 2
  pub next : is_some row.next ≡ nat_le 1 row.phase

-- whether the network key of this index is held
abbrev pub is_held : List NetKeyRow → ℕ → Bool
is_held nets index = is_some (net_row nets index)

-- There is an identity, an IV state with its mark, a network key, a next key exactly where it belongs, and the network key of each
-- application key.
pub record IsWhole (c : Config) : Type 0 where
  pub some : 1 ≤ c.elements
  pub few : c.elements ≤ ELEMENTS
  pub unicast : 1 ≤ c.unicast.0
  pub last : c.unicast.0 + c.elements ≤ 2 ^ 15
  pub current : c.iv.current < 2 ^ 32
  pub transmit : HasTransmit c.iv
  pub mark : IsMark c.iv c.mark
  pub nets : c.nets ≢ []
  pub phased : All IsPhased c.nets
  pub bound : All (λ a. is_held c.nets a.net ≡ true) c.apps

-- The records are those of a node that can be run, or there was a Node Reset.
abbrev pub IsNodeOrReset : List StoreRecord → Type 0
IsNodeOrReset records = (config_of records).reset ≡ false → IsWhole (config_of records)

-- whether another network key is held
abbrev pub has_other_net : List NetKeyRow → ℕ → Bool
has_other_net nets index = list_any (λ r. not (r.index == index)) nets

-- whether the network key of this index, if it is held, has a next key
abbrev pub HasNext : ℕ → NetKeyRow → Type 0
HasNext index row = row.index ≡ index → is_some row.next ≡ true

-- A record that keeps a node whole: phase 2 comes where there is a next key, the last network key stays, and an application key comes under
-- a network key that is held. What configuration, beacons, ticks, refills and accepted messages store is so.
abbrev pub KeepsWhole : Config → StoreRecord → Type 0
KeepsWhole c (R.NetKey op index key) =
    (op ≡ 3 → All (HasNext index) c.nets) × (op ≡ 5 → has_other_net c.nets index ≡ true)
KeepsWhole c (R.AppKey op net index key) = op ≡ 1 → is_held c.nets net ≡ true
KeepsWhole c _ = ⊤
