-- When a message is accepted, and what that leaves.
use Rattle.std.specs.Prelude.{◌≡◌, ◌⊎◌, ℕ, ◌+◌, false, Option, Some, None}
use Rattle.mesh_base.specs.declared.pair.Name.{Name}
use Rattle.mesh_base.specs.declared.pair.Pair.{Pair}
use Rattle.mesh_base.specs.Pairs.{is_newer}
use Rattle.record_types.specs.declared.records.StoreRecord.{StoreRecord}
use Rattle.record_types.specs.declared.records.StoreRecord.TheVariants as R

-- the source has an entry, and the pair isn't newer
abbrev pub IsNoNewer : Option Pair → Pair → Type 0
IsNoNewer None p = ⊥
IsNoNewer (Some kept) p = is_newer p kept ≡ false

-- a PDU of this IV Index is read: it is the known one or one less
abbrev pub IsReadUnder : ℕ → Name → Type 0
IsReadUnder current name = (name.pair.iv ≡ current) ⊎ (name.pair.iv + 1 ≡ current)

-- the record of a message
abbrev pub accepting : Name → StoreRecord
accepting name = R.Replay name None
