-- What a store says, as a world of numbers and messages, and the steps of the world that a record takes there.
use Rattle.std.specs.Prelude.{◌≡◌, ℕ, ◌==◌, if◌then◌else◌, List, Option, Some, IfSome}
use Rattle.mesh_base.specs.declared.address.Address.{Address}
use Rattle.mesh_base.specs.declared.pair.Name.{Name}
use Rattle.mesh_base.specs.declared.pair.Pair.{Pair}
use Rattle.mesh_world.specs.World.{World, WorldStep, AreAllowed, after_all, IsNewer}
use Rattle.node_records.specs.declared.persist.Persist.{Persist}
use Rattle.node_records.specs.Tables.{entry_in}
use Rattle.store_definitions.specs.Entries.{unexpired}

-- The world is one of a node whose store says this, and whose published mark is this one. Of each source both have the same entry up to
-- expiry: an expired one may stand in the world and not in the store, since it holds nothing back.
pub record IsWorldOf (w : World) (p : Persist) (published : ℕ) : Type 0 where
  pub current : w.current ≡ p.iv.current
  pub kept : w.kept ≡ p.mark
  pub mark : w.mark ≡ published
  pub entries : (src : Address) → unexpired w.current (w.entry src) ≡ entry_in p src.0

-- Each of the steps may be taken where it stands, and they lead to a world of this store and this published mark.
pub record GoesBy (steps : List WorldStep) (w : World) (p : Persist) (published : ℕ) : Type 0 where
  pub allowed : AreAllowed w steps
  pub world : IsWorldOf (after_all w steps) p published

-- a pair is newer than the entry of its source, if there is one
abbrev pub IsAboveKept : Option Pair → Pair → Type 0
IsAboveKept entry p = IfSome entry (λ kept. IsNewer p kept)

-- the entries of all sources with this name's pair for its source
abbrev pub entry_with : Name → (ℕ → Option Pair) → ℕ → Option Pair
entry_with name entry src = if src == name.src.0 then Some name.pair else entry src
