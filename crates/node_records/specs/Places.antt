-- The places of the replay list, by its rows that aren't expired.
use Rattle.std.specs.Prelude.{◌≡◌, ℕ, ◌≤◌, ◌==◌, ◌&&◌, not, false, Bool, if◌then◌else◌, List, [], ◌∷◌, ◌++◌, length, filter}
use Rattle.std.specs.List.{list_any}
use Rattle.node_limits.specs.declared.TheConstants.{REPLAY_ENTRIES}
use Rattle.mesh_base.specs.declared.pair.Name.{Name}
use Rattle.mesh_base.specs.Pairs.{is_expired}

-- the rows that aren't expired
abbrev pub live_of : ℕ → List Name → List Name
live_of current rows = filter (λ row. not (is_expired current row.pair)) rows

-- whether a source has a row
abbrev pub has_row : List Name → ℕ → Bool
has_row rows src = list_any (λ row. row.src.0 == src) rows

-- a name brings a row more that isn't expired
abbrev pub adds_live : ℕ → List Name → Name → Bool
adds_live current live name = not (has_row live name.src.0) && not (is_expired current name.pair)

-- the unexpired rows with one name more, as far as places go
abbrev pub live_with : ℕ → List Name → Name → List Name
live_with current live name = if adds_live current live name then live ++ name ∷ [] else live

-- A name has no place: its source has no row among the unexpired ones, and these take all places.
pub record LacksPlace (live : List Name) (name : Name) : Type 0 where
  pub none : has_row live name.src.0 ≡ false
  pub held : REPLAY_ENTRIES ≤ length live
