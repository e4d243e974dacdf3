-- The replay list as the records say it: an entry for each source that has one.
use Rattle.std.specs.Prelude.{ℕ, ◌==◌, ◌&&◌, not, nat_lt, Bool, if◌then◌else◌, List, [], ◌∷◌, length, Option, Some, None, is_some, fold, filter}
use Rattle.std.specs.List.{list_any}
use Rattle.std.specs.Option.{option_to_list}
use Rattle.node_limits.specs.declared.TheConstants.{REPLAY_ENTRIES}
use Rattle.mesh_base.specs.declared.pair.Name.{Name}
use Rattle.mesh_base.specs.declared.pair.Pair.{Pair}
use Rattle.record_types.specs.declared.records.StoreRecord.{StoreRecord}
use Rattle.record_types.specs.declared.records.StoreRecord.TheVariants as R
use Rattle.mesh_base.specs.Pairs.{newer_of, is_expired}
use Rattle.store_definitions.specs.Config.{config_of}

-- with one pair more
abbrev pub greatest_with : Option Pair → Pair → Option Pair
greatest_with None p = Some p
greatest_with (Some q) p = Some (newer_of q p)

-- the names that a record says were accepted, in their order
abbrev pub names_in : StoreRecord → List Name
names_in (R.Replay first second) = first ∷ option_to_list second
names_in _ = []

-- with one name more, if it is of this source
abbrev pub kept_with : ℕ → Option Pair → Name → Option Pair
kept_with src kept name = if name.src.0 == src then greatest_with kept name.pair else kept

-- with one record more
abbrev pub kept_after : ℕ → Option Pair → StoreRecord → Option Pair
kept_after src kept item = fold (kept_with src) kept (names_in item)

-- the greatest pair of a source among the names of the Replay records
abbrev pub kept_of : List StoreRecord → ℕ → Option Pair
kept_of records src = fold (kept_after src) None records

-- a pair, if it isn't expired
abbrev pub unexpired : ℕ → Option Pair → Option Pair
unexpired current None = None
unexpired current (Some p) = if is_expired current p then None else Some p

-- The entry of a source: the greatest pair of its names in the Replay records, or none where there is none or it is expired under the IV Index
-- that the whole list says.
abbrev pub entry_of : List StoreRecord → ℕ → Option Pair
entry_of records src = unexpired (config_of records).iv.current (kept_of records src)

-- the sources of the names, each once
abbrev pub sources_with : List ℕ → Name → List ℕ
sources_with srcs name = if list_any (λ s. s == name.src.0) srcs then srcs else name.src.0 ∷ srcs

abbrev pub sources_after : List ℕ → StoreRecord → List ℕ
sources_after srcs item = fold sources_with srcs (names_in item)

abbrev pub sources_of : List StoreRecord → List ℕ
sources_of records = fold sources_after [] records

-- how many other sources have an entry
abbrev pub others_held : List StoreRecord → ℕ → ℕ
others_held records src = length (filter (λ s. not (s == src) && is_some (entry_of records s)) (sources_of records))

-- A source without an entry has room where fewer others have one than the replay list has entries.
abbrev pub has_room : List StoreRecord → ℕ → Bool
has_room records src = nat_lt (others_held records src) REPLAY_ENTRIES
