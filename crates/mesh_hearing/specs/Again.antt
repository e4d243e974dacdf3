-- The names of messages that were accepted from segments, as far as the answer `again` asks for them: of each source the newest.
use Rattle.std.specs.Prelude.{ℕ, ◌+◌, ◌≤◌, ◌==◌, not, nat_lt, Bool, false, ⊤, IsTrue, if◌then◌else◌, List, [], ◌∷◌, fold}
use Rattle.std.specs.List.{list_all}
use Rattle.std.specs.Option.{option_map_or}
use Rattle.mesh_base.specs.Pairs.{is_newer, newer_of}
use Rattle.mesh_base.specs.declared.pair.Name.{Name}
use Rattle.node_layers.specs.Steps.{segmented_names}
use Rattle.record_types.specs.declared.records.StoreRecord.{StoreRecord}
use Rattle.event_definitions.specs.History.{Past}
use Rattle.store_definitions.specs.Entries.{kept_of}

-- the newer of a name and another one of its source
abbrev pub newer_name : Name → Name → Name
newer_name m n = record m { pair = newer_of m.pair n.pair }

-- with one name more: it takes the place of an older one of its source; sources stand by their addresses
abbrev pub name_with : List Name → Name → List Name
name_with [] n = n ∷ []
name_with (m ∷ ms) n =
    if nat_lt m.src.0 n.src.0 then m ∷ name_with ms n
    else if m.src.0 == n.src.0 then newer_name m n ∷ ms
    else n ∷ m ∷ ms

abbrev pub newest_of : List Name → List Name
newest_of names = fold name_with [] names

-- The sources rise, from this address on: none stands twice.
abbrev pub IsRising : ℕ → List Name → Type 0
IsRising least [] = ⊤
IsRising least (m ∷ ms) = (least ≤ m.src.0) × IsRising (m.src.0 + 1) ms

-- a message that the store has recorded: the greatest pair of its source isn't below it
abbrev pub is_recorded : List StoreRecord → Name → Bool
is_recorded records n = option_map_or (λ kept. not (is_newer n.pair kept)) (kept_of records n.src.0) false

-- Each message that was accepted from segments is recorded. A node meets this since an accepted message is recorded before its answer, and no
-- record of it is ever taken back in a life.
abbrev pub AreRecorded : Past → Type 0
AreRecorded past = IsTrue (list_all (is_recorded past.records) (segmented_names past.told))
