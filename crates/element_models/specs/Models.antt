-- The servers of a life in memory: the past that they stand for, and what an entry or records more leave of that.
use Rattle.std.specs.Prelude.{◌≡◌, ℕ, ◌≤◌, Bool, true, false, IsTrue, List, [], ◌++◌, map, All, None}
use Rattle.element_models.specs.declared.servers.Servers.{Servers}
use Rattle.node_layers.specs.Models.{delivered_by, elements_of, level_state, onoff_state}
use Rattle.node_layers.specs.Steps.{with_entry}
use Rattle.node_records.specs.Meaning.{IsSaid}
use Rattle.node_records.specs.declared.persist.Persist.{Persist}
use Rattle.record_types.specs.declared.records.StoreRecord.{StoreRecord}
use Rattle.record_types.specs.declared.records.StoreRecord.TheVariants as R
use Rattle.event_definitions.specs.Answers.{config_before}
use Rattle.event_definitions.specs.History.{Past, Told}
use Rattle.store_definitions.specs.Config.{config_of}
use Rattle.store_definitions.specs.Numbers.{filled}

-- the states of an element's servers
abbrev pub servers_of : Past → ℕ → Servers
servers_of past element = record { onoff = onoff_state past element; level = level_state past element }

-- These are the servers of a node with this past: of each of its elements, in their order, the states that the messages delivered so far lead to.
pub record AreModelsOf (servers : List Servers) (past : Past) : Type 0 where
  pub states : servers ≡ map (servers_of past) (elements_of (config_before past))

-- An entry that delivers no message leaves what they stand for, whatever records stand behind it, as long as the node has as many elements.
abbrev pub GoOn : Type 0
GoOn =
    (servers : List Servers) (past : Past) (t : Told) (records : List StoreRecord)
    → AreModelsOf servers past → t.records ≡ past.records → delivered_by t ≡ None
    → (config_of records).elements ≡ (config_before past).elements
    → AreModelsOf servers (with_entry past.told t records)

-- what stands before an event, over other records
abbrev pub over : Past → List StoreRecord → Past
over past records = record { told = past.told; records = records }

-- Other records leave it too, as long as the node has as many elements, and before the first entry the same values kept.
abbrev pub StandOver : Type 0
StandOver =
    (servers : List Servers) (past : Past) (records : List StoreRecord) → AreModelsOf servers past
    → (config_of records).elements ≡ (config_before past).elements
    → (past.told ≡ []
    → ((config_of records).onoffs ≡ (config_before past).onoffs)
    × ((config_of records).levels ≡ (config_before past).levels))
    → AreModelsOf servers (over past records)

-- a record that tells neither what the node is nor the value of a model
abbrev pub is_apart : StoreRecord → Bool
is_apart (R.Identity unicast elements dev_key) = false
is_apart (R.Model element model value) = false
is_apart _ = true

-- So do records behind those before, that tell neither what the node is nor the value of a model, and any number of refills.
abbrev pub StandWith : Type 0
StandWith =
    (servers : List Servers) (past : Past) (items : List StoreRecord) → AreModelsOf servers past
    → All (λ item. IsTrue (is_apart item)) items → AreModelsOf servers (over past (past.records ++ items))

abbrev pub StandRefilled : Type 0
StandRefilled =
    (servers : List Servers) (past : Past) (fills : ℕ) → AreModelsOf servers past
    → AreModelsOf servers (over past (filled fills past.records))

-- a record that doesn't tell what the node is
abbrev pub is_no_identity : StoreRecord → Bool
is_no_identity (R.Identity unicast elements dev_key) = false
is_no_identity _ = true

-- Only an Identity changes how many elements there are.
abbrev pub KeepElements : Type 0
KeepElements =
    (records items : List StoreRecord) → All (λ item. IsTrue (is_no_identity item)) items
    → (config_of (records ++ items)).elements ≡ (config_of records).elements

-- A value that records in range say has at most 4 elements.
abbrev pub AreFew : Type 0
AreFew = (p : Persist) → IsSaid p → p.elements ≤ 4
