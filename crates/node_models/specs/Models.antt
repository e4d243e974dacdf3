-- The models of a node in memory: the past that they stand for, and what an entry or a refill more leaves of that.
use Rattle.std.specs.Prelude.{◌≡◌, ℕ, ◌≤◌, Bool, false, true, List, length, None}
use Rattle.element_models.specs.Models.{AreModelsOf, over}
use Rattle.element_models.specs.declared.servers.Servers.{Servers}
use Rattle.layer_states.specs.Friends.{FriendsState}
use Rattle.mesh_types.specs.declared.answers.Answer.{Answer}
use Rattle.mesh_types.specs.declared.answers.Answer.TheVariants as A
use Rattle.model_publish.specs.Own.{AreRowsOf}
use Rattle.model_states.specs.Publication.{Published}
use Rattle.node_layers.specs.Friendship.{act_of, config_after}
use Rattle.node_layers.specs.Models.{delivered_by}
use Rattle.node_layers.specs.Publishing.{published}
use Rattle.node_layers.specs.Steps.{with_entry}
use Rattle.node_records.specs.declared.persist.Persist.{Persist}
use Rattle.record_types.specs.declared.records.StoreRecord.{StoreRecord}
use Rattle.event_definitions.specs.Answers.{config_before}
use Rattle.event_definitions.specs.History.{Past, Told}
use Rattle.event_definitions.specs.Layers.{AccessMessage}
use Rattle.store_definitions.specs.Config.{config_of}
use Rattle.store_definitions.specs.Numbers.{filled}

-- the servers of the elements, and what is published
pub record ModelsView : Type 0 where
  pub servers : List Servers
  pub published : Published

-- These are the models of a node with this past.
pub record AreNodeModelsOf (m : ModelsView) (past : Past) : Type 0 where
  pub servers : AreModelsOf m.servers past
  pub published : m.published ≡ published past

-- There are servers for each of at most 4 elements, and rows of their models alone, in their order: so there are at most 8.
pub record AreWithin (m : ModelsView) (p : Persist) : Type 0 where
  pub elements : length m.servers ≡ p.elements
  pub few : p.elements ≤ 4
  pub rows : AreRowsOf p.unicast.0 p.elements m.published.rows

-- the elements that records say are those of before
pub record KeepElements (before after : List StoreRecord) : Type 0 where
  pub unicast : (config_of after).unicast ≡ (config_of before).unicast
  pub elements : (config_of after).elements ≡ (config_of before).elements

-- an answer that tells of time
abbrev pub is_ticked : Answer → Bool
is_ticked (A.Ticked now) = true
is_ticked _ = false

-- An entry that delivers no message and tells of no time leaves what they stand for, whatever records stand behind it, as long as the node has
-- as many elements.
abbrev pub GoOn : Type 0
GoOn =
    (m : ModelsView) (past : Past) (t : Told) (records : List StoreRecord)
    → AreNodeModelsOf m past → t.records ≡ past.records → delivered_by t ≡ None → is_ticked t.entry.answer ≡ false
    → (config_of records).elements ≡ (config_before past).elements
    → AreNodeModelsOf m (with_entry past.told t records)

-- so does any number of refills
abbrev pub StandRefilled : Type 0
StandRefilled =
    (m : ModelsView) (past : Past) (fills : ℕ) → AreNodeModelsOf m past
    → AreNodeModelsOf m (over past (filled fills past.records))

-- A value that says the same elements has these models within its bounds too.
abbrev pub StayWithin : Type 0
StayWithin =
    (m : ModelsView) (p q : Persist) → q.unicast ≡ p.unicast → q.elements ≡ p.elements → AreWithin m p → AreWithin m q

-- What the Configuration Server is asked for leaves the address of the node.
abbrev pub KeepsAddress : Type 0
KeepsAddress =
    (past : Past) (st : FriendsState) (m : AccessMessage)
    → (config_after (config_before past) (act_of past st m)).unicast ≡ (config_before past).unicast
