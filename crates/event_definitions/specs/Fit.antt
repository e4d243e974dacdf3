-- What a life asks of the layers above the lower transport layer beside safety: what they store is fit for the store, and what they send
-- comes from this node.
use Rattle.std.specs.Prelude.{◌≡◌, ℕ, ◌<◌, ◌^◌, true, List, [], ◌∷◌, ◌++◌, None, All, ⊤}
use Rattle.mesh_types.specs.declared.events.Event.{Event}
use Rattle.mesh_types.specs.declared.events.Event.TheVariants as E
use Rattle.mesh_types.specs.declared.jobs.Job.{Job}
use Rattle.mesh_types.specs.declared.jobs.Job.TheVariants as J
use Rattle.record_types.specs.declared.records.StoreRecord.{StoreRecord}
use Rattle.record_types.specs.declared.records.StoreRecord.TheVariants as R
use Rattle.event_definitions.specs.Answers.{config_before}
use Rattle.event_definitions.specs.Handling.{IsPast}
use Rattle.event_definitions.specs.History.{Past}
use Rattle.event_definitions.specs.Layers.{AccessMessage, ControlMessage, Layers}
use Rattle.event_definitions.specs.Role.{node_role}
use Rattle.store_definitions.specs.Config.{Config, config_of, is_element}
use Rattle.store_definitions.specs.Following.{AreInOrder, Follows}
use Rattle.store_definitions.specs.Node.{IsWhole, KeepsWhole}
use Rattle.store_definitions.specs.Ranges.{IsInRange}

-- Each record is in range, may follow those before it, and keeps the node whole.
abbrev pub AreStorable : List StoreRecord → List StoreRecord → Type 0
AreStorable before [] = ⊤
AreStorable before (item ∷ items) =
    IsInRange item × Follows before item × KeepsWhole (config_of before) item × AreStorable (before ++ item ∷ []) items

-- what is sent has an element's address as SRC; a PDU that goes on has that of the node that sent it
abbrev pub IsOwn : Config → Job → Type 0
IsOwn c (J.Control material ttl src dst tpdu keep) = is_element c src.0 ≡ true
IsOwn c (J.Message net material key ttl src dst payload keep) = is_element c src.0 ≡ true
IsOwn c (J.Sent net material key ttl src dst) = is_element c src.0 ≡ true
IsOwn c (J.Segment s) = is_element c s.name.src.0 ≡ true
IsOwn c _ = ⊤

-- the elements are those of before
pub record HasElements (past : Past) (c : Config) : Type 0 where
  pub unicast : c.unicast ≡ (config_before past).unicast
  pub elements : c.elements ≡ (config_before past).elements

-- An event of this node: what it is asked to send, and a segmented message that begins, go from an element.
abbrev pub IsOwnEvent : Config → Event → Type 0
IsOwnEvent c (E.Send element dst ttl key payload) = element < c.elements
IsOwnEvent c (E.Begin m) = is_element c m.name.src.0 ≡ true
IsOwnEvent c _ = ⊤

abbrev pub HasOwnEvents : Past → Type 0
HasOwnEvents past = All (λ t. IsOwnEvent (config_before past) t.entry.event) past.told

pub record AreFit (layers : Layers) : Type 0 where
  -- after the record of a message in a node that is whole, whose records may each follow those before it
  pub changes : (past : Past) (m : AccessMessage) → IsPast (node_role layers) past → IsWhole (config_before past)
      → AreInOrder [] past.records
      → All (λ octet. octet < 2 ^ 8) m.payload
      → AreStorable (past.records ++ R.Replay m.name None ∷ []) (layers.changes past m)
  pub acks_due : (past : Past) (c : Config) (ticks : ℕ) → IsPast (node_role layers) past → HasElements past c
      → All (IsOwn c) (layers.acks_due past c ticks)
  pub segments_due : (past : Past) (c : Config) (ticks : ℕ) → IsPast (node_role layers) past → HasOwnEvents past
      → HasElements past c
      → All (IsOwn c) (layers.segments_due past c ticks)
  -- in a node that is whole
  pub control_jobs : (past : Past) (c : Config) (m : ControlMessage) → IsPast (node_role layers) past → IsWhole (config_before past)
      → HasOwnEvents past
      → HasElements past c → All (IsOwn c) (layers.control_jobs past c m)
  pub replies : (past : Past) (c : Config) (m : AccessMessage) → IsPast (node_role layers) past → IsWhole (config_before past)
      → HasElements past c
      → All (IsOwn c) (layers.replies past c m)
  pub published : (past : Past) (c : Config) (ticks : ℕ) → IsPast (node_role layers) past → IsWhole (config_before past)
      → HasElements past c
      → All (IsOwn c) (layers.published past c ticks)
