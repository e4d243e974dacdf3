-- What safety says of a run: a node whose layers are safe reuses no nonce and delivers nothing twice.
use Rattle.std.specs.Prelude.{◌≡◌, ◌≢◌, ◌≤◌, List, AllPairs}
use Rattle.std.specs.List.{flat_map}
use Rattle.mesh_base.specs.declared.pair.Pair.{Pair}
use Rattle.record_types.specs.declared.records.StoreRecord.{StoreRecord}
use Rattle.store_definitions.specs.Config.{Config, config_of}
use Rattle.event_definitions.specs.Layers.{Layers}
use Rattle.event_definitions.specs.Role.{node_role}
use Rattle.event_definitions.specs.Safe.{AreSafe}
use Rattle.run_safety.specs.SafeRole.{IsSafeRole}
use Rattle.mesh_base.specs.Pairs.{word_of}
use Rattle.run_definitions.specs.Order.{Step}
use Rattle.report_definitions.specs.Record.{Life, LifeOver, Run, shown}
use Rattle.run_definitions.specs.RunOf.{LifeOf, RunOf, Script, draws}
use Rattle.run_definitions.specs.Uses.{AtMostOnce, NoReuse, delivered, uses}

-- The pairs that all lines of a run draw are apart.

abbrev pub all_draws : List LifeOver → List Pair
all_draws lives = flat_map (λ x. draws (shown x.life)) lives

-- The laws of a run of a node.

-- no nonce of the node's own addresses seals two different plaintexts under one key
abbrev pub ReusesNoNonce : Type 0
ReusesNoNonce =
    (layers : Layers) → AreSafe layers → (s : Script) (r : Run) → RunOf (node_role layers) s r → NoReuse (uses r)

-- no message is delivered twice
abbrev pub DeliversOnce : Type 0
DeliversOnce =
    (layers : Layers) → AreSafe layers → (s : Script) (r : Run) → RunOf (node_role layers) s r → AtMostOnce (delivered r)

-- no two lines of all lives draw one pair
abbrev pub DrawsApart : Type 0
DrawsApart =
    (layers : Layers) → AreSafe layers → (s : Script) (r : Run) → RunOf (node_role layers) s r
    → AllPairs (λ p q. word_of p ≢ word_of q) (all_draws r.lives)

-- from a life to the next the mark never falls, nor does the known IV Index, and the node keeps its elements
pub record Keeps (before after : Config) : Type 0 where
  pub mark : before.mark ≤ after.mark
  pub current : before.iv.current ≤ after.iv.current
  pub unicast : after.unicast ≡ before.unicast
  pub elements : after.elements ≡ before.elements

abbrev pub LivesKeep : Type 0
LivesKeep =
    (layers : Layers) → AreSafe layers
    → (plan : List Step) (over : List StoreRecord) (l : Life) (next : List StoreRecord)
    → LifeOf (node_role layers) plan over l next → Keeps (config_of over) (config_of next)

-- a node whose layers are safe is a safe kind of node
abbrev pub NodesAreSafe : Type 0
NodesAreSafe = (layers : Layers) → AreSafe layers → IsSafeRole (node_role layers)
