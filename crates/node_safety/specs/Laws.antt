-- What every run of a node with given layers is: safe.
use Rattle.event_definitions.specs.Layers.{Layers}
use Rattle.event_definitions.specs.Role.{node_role}
use Rattle.report_definitions.specs.Record.{Run}
use Rattle.run_definitions.specs.RunOf.{RunOf, Script}
use Rattle.run_definitions.specs.Uses.{AtMostOnce, NoReuse, delivered, uses}

-- no run of a node with these layers reuses a nonce
abbrev pub RunsReuseNothing : Layers → Type 0
RunsReuseNothing layers = (s : Script) (r : Run) → RunOf (node_role layers) s r → NoReuse (uses r)

-- none delivers a message twice
abbrev pub RunsDeliverOnce : Layers → Type 0
RunsDeliverOnce layers = (s : Script) (r : Run) → RunOf (node_role layers) s r → AtMostOnce (delivered r)
