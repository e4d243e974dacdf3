use Rattle.std.proofs.Common.{List, subst, sym}
use Rattle.mesh_hearing.specs.Tables.{AreTablesOf}
use Rattle.node_friends.specs.Steps.{AreFriendsOf}
use Rattle.event_definitions.specs.History.{Told}
use Rattle.event_plans.proofs.tables.NodeTables.new.Goals as goal

pub returns-clause-opened : goal.returns-clause-opened
returns-clause-opened c past meaning none = record {
  hearing = subst (λ (told : List Told). AreTablesOf c.in_ok-hearing.hearing told) (sym none) c.in_ok-hearing.ensures.tables;
  models = c.open.ensures.opened past meaning none;
  friends = subst (λ (told : List Told). AreFriendsOf c.new-2.result told) (sym none) c.new-2.ensures.entries;
}
