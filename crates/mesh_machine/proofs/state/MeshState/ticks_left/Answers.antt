use Rattle.std.proofs.Common.{subst, sym}
use Rattle.event_definitions.specs.History.{Past}
use Rattle.event_plans.specs.Memory.{AreNodeTablesOf}
use Rattle.machine_ties.specs.Ties.{IsBefore}
use Rattle.machine_ties.specs.Views.{NodeMachine}
use Rattle.node_records.specs.Meaning.{IsMeaningOf}
use Rattle.node_records.specs.declared.persist.Persist.{Persist}
use Rattle.mesh_machine.proofs.state.MeshState.ticks_left.Goals as goal
use Rattle.mesh_machine.proofs.state.MeshState.ticks_left.Goals.{After-due}

tables : (c : After-due) (past : Past) → IsBefore past c.args.self.now → AreNodeTablesOf c.self.inside.parts.tables past
tables c past b =
    let Stand : NodeMachine → Type 0 = λ m. AreNodeTablesOf m.tables past in
    subst Stand (sym c.self.view_is) b.standing.tables

means : (c : After-due) (past : Past) → IsBefore past c.args.self.now → IsMeaningOf past.records c.persist.result.now
means c past b =
    let Mean : NodeMachine → Type 0 = λ m. IsMeaningOf past.records m.reserve.store.persist in
    let Say : Persist → Type 0 = λ p. IsMeaningOf past.records p in
    subst Say (sym c.persist.ensures.value) (subst Mean (sym c.self.view_is) b.standing.meaning)

pub returns-clause-quiet : goal.returns-clause-quiet
returns-clause-quiet c = λ past live b. c.due.ensures.quiet past (means c past b) (tables c past b)

pub returns-clause-reached : goal.returns-clause-reached
returns-clause-reached c = λ past live b. c.due.ensures.reached past (means c past b) (tables c past b)
