-- A machine as its own clauses see it, and what it shows of itself.
use Rattle.event_plans.specs.Memory.{NodeTablesView}
use Rattle.machine_contract.specs.View.{MachineView}
use Rattle.machine_standing.specs.Views.{LifeMachine, shown_of}

-- with the tables, the models and the friendships in memory
abbrev pub NodeMachine : Type 0
NodeMachine = LifeMachine NodeTablesView

abbrev pub shown : NodeMachine → MachineView
shown m = shown_of m
