use Rattle.std.proofs.Common.{ℕ, List, subst, sym}
use Rattle.event_definitions.specs.Role.{node_role}
use Rattle.machine_standing.proofs.Taken.{stands_taken}
use Rattle.machine_ties.proofs.Standings.{before_taken}
use Rattle.machine_ties.specs.Ties.{IsBefore, Stands}
use Rattle.machine_ties.specs.Views.{NodeMachine}
use Rattle.mesh_machine.specs.Handling.{machine_of}
use Rattle.mesh_types.specs.declared.history.Entry.{Entry}
use Rattle.node_layers.specs.NodeLayers.{node_layers}
use Rattle.mesh_machine.proofs.state.MeshState.take.Goals as goal

pub returns-clause-kept : goal.returns-clause-kept
returns-clause-kept g c first f over s =
    let i = c.self.inside in
    let m : NodeMachine = machine_of i.parts i.fills i.closed i.hand i.elements in
    let n = c.take.new.self.taken in
    subst (λ (l : List Entry). Stands first (g.F.Flash.chip f) over (record m { entries = l; moves = c.take.new.self.moves; taken = n })) (sym c.take.ensures.entries)
    (subst (λ (l : List ℕ). Stands first (g.F.Flash.chip f) over (record m { moves = l; taken = n })) (sym c.take.ensures.moves)
    (stands_taken (node_role node_layers) IsBefore before_taken first (g.F.Flash.chip f) over m n (subst (λ (v : NodeMachine). Stands first (g.F.Flash.chip f) over v) (sym c.self.view_is) s)))
