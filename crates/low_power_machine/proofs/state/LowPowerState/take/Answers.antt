use Rattle.std.proofs.Common.{ℕ, List, subst, sym}
use Rattle.machine_standing.proofs.Taken.{stands_taken}
use Rattle.low_power_machine.proofs.Kind.{before_taken}
use Rattle.low_power_machine.specs.Parts.{machine_of}
use Rattle.low_power_machine.specs.Views.{IsBefore, LowPowerNode, Stands}
use Rattle.low_power_role.specs.Role.{low_power_role}
use Rattle.mesh_types.specs.declared.history.Entry.{Entry}
use Rattle.low_power_machine.proofs.state.LowPowerState.take.Goals as goal

pub returns-clause-kept : goal.returns-clause-kept
returns-clause-kept g c first f over s =
    let i = c.self.inside in
    let m : LowPowerNode = machine_of i.reserve i.memory i.history i.fills i.closed i.hand i.elements in
    let n = c.take.new.self.taken in
    subst (λ (l : List Entry). Stands first (g.F.Flash.chip f) over (record m { entries = l; moves = c.take.new.self.moves; taken = n })) (sym c.take.ensures.entries)
    (subst (λ (l : List ℕ). Stands first (g.F.Flash.chip f) over (record m { moves = l; taken = n })) (sym c.take.ensures.moves)
    (stands_taken low_power_role IsBefore before_taken first (g.F.Flash.chip f) over m n (subst (λ (v : LowPowerNode). Stands first (g.F.Flash.chip f) over v) (sym c.self.view_is) s)))
