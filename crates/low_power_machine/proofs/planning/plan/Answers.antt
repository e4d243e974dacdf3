use Rattle.std.proofs.Common.{List, ℕ, sym, subst}
use Rattle.low_power_machine.proofs.Rows.{planned_dropped, planned_told, untold}
use Rattle.low_power_machine.specs.Plans.{IsPlanned}
use Rattle.low_power_machine.specs.declared.plan.Plan.{Plan}
use Rattle.mesh_types.specs.declared.events.Event.{Event}
use Rattle.mesh_types.specs.declared.events.Event.TheVariants as E
use Rattle.low_power_machine.proofs.planning.plan.Goals as goal

pub returns-in-Net-clause-planned : goal.returns-in-Net-clause-planned
returns-in-Net-clause-planned c past meaning is =
    subst (λ (e : Event). IsPlanned past e c.hear.result c.hear.new.memory.lpn) (sym c.in-Net.is)
    (subst (λ (l : List ℕ). IsPlanned past (E.Net l) c.hear.result c.hear.new.memory.lpn) c.as_slice.ensures.value (c.hear.ensures.planned past meaning is))

pub returns-in-LowPower-clause-planned : goal.returns-in-LowPower-clause-planned
returns-in-LowPower-clause-planned c past meaning is =
    subst (λ (e : Event). IsPlanned past e c.tell.result c.tell.new.memory.lpn) (sym c.in-LowPower.is)
    (planned_told past c.in-LowPower.what c.tell.result c.args.memory.now.lpn c.tell.new.memory.lpn is c.tell.ensures.told)

pub returns-in_default-clause-planned : goal.returns-in_default-clause-planned
returns-in_default-clause-planned c past meaning is =
    subst (λ (p : Plan). IsPlanned past c.args.event.now p c.args.memory.now.lpn) (sym c.answered.ensures)
    (planned_dropped past c.args.event.now c.args.memory.now.lpn is (untold c.args.event.now c.in_default.not-Net c.in_default.not-LowPower))
