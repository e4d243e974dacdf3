use Rattle.std.proofs.Common.{Some, sym, subst}
use Rattle.low_power_machine.proofs.Rows.{heard_early}
use Rattle.low_power_machine.specs.Plans.{IsHeardSo}
use Rattle.low_power_machine.specs.declared.plan.Plan.{Plan}
use Rattle.mesh_reading.specs.Held.{reading_of}
use Rattle.low_power_machine.proofs.hearing.hear_low.Goals as goal

pub returns-in-Some-clause-heard : goal.returns-in-Some-clause-heard
returns-in-Some-clause-heard c past meaning is =
    subst (λ (p : Plan). IsHeardSo past (reading_of c.args.r.now) (Some c.args.low.now) p c.early_row.new.lpn) (sym c.answered.ensures)
    (heard_early past (reading_of c.args.r.now) c.args.low.now c.in-Some.answer c.args.memory.now.lpn c.early_row.new.lpn is
    (sym (c.in-Some.ensures.value past is (c.entry-kept.ensures.records past.records meaning))) c.early_row.ensures.state)
