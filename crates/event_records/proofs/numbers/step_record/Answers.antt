use Rattle.std.proofs.Common.{subst}
use Rattle.event_records.specs.Steps.{LeadsOn}
use Rattle.mesh_base.specs.declared.iv_state.IvStep.{IvStep}
use Rattle.event_records.proofs.numbers.step_record.Goals as goal

pub returns-in-Begin-clause-moves : goal.returns-in-Begin-clause-moves
returns-in-Begin-clause-moves c = c.moved.ensures.moves (subst (λ (step : IvStep). LeadsOn c.args.p.now.iv step) c.in-Begin.is c.requires.step)

pub returns-in-Finish-clause-moves : goal.returns-in-Finish-clause-moves
returns-in-Finish-clause-moves c = c.moved-in-Finish.ensures.moves (subst (λ (step : IvStep). LeadsOn c.args.p.now.iv step) c.in-Finish.is c.requires.step)

pub returns-in-Recover-clause-moves : goal.returns-in-Recover-clause-moves
returns-in-Recover-clause-moves c = c.moved-in-Recover.ensures.moves (subst (λ (step : IvStep). LeadsOn c.args.p.now.iv step) c.in-Recover.is c.requires.step)
