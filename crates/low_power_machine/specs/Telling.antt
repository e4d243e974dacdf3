-- What the node is told to do.
use Rattle.std.specs.Prelude.{◌≡◌, fold}
use Rattle.std.specs.Option.{option_to_list}
use Rattle.low_power_definitions.specs.State.{LowPowerState, after}
use Rattle.low_power_machine.specs.declared.plan.Plan.{Plan}
use Rattle.low_power_role.specs.Answers.{told_answer}
use Rattle.low_power_role.specs.Role.{sent_by}
use Rattle.low_power_role.specs.State.{told_calls}
use Rattle.mesh_types.specs.declared.answers.Answer.TheVariants as A
use Rattle.mesh_types.specs.declared.low_power.LowPowerEvent.{LowPowerEvent}

-- it is answered by the state, and sends and leaves what its call does
pub record IsToldSo (st : LowPowerState) (what : LowPowerEvent) (plan : Plan) (new : LowPowerState) : Type 0 where
  pub answer : plan.answer ≡ A.LowPower (told_answer st what)
  pub job : option_to_list plan.job ≡ sent_by st (told_calls what)
  pub state : new ≡ fold after st (told_calls what)
