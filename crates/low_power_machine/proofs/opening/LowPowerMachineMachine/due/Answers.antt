use Rattle.std.proofs.Common.{arith, refl}
use Rattle.low_power_machine.proofs.Quiet.{quiet_tick}
use Rattle.low_power_role.specs.Role.{low_power_role}
use Rattle.machine_contract.specs.Standing.{past_now}
use Rattle.low_power_machine.proofs.opening.LowPowerMachineMachine.due.Goals as goal

pub returns : goal.returns
returns g c = record {
  idle = λ live first f over s. record {
    told = s.life.told;
    entries = s.life.entries;
    handled = s.life.handled;
    quiet = λ ticks l. quiet_tick (past_now low_power_role over s.life.told c.args.self.now.state.value.fills) ticks;
  };
  least = λ live first f over s. record {
    told = s.life.told;
    entries = s.life.entries;
    handled = s.life.handled;
    quiet = λ ticks l. quiet_tick (past_now low_power_role over s.life.told c.args.self.now.state.value.fills) ticks;
    reached = λ l q. omega (arith, l);
  };
  closed = λ e. refl;
}
