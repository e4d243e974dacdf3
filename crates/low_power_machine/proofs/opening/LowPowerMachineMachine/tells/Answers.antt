use Rattle.low_power_machine.proofs.opening.LowPowerMachineMachine.tells.Goals as goal

pub returns : goal.returns
returns g c = record {
  known = λ first f over m s. s.life;
  moved = λ first f over m s runs. record { told = s.life.told; are = s.life.entries; handled = s.life.handled; moved = s.moved runs };
  last = λ first f over m s runs. s.last runs;
  quiet = λ past ticks q. q;
}
