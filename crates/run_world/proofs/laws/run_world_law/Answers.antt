use Rattle.run_world.proofs.Lives.{runs_go}
use Rattle.run_world.proofs.Whole.{low_power_runs_go, runs_go_whole}
use Rattle.run_world.proofs.laws.run_world_law.Goals as goal

pub returns : goal.returns
returns c = record { steps = runs_go; whole = runs_go_whole; low_power = low_power_runs_go }
