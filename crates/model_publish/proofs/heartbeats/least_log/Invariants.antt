-- No log so far stands for enough.
use Rattle.std.proofs.Common.{◌≡◌, ◌-◌, ◌^◌}
use Rattle.model_states.specs.Publication.{least_log}
use Rattle.model_publish.proofs.heartbeats.least_log.Given as goal

abbrev pub invariant-loop-log : goal.invariant-loop-log
invariant-loop-log l = (least_log 16 1 l.n ≡ least_log (17 - l.log) l.log l.n) × (l.reach ≡ 2 ^ (l.log - 1))
