use Rattle.std.proofs.Common.{◌≡◌, ◌%◌, ◌^◌, sum_by, take}
use Rattle.run_summary.specs.Summaries.{relayed}
use Rattle.run_summary.proofs.counts.count_octets.Given as goal

abbrev pub invariant-loop-sent : goal.invariant-loop-sent
invariant-loop-sent l = l.octets ≡ sum_by (λ s. relayed s.outcome) (take l.sent-index l.sends) % 2 ^ 32
