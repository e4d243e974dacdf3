use Rattle.std.proofs.Common.{◌≡◌, ◌%◌, ◌^◌, ◌*◌, ◌≤◌, count_by, sum_by, map, take}
use Rattle.run_summary.specs.Summaries.{is_ctl, is_relay, relayed}
use Rattle.run_summary.proofs.counts.count_jobs.Given as goal

abbrev pub invariant-loop-jobs : goal.invariant-loop-jobs
invariant-loop-jobs l = record {
  ctl : l.counts.ctl ≡ sum_by (λ ss. count_by (λ s. is_ctl s.outcome) ss) (map (λ v. v.items) (take l.jobs-index l.sends));
  relay : l.counts.relay ≡ sum_by (λ ss. count_by (λ s. is_relay s.outcome) ss) (map (λ v. v.items) (take l.jobs-index l.sends));
  octets : l.counts.octets ≡ sum_by (λ ss. sum_by (λ s. relayed s.outcome) ss) (map (λ v. v.items) (take l.jobs-index l.sends)) % 2 ^ 32;
  most : l.counts.ctl ≤ l.jobs-index * 2 ^ 64;
  most_relay : l.counts.relay ≤ l.jobs-index * 2 ^ 64;
}
