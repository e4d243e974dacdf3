use Rattle.std.proofs.Common.{◌≡◌}
use Rattle.node_records.specs.Rows.{net_after}
use Rattle.node_records.proofs.Changes.{changed_to}
use Rattle.node_records.proofs.keys.change_nets.Given as goal

abbrev pub invariant-loop-place : goal.invariant-loop-place
invariant-loop-place l = l.nets ≡ changed_to (net_after l.op l.index l.key) l.initial.nets l.place
