use Rattle.std.proofs.Common.{◌≡◌, ℕ, ◌<◌, false, get_or}
use Rattle.mesh_base.specs.declared.pair.Name.{Name}
use Rattle.mesh_base.specs.Pairs.{is_expired}
use Rattle.node_records.proofs.replay.first_expired.Given as goal

abbrev pub invariant-loop-place : goal.invariant-loop-place
invariant-loop-place l = (k : ℕ) (d : Name) → k < l.place → is_expired l.current (get_or l.rows k d).pair ≡ false
