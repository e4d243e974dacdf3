-- The indexes so far are listed.
use Rattle.std.proofs.Common.{◌≡◌, take, map, filter, nat_eq}
use Rattle.std.specs.Prelude.{◌==◌}
use Rattle.mesh_base.specs.declared.keys.AppKeyRow.{AppKeyRow}
use Rattle.config_server.proofs.keys.app_indexes.Given as goal

abbrev pub invariant-loop-row : goal.invariant-loop-row
invariant-loop-row l = (l.list ≡ map (λ r. r.index) (filter (λ r. r.net == l.net) (take l.row-index l.row-items))) × (l.row-items ≡ l.p.apps)
