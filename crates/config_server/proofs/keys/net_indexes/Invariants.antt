-- The indexes so far are listed.
use Rattle.std.proofs.Common.{◌≡◌, take, map}
use Rattle.config_server.proofs.keys.net_indexes.Given as goal

abbrev pub invariant-loop-row : goal.invariant-loop-row
invariant-loop-row l = (l.list ≡ map (λ r. r.index) (take l.row-index l.row-items)) × (l.row-items ≡ l.p.nets)
