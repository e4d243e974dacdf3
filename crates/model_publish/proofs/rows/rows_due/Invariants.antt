-- The rows so far that are due are listed.
use Rattle.std.proofs.Common.{◌≡◌, take, map, filter}
use Rattle.model_states.specs.Publication.{is_row_due}
use Rattle.model_publish.proofs.rows.rows_due.Given as goal

abbrev pub invariant-loop-held : goal.invariant-loop-held
invariant-loop-held l = (l.list ≡ map (λ p. p.row) (filter (is_row_due l.asked l.now) (take l.held-index l.held-items))) × (l.held-items ≡ l.rows)
