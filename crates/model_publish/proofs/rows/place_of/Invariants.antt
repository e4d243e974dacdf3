-- The rows so far are before the index.
use Rattle.std.proofs.Common.{ℕ, ◌<◌, get_or}
use Rattle.model_states.specs.declared.publication.Publication.{Publication}
use Rattle.model_states.specs.Publication.{row_index}
use Rattle.model_publish.proofs.rows.place_of.Given as goal

abbrev pub invariant-loop-place : goal.invariant-loop-place
invariant-loop-place l = (k : ℕ) (d : Publication) → k < l.place → row_index (get_or l.rows k d) < l.index
