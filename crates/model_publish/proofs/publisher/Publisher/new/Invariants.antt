-- The rows so far are held.
use Rattle.std.proofs.Common.{◌≡◌, take, fold, []}
use Rattle.layer_definitions.specs.Order.{put_by}
use Rattle.model_states.specs.Publication.{accepted_at, row_index}
use Rattle.model_publish.proofs.publisher.Publisher.new.Given as goal

abbrev pub invariant-loop-row : goal.invariant-loop-row
invariant-loop-row l = l.held ≡ fold (λ held row. put_by row_index (accepted_at 0 row) held) [] (take l.row-index l.rows)
