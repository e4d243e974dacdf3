-- No row so far is the model's.
use Rattle.std.proofs.Common.{◌≡◌, drop}
use Rattle.std.specs.List.{find}
use Rattle.config_definitions.specs.Publishing.{is_model_row}
use Rattle.config_server.proofs.publishing.row_among.Given as goal

abbrev pub invariant-loop-row : goal.invariant-loop-row
invariant-loop-row l = find (is_model_row l.element l.model) (drop l.row-index l.rows) ≡ find (is_model_row l.element l.model) l.rows
