use Rattle.std.proofs.Common.{◌≡◌, ◌++◌, take}
use Rattle.std.specs.List.{flat_map}
use Rattle.node_state.specs.State.{app_line, app_shown}
use Rattle.node_state.proofs.lines.push_apps.Given as goal

abbrev pub invariant-loop-row : goal.invariant-loop-row
invariant-loop-row l = l.text ≡ l.fn.text ++ flat_map (λ row. app_line (app_shown row)) (take l.row-index l.rows)
