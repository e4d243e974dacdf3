use Rattle.std.proofs.Common.{◌≡◌}
use Rattle.store_definitions.specs.Config.{finished_app}
use Rattle.node_records.proofs.Changes.{changed_to}
use Rattle.node_records.proofs.keys.finish_apps.Given as goal

abbrev pub invariant-loop-place : goal.invariant-loop-place
invariant-loop-place l = l.apps ≡ changed_to (finished_app l.net) l.initial.apps l.place
