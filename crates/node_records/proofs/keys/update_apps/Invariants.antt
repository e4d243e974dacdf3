use Rattle.std.proofs.Common.{◌≡◌}
use Rattle.store_definitions.specs.Config.{updated_app}
use Rattle.node_records.proofs.Changes.{changed_to}
use Rattle.node_records.proofs.keys.update_apps.Given as goal

abbrev pub invariant-loop-place : goal.invariant-loop-place
invariant-loop-place l = l.apps ≡ changed_to (updated_app l.index l.key) l.initial.apps l.place
