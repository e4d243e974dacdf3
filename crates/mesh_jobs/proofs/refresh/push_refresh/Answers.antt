use Rattle.std.proofs.Common.{◌≡◌, true, false}
use Rattle.std.specs.List.{list_any}
use Rattle.mesh_jobs.proofs.Phases.{any_changed_as}
use Rattle.mesh_jobs.proofs.Rounds.{none_where, put_where}
use Rattle.event_definitions.specs.Jobs.{is_refreshed}
use Rattle.mesh_jobs.proofs.refresh.push_refresh.Goals as goal

pub returns-then-any_changed-clause-value : goal.returns-then-any_changed-clause-value
returns-then-any_changed-clause-value c before e =
    let same = any_changed_as before.nets c.args.p.now.nets in
    let some : list_any (is_refreshed before.nets) c.args.p.now.nets ≡ true = cc in
    put_where _ _ _ _ some c.push_beacons.ensures.value

pub returns-else-any_changed-clause-value : goal.returns-else-any_changed-clause-value
returns-else-any_changed-clause-value c before e =
    let same = any_changed_as before.nets c.args.p.now.nets in
    let none : list_any (is_refreshed before.nets) c.args.p.now.nets ≡ false = cc in
    none_where _ _ _ none
