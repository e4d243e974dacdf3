use Rattle.event_records.proofs.Changes.{changes_may, changes_move}
use Rattle.event_records.proofs.laws.changes_law.Goals as goal

pub returns : goal.returns
returns c = record { may = changes_may; moves = changes_move }
