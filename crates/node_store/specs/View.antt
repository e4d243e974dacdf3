-- A store as contracts see it.
use Rattle.slot_journal.specs.View.{JournalView}
use Rattle.node_records.specs.declared.persist.Persist.{Persist}

pub record StoreView : Type 0 where
  -- where the records are kept
  pub journal : JournalView
  -- what they say
  pub persist : Persist
