-- Where the counter of sequence numbers was in a life, as it is told.
use Rattle.std.specs.Prelude.{ℕ, ◌≤◌, Bool, List, All, AllPairs}
use Rattle.mesh_types.specs.declared.events.Event.{Event}
use Rattle.mesh_types.specs.declared.history.Entry.{Entry}
use Rattle.mesh_types.specs.declared.history.Sent.{Sent}
use Rattle.report_definitions.specs.Record.{list_at}
use Rattle.life_laws.specs.Pairs.{IsFromMove, IsUntilCounter}
use Rattle.life_laws.specs.Phases.{AreOrdered}
use Rattle.locked_node.specs.Counted.{AreWithin, marks_behind}

-- Of a life with these phases, cut or not, that opened at this mark, with these entries, behind which the counter had been moved so far, and these
-- lines: behind each entry the counter was at some word. None of these is below one before it, and each is at most the mark that refills and moves had
-- raised by then. A line draws no word below where the counter was behind its entry; nor one at or above where it was behind a later event from outside
-- of its bearer, or behind any event of a later phase. What says of an IV Index that no number is left lies between these too.
pub record IsTimed (is_cut : Bool) (phases : List (List (List Event))) (opened : ℕ) (entries : List Entry) (moves : List ℕ)
    (sends : List (List Sent)) : Type 0 where
  pub counters : List ℕ
  pub rise : AllPairs (λ x y. x ≤ y) counters
  pub within : AreWithin counters (marks_behind opened entries moves)
  -- behind so many entries each phase ended
  pub ends : List ℕ
  pub ordered : AreOrdered is_cut phases entries sends ends
  pub from : All (All (IsFromMove entries counters)) sends
  pub until : (k : ℕ) → All (IsUntilCounter k entries counters ends) (list_at sends k)
