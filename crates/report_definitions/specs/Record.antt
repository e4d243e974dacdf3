-- The record of a run: what is told of a node over all its lives.
use Rattle.std.specs.Prelude.{ℕ, zero, suc, List, [], ◌∷◌, Option, option_and_then}
use Rattle.std.specs.List.{slice_get, filter_map, flat_map}
use Rattle.std.specs.Option.{option_map}
use Rattle.mesh_types.specs.declared.history.Entry.{Entry}
use Rattle.mesh_types.specs.declared.history.Sent.{Sent}
use Rattle.mesh_types.specs.declared.jobs.Job.{Job}
use Rattle.mesh_types.specs.declared.lines.Outcome.{Outcome}
use Rattle.record_types.specs.declared.records.StoreRecord.{StoreRecord}
use Rattle.mesh_types.specs.declared.report.Opened.{Opened}
use Rattle.mesh_types.specs.declared.report.End.{End}

-- One life, from power on to its end: how it opened, the entries in the order of the node's lock, the number of refills that were
-- stored after the last entry, the lines of each bearer in the order in which it did them, and how it ended.
pub record Life : Type 0 where
  pub opened : Opened
  pub entries : List Entry
  pub refills : ℕ
  pub sends : List (List Sent)
  pub end : End

-- a life, and the records of the store that it opened over
pub record LifeOver : Type 0 where
  pub over : List StoreRecord
  pub life : Life

-- the lives of a run in order, and the records of the store that stand after the last one
pub record Run : Type 0 where
  pub lives : List LifeOver
  pub last : List StoreRecord

-- the records that the first of the lives opened over, or the last records where there is no life
abbrev pub first_over : List LifeOver → List StoreRecord → List StoreRecord
first_over [] last = last
first_over (x ∷ xs) last = x.over

-- the list at a place from 0 on, or the empty list past the end
abbrev pub list_at : {A : Type 0} → List (List A) → ℕ → List A
list_at [] k = []
list_at (x ∷ xs) zero = x
list_at (x ∷ xs) (suc k) = list_at xs k

-- what a line shows: a job, the entry that it is of, and what became of it
pub record Shown : Type 0 where
  pub entry : Entry
  pub job : Job
  pub outcome : Outcome

-- a line of a life with these entries
abbrev pub shown_of : List Entry → Sent → Option Shown
shown_of entries s =
    option_and_then (λ e. option_map (λ j. record { entry = e; job = j; outcome = s.outcome }) (slice_get e.jobs s.job))
    (slice_get entries s.entry)

-- the lines of a bearer in order
abbrev pub shown_by : Life → ℕ → List Shown
shown_by l k = filter_map (shown_of l.entries) (list_at l.sends k)

-- the lines of a life, bearer by bearer
abbrev pub shown : Life → List Shown
shown l = flat_map (filter_map (shown_of l.entries)) l.sends
