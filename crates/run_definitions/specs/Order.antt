-- The order in which a bearer does its work: the entries of its events, and the lines of their jobs.
use Rattle.std.specs.Prelude.{◌≡◌, ℕ, ◌+◌, ◌==◌, Bool, true, false, IsTrue, List, [], ◌∷◌, ◌++◌, map, filter, Option, Some, None, ⊤}
use Rattle.std.specs.List.{filter_map, flat_map}
use Rattle.mesh_types.specs.declared.events.Event.{Event}
use Rattle.mesh_types.specs.declared.events.Event.TheVariants as E
use Rattle.mesh_types.specs.declared.history.Entry.{Entry}
use Rattle.mesh_types.specs.declared.history.Sent.{Sent}
use Rattle.mesh_types.specs.declared.jobs.Job.{Job}
use Rattle.mesh_types.specs.declared.lines.Outcome.{Outcome}
use Rattle.mesh_types.specs.declared.report.End.{End}
use Rattle.mesh_types.specs.declared.report.End.TheVariants as F
use Rattle.run_definitions.specs.Lines.{Shows, after_line, is_drawing}
use Rattle.report_definitions.specs.Record.{Life, list_at}

-- whether an event comes from outside, and doesn't follow a line
abbrev pub is_outside : Event → Bool
is_outside (E.Net octets) = true
is_outside (E.Bcn octets) = true
is_outside (E.Send element dst ttl key payload) = true
is_outside (E.Raw dst ttl tpdu) = true
is_outside (E.Tick ticks) = true
is_outside (E.Begin m) = false
is_outside (E.Kept lpn fsn name octets) = false
is_outside (E.LowPower event) = true

-- an entry, and its place in the history
pub record Placed : Type 0 where
  pub at : ℕ
  pub entry : Entry

abbrev pub placed_from : ℕ → List Entry → List Placed
placed_from n [] = []
placed_from n (e ∷ es) = record { at = n; entry = e } ∷ placed_from (n + 1) es

-- What a bearer has to do next: to handle an event from outside; to have one that follows a line handled; to write the line of job j of
-- entry i, which is of this event.
pub data Task : Type 0 where
  handle : Event → Task
  follow : Event → Task
  write : (i j : ℕ) → Event → Job → Task

abbrev pub write_tasks : ℕ → ℕ → Event → List Job → List Task
write_tasks i j event [] = []
write_tasks i j event (job ∷ jobs) = write i j event job ∷ write_tasks i (j + 1) event jobs

abbrev pub job_tasks : Placed → List Task
job_tasks p = write_tasks p.at 0 p.entry.event p.entry.jobs

-- Whether a task needs the machine: for an event, which is to be handled; or for the line of a job that draws a pair, since the mark may
-- have to be raised for it. The line of any other job needs nothing more.
abbrev pub needs_machine : Task → Bool
needs_machine (handle event) = true
needs_machine (follow event) = true
needs_machine (write i j event job) = is_drawing job

-- nothing is left to do, or what is next needs the machine
abbrev pub IsStuck : List Task → Type 0
IsStuck [] = ⊤
IsStuck (task ∷ left) = needs_machine task ≡ true

-- With these tasks a bearer makes these entries and these lines, each in its order, and the last tasks are left. The jobs of an entry
-- come before all else, and so does the event that follows a line.
pub data Walks : List Task → List Placed → List Sent → List Task → Type 0 where
  stops : {tasks : List Task} → Walks tasks [] [] tasks
  handles : {tasks : List Task} {es : List Placed} {ls : List Sent} {left : List Task} (p : Placed)
      → IsTrue (is_outside p.entry.event)
      → Walks (job_tasks p ++ tasks) es ls left
      → Walks (handle p.entry.event ∷ tasks) (p ∷ es) ls left
  follows : {tasks : List Task} {es : List Placed} {ls : List Sent} {left : List Task} (p : Placed)
      → Walks (job_tasks p ++ tasks) es ls left
      → Walks (follow p.entry.event ∷ tasks) (p ∷ es) ls left
  writes : {i j : ℕ} {event : Event} {job : Job} {outcome : Outcome} {tasks : List Task} {es : List Placed}
      {ls : List Sent} {left : List Task}
      → Shows event job outcome
      → Walks (map follow (after_line job outcome) ++ tasks) es ls left
      → Walks (write i j event job ∷ tasks) es (record { entry = i; job = j; outcome = outcome } ∷ ls) left

-- A life's plan: its phases, in which each bearer has a list of events, and which the bearers leave together; and where the flash is
-- set to fail.
pub data Step : Type 0 where
  arm : (calls mask : ℕ) → Step
  phase : List (List Event) → Step

abbrev pub phase_of : Step → Option (List (List Event))
phase_of (arm calls mask) = None
phase_of (phase events) = Some events

abbrev pub phases_of : List Step → List (List (List Event))
phases_of plan = filter_map phase_of plan

-- what is done in one phase: entries of all bearers, and the lines of each
pub record Part : Type 0 where
  pub entries : List Placed
  pub sends : List (List Sent)

-- a bearer's entries
abbrev pub of_bearer : ℕ → List Placed → List Placed
of_bearer k ps = filter (λ p. p.entry.bearer == k) ps

-- in a part a bearer does what it has in the phase, and leaves this
abbrev pub Does : List (List Event) → Part → ℕ → List Task → Type 0
Does events part k left = Walks (map handle (list_at events k)) (of_bearer k part.entries) (list_at part.sends k) left

-- In a part a bearer does what it has in the phase as far as it comes without the machine: it does all, or what it left begins with what
-- needs the machine.
pub record BreaksOff (events : List (List Event)) (part : Part) (k : ℕ) : Type 0 where
  pub left : List Task
  pub does : Does events part k left
  pub stuck : IsStuck left

-- The parts of the phases: in each all bearers do all that they have. In a life that was cut the last part may be broken off, where each
-- bearer does all but what it needs the machine for and what is behind that, and then nothing is done in a later phase.
pub data PartsOf : Bool → List (List (List Event)) → List Part → Type 0 where
  ends : {is_cut : Bool} → PartsOf is_cut [] []
  whole : {is_cut : Bool} {events : List (List Event)} {more : List (List (List Event))} {part : Part}
      {parts : List Part}
      → ((k : ℕ) → Does events part k [])
      → PartsOf is_cut more parts
      → PartsOf is_cut (events ∷ more) (part ∷ parts)
  broken : {events : List (List Event)} {more : List (List (List Event))} {part : Part}
      → ((k : ℕ) → BreaksOff events part k)
      → PartsOf true (events ∷ more) (part ∷ [])

abbrev pub is_cut : End → Bool
is_cut F.Ended = false
is_cut (F.Cut calls) = true

-- The entries of a life, and the lines of each bearer, fall into the parts of its phases.
pub record IsOrdered (plan : List Step) (l : Life) : Type 0 where
  pub parts : List Part
  pub entries : placed_from 0 l.entries ≡ flat_map (λ part. part.entries) parts
  pub sends : (k : ℕ) → list_at l.sends k ≡ flat_map (λ part. list_at part.sends k) parts
  pub phases : PartsOf (is_cut l.end) (phases_of plan) parts
