-- The plan of the lines so far.
use Rattle.std.specs.Prelude.{ℕ, List, [], ◌∷◌, ◌++◌, replicate, slice_index_or, slice_set, Option, Some, None}
use Rattle.node_limits.specs.declared.TheConstants.{BEARERS}
use Rattle.mesh_types.specs.declared.events.Event.{Event}
use Rattle.run_definitions.specs.Order.{Step, arm, phase}
use Rattle.script_definitions.specs.Events.{Happening, happening_of}
use Rattle.script_definitions.specs.declared.line.ScriptLine.{ScriptLine}
use Rattle.script_definitions.specs.declared.line.ScriptLine.TheVariants as L

-- the steps that ended, and the events of the phase that goes on, bearer by bearer, where it has lines
pub record Drafted : Type 0 where
  pub steps : List Step
  pub events : Option (List (List Event))

abbrev pub step_in : Option (List (List Event)) → List Step
step_in None = []
step_in (Some events) = phase events ∷ []

-- the steps where the phase ends here
abbrev pub ended : Drafted → List Step
ended d = d.steps ++ step_in d.events

-- the events so far of a phase that goes on
abbrev pub begun : Option (List (List Event)) → List (List Event)
begun None = replicate BEARERS []
begun (Some events) = events

-- an event more of a bearer
abbrev pub with_event : List (List Event) → ℕ → Event → List (List Event)
with_event events k event = slice_set events k (slice_index_or events k [] ++ event ∷ [])

abbrev pub with_happening : List (List Event) → Option Happening → List (List Event)
with_happening events None = events
with_happening events (Some h) = with_event events h.bearer h.event

-- a line more
abbrev pub with_line : Drafted → ScriptLine → Drafted
with_line d L.Sync = record { steps = ended d; events = None }
with_line d (L.Arm line) = record { steps = ended d ++ arm line.calls line.mask ∷ []; events = None }
with_line d line = record { steps = d.steps; events = Some (with_happening (begun d.events) (happening_of line)) }
