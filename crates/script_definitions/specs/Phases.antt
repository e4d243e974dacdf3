-- A life's lines cut into phases. All bearers leave a phase together: `sync` ends one, and so does `arm`.
use Rattle.std.specs.Prelude.{List, [], ◌∷◌, ◌++◌, map}
use Rattle.std.specs.List.{range_with_len}
use Rattle.node_limits.specs.declared.TheConstants.{BEARERS}
use Rattle.mesh_types.specs.declared.events.Event.{Event}
use Rattle.script_definitions.specs.Events.{events_on}
use Rattle.script_definitions.specs.declared.line.ArmLine.{ArmLine}
use Rattle.script_definitions.specs.declared.line.ScriptLine.{ScriptLine}
use Rattle.script_definitions.specs.declared.line.ScriptLine.TheVariants as L

-- a step of a life: a power cut is set, or each of the bearers does its events
pub data PlanStep : Type 0 where
  arms : ArmLine → PlanStep
  does : List (List Event) → PlanStep

-- the phase of these lines of bearers; none where there are no lines
abbrev pub phase_of : List ScriptLine → List PlanStep
phase_of [] = []
phase_of (line ∷ lines) = does (map (λ k. events_on k (line ∷ lines)) (range_with_len 0 BEARERS)) ∷ []

-- the steps of the lines behind those of a phase so far
unfoldable pub steps_from : List ScriptLine → List ScriptLine → List PlanStep
steps_from phase [] = phase_of phase
steps_from phase (L.Sync ∷ more) = phase_of phase ++ steps_from [] more
steps_from phase (L.Arm arm ∷ more) = phase_of phase ++ arms arm ∷ steps_from [] more
steps_from phase (line ∷ more) = steps_from (phase ++ line ∷ []) more

-- The steps of a life. A step `arms` that stands first is set before the store is opened.
abbrev pub steps_of : List ScriptLine → List PlanStep
steps_of lines = steps_from [] lines
