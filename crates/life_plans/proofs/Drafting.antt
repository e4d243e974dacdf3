-- A plan so far, by the lines of the phase that goes on.
use Rattle.std.proofs.Common.{◌≡◌, ℕ, ◌<◌, List, [], ◌∷◌, ◌++◌, map, ap, arith, ◌∙◌, sym, refl, Option, Some, None}
use Rattle.std.proofs.lemmas.List.{append_assoc, map-append}
use Rattle.std.specs.Prelude.{IfSome}
use Rattle.node_limits.specs.declared.TheConstants.{BEARERS}
use Rattle.life_plans.proofs.Bearers.{lists_of, with_more}
use Rattle.life_plans.specs.Drafts.{Drafted, begun, ended, step_in, with_happening, with_line}
use Rattle.life_plans.specs.Plans.{plan_of_lines, step_of}
use Rattle.mesh_types.specs.declared.events.Event.{Event}
use Rattle.run_definitions.specs.Order as Run
use Rattle.script_definitions.specs.Events.{happening_of}
use Rattle.script_definitions.specs.Kinds.{bearer_count}
use Rattle.script_definitions.specs.Phases.{PlanStep, arms, phase_of, steps_from}
use Rattle.script_definitions.specs.declared.kind.Grammar.{Grammar}
use Rattle.script_definitions.specs.declared.kind.Grammar.TheVariants as G
use Rattle.script_definitions.specs.declared.line.ScriptLine.{ScriptLine}
use Rattle.script_definitions.specs.declared.line.ScriptLine.TheVariants as L
use Rattle.script_events.specs.Happenings.{IsRead}

abbrev shown : List ScriptLine → Option (List (List Event))
shown [] = None
shown (line ∷ lines) = Some (lists_of (line ∷ lines))

-- This is the plan of all lines but the rest.
pub record IsDraftOf (all : List ScriptLine) (d : Drafted) (rest : List ScriptLine) : Type 0 where
  pub phase : List ScriptLine
  pub shows : d.events ≡ shown phase
  pub steps : d.steps ++ map step_of (steps_from phase rest) ≡ plan_of_lines all

ended_phase : (lines : List ScriptLine) → step_in (shown lines) ≡ map step_of (phase_of lines)
ended_phase [] = refl
ended_phase (line ∷ lines) = refl

begun_phase : (lines : List ScriptLine) → begun (shown lines) ≡ lists_of lines
begun_phase [] = refl
begun_phase (line ∷ lines) = refl

shown_more : (lines : List ScriptLine) (line : ScriptLine) → shown (lines ++ line ∷ []) ≡ Some (lists_of (lines ++ line ∷ []))
shown_more [] line = refl
shown_more (first ∷ lines) line = refl

-- the phase ends here
ends : (d : Drafted) (lines : List ScriptLine) (more : List PlanStep) → d.events ≡ shown lines
    → ended d ++ map step_of more ≡ d.steps ++ map step_of (phase_of lines ++ more)
ends d lines more shows =
    append_assoc d.steps (step_in d.events) (map step_of more)
    ∙ ap (λ (steps : List Run.Step). d.steps ++ steps)
    (ap (λ (steps : List Run.Step). steps ++ map step_of more) (ap step_in shows ∙ ended_phase lines) ∙ sym (map-append step_of (phase_of lines) more))

-- the phase goes on
goes_on : (d : Drafted) (lines : List ScriptLine) (line : ScriptLine) → d.events ≡ shown lines → IfSome (happening_of line) (λ h. h.bearer < BEARERS)
    → Some (with_happening (begun d.events) (happening_of line)) ≡ shown (lines ++ line ∷ [])
goes_on d lines line shows few =
    ap (λ (events : List (List Event)). Some events)
    (ap (λ (events : List (List Event)). with_happening events (happening_of line)) (ap begun shows ∙ begun_phase lines) ∙ with_more lines line few)
    ∙ sym (shown_more lines line)

-- a bearer of a grammar is one of eight
within : (g : Grammar) (bearer : ℕ) → bearer < bearer_count g → bearer < BEARERS
within G.Node bearer h = h
within G.LowPower bearer h = omega arith

pub bearer_of_eight : (line : ScriptLine) → IsRead line → IfSome (happening_of line) (λ h. h.bearer < BEARERS)
bearer_of_eight (L.Net bearer octets) r = within r.0 bearer r.2.0.0
bearer_of_eight (L.Bcn bearer octets) r = within r.0 bearer r.2.0.0
bearer_of_eight (L.Peer bearer peer) r = within r.0 bearer r.2.0.0
bearer_of_eight (L.Talk bearer talk) r = within r.0 bearer r.2.0.0
bearer_of_eight (L.Beacon bearer beacon) r = within r.0 bearer r.2.0.0
bearer_of_eight (L.Send bearer send) r = within r.0 bearer r.2.0.0
bearer_of_eight (L.Raw bearer raw) r = within r.0 bearer r.2.0.0
bearer_of_eight (L.Tick bearer ticks) r = within r.0 bearer r.2.0.0
bearer_of_eight L.Sync r = tt
bearer_of_eight (L.Arm arm) r = tt
bearer_of_eight (L.Seek bearer) r = within r.0 bearer r.2.0
bearer_of_eight (L.Poll bearer) r = within r.0 bearer r.2.0
bearer_of_eight (L.List bearer address) r = within r.0 bearer r.2.0.0

pub starts : (all : List ScriptLine) → IsDraftOf all (record { steps = []; events = None }) all
starts all = record { phase = []; shows = refl; steps = refl }

pub turn : (all : List ScriptLine) (d : Drafted) (line : ScriptLine) (rest : List ScriptLine) → IsRead line → IsDraftOf all d (line ∷ rest)
    → IsDraftOf all (with_line d line) rest
unfolding steps_from
turn all d L.Sync rest r h = record { phase = []; shows = refl; steps = ends d h.phase (steps_from [] rest) h.shows ∙ h.steps }
turn all d (L.Arm arm) rest r h = record {
  phase = [];
  shows = refl;
  steps = append_assoc (ended d) (Run.arm arm.calls arm.mask ∷ []) (map step_of (steps_from [] rest)) ∙ ends d h.phase (arms arm ∷ steps_from [] rest) h.shows ∙ h.steps;
}
turn all d line rest r h = record {
  phase = h.phase ++ line ∷ [];
  shows = goes_on d h.phase line h.shows (bearer_of_eight line r);
  steps = h.steps;
}

pub finishes : (all : List ScriptLine) (d : Drafted) → IsDraftOf all d [] → ended d ≡ plan_of_lines all
unfolding steps_from
finishes all d h =
    ap (λ (steps : List Run.Step). d.steps ++ steps) (ap step_in h.shows ∙ ended_phase h.phase) ∙ h.steps
