-- Phases from lines as a source of phases.
use Rattle.std.specs.Prelude.{◌≡◌, ℕ, Bool, List, [], Option, Some, None}
use Rattle.mesh_node.specs.Told.{SourceSteps}
use Rattle.mesh_types.specs.declared.events.Event.{Event}
use Rattle.live_lines.specs.Nexts.{Used}
use Rattle.live_lines.specs.States.{IsSameNode, lines_at, lines_behind}
use Rattle.live_lines.specs.Steps.{Ends, Fails, GivesPhase}
use Rattle.live_lines.specs.Turns.{IsFrontOf}
use Rattle.live_lines.specs.declared.lines.LineStop.{LineStop}
use Rattle.live_lines.specs.declared.lines.LineStop.TheVariants as L
use Rattle.live_lines.specs.declared.line_phases.LinePhases.{LinePhases}

-- they are of a node with so many bearers and elements
abbrev pub IsOf : {S E : Type 0} → ℕ → ℕ → LinePhases S E → Type 0
IsOf bearers elements old = (bearers ≡ old.lines.bearers) × (elements ≡ old.lines.elements)

-- they are of a node with other bearers or elements
abbrev pub IsOfOther : {S E : Type 0} → ℕ → ℕ → LinePhases S E → Type 0
IsOfOther bearers elements old = IsOf bearers elements old → ⊥

-- it is of the same node, and didn't fail
abbrev pub IsLive : {S E : Type 0} → LinePhases S E → LinePhases S E → Type 0
IsLive old new = (old.lines.why ≡ None) × IsSameNode old.lines new.lines

-- it was asked for a phase of the node that it is of, and didn't fail
abbrev pub IsLiveFor : {S E : Type 0} → ℕ → ℕ → LinePhases S E → LinePhases S E → Type 0
IsLiveFor bearers elements old new = IsOf bearers elements old × IsLive old new

module _ {S E : Type 0} (clocked : Bool) (left : S → Option (List ℕ)) (source_faults : S → ℕ) (time : S → ℕ) (took : E → Option (List ℕ))
    (pieces : E → Option (List (List ℕ))) (sink_faults : E → ℕ) where
  -- it gave a phase, whichever octets of the next line were used before
  abbrev pub Gives : LinePhases S E → List (List Event) → LinePhases S E → Type 0
  Gives old lists new = (used : List ℕ) → IsFrontOf old.front used
      → Used new.front
      (λ now. GivesPhase old.lines.bearers old.lines.elements clocked lists
      (lines_behind left source_faults time took pieces sink_faults used old.lines)
      (lines_behind left source_faults time took pieces sink_faults now new.lines))

  -- it came to the end
  abbrev pub ComesToEnd : LinePhases S E → LinePhases S E → Type 0
  ComesToEnd old new = (used : List ℕ) → IsFrontOf old.front used
      → Ends old.lines.bearers old.lines.elements
      (lines_behind left source_faults time took pieces sink_faults used old.lines)
      (lines_at left source_faults time took pieces sink_faults new.lines)

  -- where it was asked for a phase of such a node
  module _ (bearers elements : ℕ) where
    -- It failed, or it was asked for a phase of another node, and did nothing.
    abbrev pub FailsFrom : LineStop → List ℕ → LinePhases S E → LinePhases S E → Type 0
    FailsFrom L.OtherNode used old new =
        IsOfOther bearers elements old
        × (lines_behind left source_faults time took pieces sink_faults used new.lines
        ≡ lines_behind left source_faults time took pieces sink_faults used old.lines)
        × (new.front ≡ old.front)
    FailsFrom why used old new =
        Fails old.lines.bearers old.lines.elements clocked why
        (lines_behind left source_faults time took pieces sink_faults used old.lines)
        (lines_at left source_faults time took pieces sink_faults new.lines)

    abbrev pub FailsAs : LineStop → LinePhases S E → LinePhases S E → Type 0
    FailsAs why old new = (used : List ℕ) → IsFrontOf old.front used → FailsFrom why used old new

    -- why it failed is kept
    pub record FailsFor (why : LineStop) (old new : LinePhases S E) : Type 0 where
      pub kept : new.lines.why ≡ Some why
      pub node : (new.lines.bearers ≡ old.lines.bearers) × (new.lines.elements ≡ old.lines.elements)
      pub fails : FailsAs why old new

    -- where it had failed before, it does nothing
    abbrev pub FailsBehind : Option LineStop → LinePhases S E → LinePhases S E → Type 0
    FailsBehind None old new = (why : LineStop) × FailsFor why old new
    FailsBehind (Some why) old new = new ≡ old

  abbrev pub line_steps : SourceSteps (LinePhases S E)
  line_steps = record {
    gives = λ bearers elements due old lists new. IsLiveFor bearers elements old new × Gives old lists new;
    ends = λ old new. IsLive old new × ComesToEnd old new;
    fails = λ bearers elements due old new. FailsBehind bearers elements old.lines.why old new;
  }
