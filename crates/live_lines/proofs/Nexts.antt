-- What a source of phases gives next, or why it fails.
use Rattle.std.proofs.Common.{◌≡◌, ℕ, Bool, false, List, refl, sym, subst, Option, Some, None}
use Rattle.std.specs.Prelude.{IfSome, is_some}
use Rattle.std.specs.Option.{option_map}
use Rattle.mesh_types.specs.declared.events.Event.{Event}
use Rattle.live_lines.specs.Moves.{LinesAt}
use Rattle.live_lines.specs.Nexts.{IsNextPhase, Used}
use Rattle.live_lines.specs.Sources.{FailsBehind, FailsFor, FailsFrom}
use Rattle.live_lines.specs.States.{lines_at, lines_behind}
use Rattle.live_lines.specs.Steps.{Fails, GivesPhase}
use Rattle.live_lines.specs.declared.line_phases.LinePhases.{LinePhases}
use Rattle.live_lines.specs.declared.lines.LineStop.{LineStop}
use Rattle.live_lines.specs.declared.lines.LineStop.TheVariants as L

pub none_of : (o : Option LineStop) → is_some o ≡ false → o ≡ None
none_of None e = refl
none_of (Some why) e = absurd cc

-- a phase that was given, whichever octets were used before
pub given : {A : Type 0} (f : A → List (List Event)) (o : Option A) (bearers elements : ℕ) (clocked : Bool) (front : List ℕ) (old new : List ℕ → LinesAt)
    (before : List ℕ → Type 0) (live : Type 0) → live
    → ((used : List ℕ) → before used → IsNextPhase bearers elements clocked (option_map f o) front (old used) new)
    → IfSome o (λ x. live × ((used : List ℕ) → before used → Used front (λ now. GivesPhase bearers elements clocked (f x) (old used) (new now))))
given f None bearers elements clocked front old new before live is h = tt
given f (Some x) bearers elements clocked front old new before live is h = (is, h)

module _ {S E : Type 0} (clocked : Bool) (left : S → Option (List ℕ)) (source_faults : S → ℕ) (time : S → ℕ) (took : E → Option (List ℕ))
    (pieces : E → Option (List (List ℕ))) (sink_faults : E → ℕ) (bearers elements : ℕ) (old new : LinePhases S E) where
  pub fails_from : (why : LineStop) (used : List ℕ)
      → Fails old.lines.bearers old.lines.elements clocked why (lines_behind left source_faults time took pieces sink_faults used old.lines)
      (lines_at left source_faults time took pieces sink_faults new.lines)
      → FailsFrom clocked left source_faults time took pieces sink_faults bearers elements why used old new
  fails_from L.Source used h = h
  fails_from L.Errors used h = h
  fails_from L.Memory used h = h
  fails_from L.Endless used h = h
  fails_from L.OtherNode used h = absurd h.fails

  pub fails_now : old.lines.why ≡ None → (why : LineStop) → FailsFor clocked left source_faults time took pieces sink_faults bearers elements why old new
      → FailsBehind clocked left source_faults time took pieces sink_faults bearers elements old.lines.why old new
  fails_now e why h = subst (λ (o : Option LineStop). FailsBehind clocked left source_faults time took pieces sink_faults bearers elements o old new) (sym e) (why, h)
