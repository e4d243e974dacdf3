-- The phases that a source of lines gave, and the faults of its streams meanwhile.
use Rattle.std.proofs.Common.{◌≡◌, ◌∙◌, ℕ, Bool, List, [], ◌∷◌, Option, refl, sym, ap, subst, inl, inr}
use Rattle.std.specs.Prelude.{All}
use Rattle.std.proofs.lemmas.List.Elements.{All-cons, All-nil}
use Rattle.mesh_base.specs.Outside.{Rose}
use Rattle.mesh_types.specs.declared.events.Event.{Event}
use Rattle.mesh_node.specs.Told.{BySteps, GivesEach, SourceSteps}
use Rattle.node_bearer.specs.Did.{AreEvents}
use Rattle.live_lines.proofs.Events.{phase_fits}
use Rattle.live_lines.specs.Moves.{Does, DoesAll, LinesAt, Move}
use Rattle.live_lines.specs.Moves.Move.{passes, reads}
use Rattle.live_lines.specs.States.{lines_at, lines_behind}
use Rattle.live_lines.specs.Steps.{Ends, Fails, GivesPhase}
use Rattle.live_lines.specs.Sources.{line_steps as source_steps}
use Rattle.live_lines.specs.Turns.{IsFrontOf}
use Rattle.live_lines.specs.declared.line_phases.LinePhases.{LinePhases}
use Rattle.live_node.specs.Lived.{by_line}
use Rattle.live_lines.specs.declared.lines.LineStop.{LineStop}
use Rattle.live_lines.specs.declared.lines.LineStop.TheVariants as L

module _ {S E : Type 0} (clocked : Bool) (left : S → Option (List ℕ)) (source_faults : S → ℕ) (time : S → ℕ) (took : E → Option (List ℕ)) (pieces : E → Option (List (List ℕ))) (sink_faults : E → ℕ) where
  abbrev pub at : LinePhases S E → LinesAt
  at l = lines_at left source_faults time took pieces sink_faults l.lines

  abbrev pub behind : List ℕ → LinePhases S E → LinesAt
  behind used l = lines_behind left source_faults time took pieces sink_faults used l.lines

  abbrev pub line_steps : SourceSteps (LinePhases S E)
  line_steps = source_steps clocked left source_faults time took pieces sink_faults

  -- phases that were given by lines and time, where these octets of a line were used before
  pub record Said (begun : List ℕ) (old : LinePhases S E) (phases : List (List (List Event))) (new : LinePhases S E) : Type 0 where
    pub used : List ℕ
    pub is : IsFrontOf new.front used
    pub said : BySteps (by_line old.lines.bearers old.lines.elements clocked) (behind begun old) phases (behind used new)
    pub why : new.lines.why ≡ old.lines.why
    pub bearers : new.lines.bearers ≡ old.lines.bearers
    pub elements : new.lines.elements ≡ old.lines.elements

  pub said_all : (bearers elements : ℕ) (begun : List ℕ) (old new : LinePhases S E) (dues : List ℕ) (phases : List (List (List Event))) → IsFrontOf old.front begun → GivesEach line_steps bearers elements old dues phases new → Said begun old phases new
  said_all asked size begun old new [] [] is h = record {
    used = begun;
    is = subst (λ (l : LinePhases S E). IsFrontOf l.front begun) (sym h) is;
    said = ap (behind begun) h;
    why = ap (λ (l : LinePhases S E). l.lines.why) h;
    bearers = ap (λ (l : LinePhases S E). l.lines.bearers) h;
    elements = ap (λ (l : LinePhases S E). l.lines.elements) h;
  }
  said_all asked size begun old new [] (p ∷ phases) is h = absurd h
  said_all asked size begun old new (due ∷ dues) [] is h = absurd h
  said_all asked size begun old new (due ∷ dues) (p ∷ phases) is h =
      let (mid, step, more) = h in
      let (of, gives) = step in
      let (node, live) = of in
      let (none, same) = live in
      let (why, bearers, elements) = same in
      let given = gives begun is in
      let rest = said_all asked size given.0 mid new dues phases given.1 more in
      record {
        used = rest.used;
        is = rest.is;
        said = (
          behind given.0 mid,
          given.2,
          subst (λ b. BySteps (by_line b old.lines.elements clocked) (behind given.0 mid) phases (behind rest.used new)) bearers
              (subst (λ e. BySteps (by_line mid.lines.bearers e clocked) (behind given.0 mid) phases (behind rest.used new)) elements rest.said),
        );
        why = rest.why ∙ why;
        bearers = rest.bearers ∙ bearers;
        elements = rest.elements ∙ elements;
      }

-- the phases of lines have events that a node with so many elements may have
pub said_events : (bearers elements : ℕ) (clocked : Bool) (phases : List (List (List Event))) (old new : LinesAt) → BySteps (by_line bearers elements clocked) old phases new
    → All (All (AreEvents elements)) phases
said_events bearers elements clocked [] old new h = All-nil (All (AreEvents elements))
said_events bearers elements clocked (p ∷ phases) old new h =
    let g = h.1 in
    All-cons (All (AreEvents elements)) p phases
    (phase_fits bearers elements p (record { line = g.line; said = g.said; is = g.phase }))
    (said_events bearers elements clocked phases h.0 new h.2)

-- no call of a stream failed
pub record NoFault (old new : LinesAt) : Type 0 where
  pub source : new.source_faults ≡ old.source_faults
  pub sink : new.sink_faults ≡ old.sink_faults

none : (at : LinesAt) → NoFault at at
none at = record { source = refl; sink = refl }

then : (old mid new : LinesAt) → NoFault old mid → NoFault mid new → NoFault old new
then old mid new h k = record { source = k.source ∙ h.source; sink = k.sink ∙ h.sink }

move_faults : (bearers elements : ℕ) (move : Move) (old new : LinesAt) → Does bearers elements move old new → NoFault old new
move_faults bearers elements (reads octets) old new h =
    record { source = ap (λ (at : LinesAt). at.source_faults) h.same; sink = ap (λ (at : LinesAt). at.sink_faults) h.same }
move_faults bearers elements (passes raw) old new h =
    record { source = ap (λ (at : LinesAt). at.source_faults) h.takes.same; sink = ap (λ (at : LinesAt). at.sink_faults) h.takes.same }

moves_faults : (bearers elements : ℕ) (moves : List Move) (old new : LinesAt) → DoesAll bearers elements moves old new → NoFault old new
moves_faults bearers elements [] old new h =
    record { source = ap (λ (at : LinesAt). at.source_faults) h; sink = ap (λ (at : LinesAt). at.sink_faults) h }
moves_faults bearers elements (move ∷ moves) old new h =
    then old h.0 new (move_faults bearers elements move old h.0 h.1) (moves_faults bearers elements moves h.0 new h.2)

gives_faults : (bearers elements : ℕ) (clocked : Bool) (lists : List (List Event)) (old new : LinesAt) → GivesPhase bearers elements clocked lists old new → NoFault old new
gives_faults bearers elements clocked lists old new h = elim h.gives [
  | inl gives ↦
      let same = gives.says.takes.same in
      then old gives.mid new (moves_faults bearers elements gives.moves old gives.mid gives.before)
      (record { source = ap (λ (at : LinesAt). at.source_faults) same; sink = ap (λ (at : LinesAt). at.sink_faults) same })
  | inr time ↦
      let same = time.1.tells.same in
      then old time.1.mid new (moves_faults bearers elements time.1.moves old time.1.mid time.1.before)
      (record { source = ap (λ (at : LinesAt). at.source_faults) same; sink = ap (λ (at : LinesAt). at.sink_faults) same })
]

pub said_faults : (bearers elements : ℕ) (clocked : Bool) (phases : List (List (List Event))) (old new : LinesAt) → BySteps (by_line bearers elements clocked) old phases new → NoFault old new
said_faults bearers elements clocked [] old new h =
    record { source = ap (λ (at : LinesAt). at.source_faults) h; sink = ap (λ (at : LinesAt). at.sink_faults) h }
said_faults bearers elements clocked (p ∷ phases) old new h =
    then old h.0 new (gives_faults bearers elements clocked p old h.0 h.1) (said_faults bearers elements clocked phases h.0 new h.2)

pub ends_faults : (bearers elements : ℕ) (old new : LinesAt) → Ends bearers elements old new → NoFault old new
ends_faults bearers elements old new h =
    let same = h.ends.same in
    then old h.mid new (moves_faults bearers elements h.moves old h.mid h.before)
    (record { source = ap (λ (at : LinesAt). at.source_faults) same; sink = ap (λ (at : LinesAt). at.sink_faults) same })

-- of a source that failed: the faults of the one stream rose, or of none
abbrev pub FaultsBy : LineStop → LinesAt → LinesAt → Type 0
FaultsBy L.Source old new = Rose old.source_faults new.source_faults × (new.sink_faults ≡ old.sink_faults)
FaultsBy L.Errors old new = (new.source_faults ≡ old.source_faults) × Rose old.sink_faults new.sink_faults
FaultsBy _ old new = NoFault old new

pub fails_faults : (bearers elements : ℕ) (clocked : Bool) (why : LineStop) (old new : LinesAt) → Fails bearers elements clocked why old new → FaultsBy why old new
fails_faults bearers elements clocked L.Source old new h =
    let before = moves_faults bearers elements h.moves old h.mid h.before in
    elim h.fails [
      | inl read ↦ (subst (λ n. Rose n new.source_faults) before.source read.cause, ap (λ (at : LinesAt). at.sink_faults) read.same ∙ before.sink)
      | inr wait ↦ (subst (λ n. Rose n new.source_faults) before.source wait.1.cause, ap (λ (at : LinesAt). at.sink_faults) wait.1.same ∙ before.sink)
    ]
fails_faults bearers elements clocked L.Errors old new h =
    let before = moves_faults bearers elements h.moves old h.mid h.before in (
      ap (λ (at : LinesAt). at.source_faults) h.fails.same ∙ before.source,
      subst (λ n. Rose n new.sink_faults) before.sink h.fails.cause,
    )
fails_faults bearers elements clocked L.Memory old new h =
    then old h.mid new (moves_faults bearers elements h.moves old h.mid h.before)
    (elim h.fails [
      | inl line ↦ record { source = ap (λ (at : LinesAt). at.source_faults) line.same; sink = ap (λ (at : LinesAt). at.sink_faults) line.same }
      | inr time ↦ record { source = ap (λ (at : LinesAt). at.source_faults) time.1.same; sink = ap (λ (at : LinesAt). at.sink_faults) time.1.same }
    ])
fails_faults bearers elements clocked L.Endless old new h =
    then old h.mid new (moves_faults bearers elements h.moves old h.mid h.before)
    (record { source = ap (λ (at : LinesAt). at.source_faults) h.fails.1; sink = ap (λ (at : LinesAt). at.sink_faults) h.fails.1 })
fails_faults bearers elements clocked L.OtherNode old new h = absurd h.fails
