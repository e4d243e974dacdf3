-- Rounds, one after another.
use Rattle.std.proofs.Common.{◌≡◌, ℕ, Bool, true, List, [], ap, subst, sym, refl, ◌∙◌, inl, inr, Option, Some, None}
use Rattle.std.specs.Prelude.{Result, IfOk}
use Rattle.std.specs.Io.KnownBytes.{Consumes}
use Rattle.mesh_base.specs.Outside.{one_more}
use Rattle.report_writer.specs.Writing.{SinkView}
use Rattle.script_definitions.specs.declared.line.ScriptLine.{ScriptLine}
use Rattle.script_definitions.specs.declared.line.ScriptLine.TheVariants as S
use Rattle.live_lines.specs.Clock.{AreTicks, told_more, with_told}
use Rattle.live_lines.specs.Moves.{DoesAll, LinesAt}
use Rattle.live_lines.specs.Nexts.{IsNextLine, IsRound}
use Rattle.live_lines.specs.Steps.{Comes, Fails, FailsAt, FailsBy, FailsToWait, HasWaited, TellsTime}
use Rattle.live_lines.specs.declared.clock.Awaited.{Awaited}
use Rattle.live_lines.specs.declared.clock.Awaited.TheVariants as A
use Rattle.live_lines.specs.declared.line_phases.Round.{Round}
use Rattle.live_lines.specs.declared.line_phases.Round.TheVariants as R
use Rattle.live_lines.specs.declared.lines.LineStop.{LineStop}
use Rattle.live_lines.specs.declared.lines.LineStop.TheVariants as L
use Rattle.live_lines.proofs.Moving.{HasMoved}
use Rattle.live_lines.proofs.Turning.{reads_none}

-- time that the source told
pub tells : (ticks : ℕ) (old new : LinesAt) → AreTicks ticks → new ≡ record old { time = told_more old.time ticks } → TellsTime (S.Tick 0 ticks) old new
tells ticks old new some h =
    let time : new.time ≡ told_more old.time ticks = ap (λ (a : LinesAt). a.time) h in
    record { passed = record { ticks = ticks; some = some; is = refl; told = time }; same = h ∙ ap (λ (t : ℕ). record old { time = t }) (sym time) }

-- a source that was waited for, of which nothing was read
pub has_waited : (awaited : Awaited) (left more : Option (List ℕ)) (held : List ℕ) (number : ℕ) (told : SinkView) (faults after sink time later : ℕ)
    → more ≡ left → after ≡ faults → later ≡ with_told time awaited
    → HasWaited awaited (record { left = left; held = held; number = number; told = told; source_faults = faults; sink_faults = sink; time = time })
    (record { left = more; held = held; number = number; told = told; source_faults = after; sink_faults = sink; time = later })
has_waited A.Input left more held number told faults after sink time later read same clock =
    ap (λ (l : Option (List ℕ)). record { left = l; held = held; number = number; told = told; source_faults = after; sink_faults = sink; time = later }) read
    ∙ ap (λ (n : ℕ). record { left = left; held = held; number = number; told = told; source_faults = n; sink_faults = sink; time = later }) same
    ∙ ap (λ (t : ℕ). record { left = left; held = held; number = number; told = told; source_faults = faults; sink_faults = sink; time = t }) clock
has_waited (A.Passed ticks) left more held number told faults after sink time later read same clock =
    ap (λ (l : Option (List ℕ)). record { left = l; held = held; number = number; told = told; source_faults = after; sink_faults = sink; time = later }) read
    ∙ ap (λ (n : ℕ). record { left = left; held = held; number = number; told = told; source_faults = n; sink_faults = sink; time = later }) same
    ∙ ap (λ (t : ℕ). record { left = left; held = held; number = number; told = told; source_faults = faults; sink_faults = sink; time = t }) clock

module _ (bearers elements : ℕ) (clocked : Bool) where
  -- a move that failed, and a wait
  pub fails_at : (why : LineStop) (n : ℕ) (old new : LinesAt) → FailsBy bearers elements why n old new
      → FailsAt bearers elements clocked why n old new
  fails_at L.Source n old new h = inl h
  fails_at L.Errors n old new h = h
  fails_at L.Memory n old new h = inl h
  fails_at L.Endless n old new h = h
  fails_at L.OtherNode n old new h = h

  pub waits_fail : (why : LineStop) (n : ℕ) (old new : LinesAt) → why ≡ L.Source → clocked ≡ true → FailsToWait old new
      → FailsAt bearers elements clocked why n old new
  waits_fail why n old new is tells h = subst (λ (w : LineStop). FailsAt bearers elements clocked w n old new) (sym is) (inr (tells, h))

  -- the same node at the same place
  pub round_of : (b e : ℕ) (round : Round) (front : List ℕ) (old mid : LinesAt) (new : List ℕ → LinesAt) → b ≡ bearers → e ≡ elements → mid ≡ old
      → IsRound b e clocked round front mid new → IsRound bearers elements clocked round front old new
  round_of b e round front old mid new is same at h =
      subst (λ (a : LinesAt). IsRound bearers elements clocked round front a new) at
      (subst (λ (n : ℕ). IsRound bearers n clocked round front mid new) same (subst (λ (n : ℕ). IsRound n e clocked round front mid new) is h))

  pub rounds_of : (b e : ℕ) (round : Result Round LineStop) (front : List ℕ) (old mid : LinesAt) (new : List ℕ → LinesAt) → b ≡ bearers → e ≡ elements → mid ≡ old
      → IfOk round (λ r. IsRound b e clocked r front mid new) → IfOk round (λ r. IsRound bearers elements clocked r front old new)
  rounds_of b e round front old mid new is same at h =
      subst (λ (a : LinesAt). IfOk round (λ r. IsRound bearers elements clocked r front a new)) at
      (subst (λ (n : ℕ). IfOk round (λ r. IsRound bearers n clocked r front mid new)) same
      (subst (λ (n : ℕ). IfOk round (λ r. IsRound n e clocked r front mid new)) is h))

  -- behind moves a line came, or the end

  module _ (count : ℕ) (front next : List ℕ) (old : LinesAt) (mid new : List ℕ → LinesAt) (h : HasMoved bearers elements count front old mid) where
    pub came : (line : ScriptLine) → IsRound bearers elements clocked (R.Comes line) next (mid h.used) new
        → IsNextLine bearers elements clocked (Some line) next old new
    came line r = (
      (
        r.0.0,
        r.0.1,
        elim r.0.2 [
          | inl says ↦ inl (record { moves = h.moves; mid = mid h.used; before = h.did; says = says })
          | inr time ↦ inr (time.0, record { moves = h.moves; mid = mid h.used; before = h.did; tells = time.1 })
        ],
      ),
      r.1,
    )

    pub ended : IsRound bearers elements clocked R.Ended next (mid h.used) new → IsNextLine bearers elements clocked None next old new
    ended r = (record { moves = h.moves; mid = mid h.used; before = h.did; ends = r.0 }, r.1)

  -- what came is lost, where there is no memory for its phase
  pub lose : (line : ScriptLine) (old new : LinesAt) (held : List ℕ) → Comes bearers elements clocked line old new
      → Fails bearers elements clocked L.Memory old (record new { held = held })
  lose line old new held h = elim h [
    | inl g ↦
        let same = g.says.takes.same in
        let left : new.left ≡ g.mid.left = ap (λ (a : LinesAt). a.left) same in
        record {
          moves = g.moves;
          mid = g.mid;
          before = g.before;
          fails = inl (record {
            read = subst (λ (l : Option (List ℕ)). Consumes g.mid.left l []) (sym left) (reads_none g.mid.left);
            same =
                ap (λ (a : LinesAt). record a { held = held }) same
                ∙ ap (λ (t : SinkView). record g.mid { held = held; number = one_more g.mid.number; told = t }) g.says.untold
                ∙ ap (λ (l : Option (List ℕ)). record g.mid { left = l; held = held; number = one_more g.mid.number }) (sym left);
          });
        }
    | inr t ↦
        let tells = t.1.tells in
        record {
          moves = t.1.moves;
          mid = t.1.mid;
          before = t.1.before;
          fails = inr (t.0, record { line = line; passed = tells.passed; same = ap (λ (a : LinesAt). record a { held = held }) tells.same });
        }
  ]
