-- Whose count of faults rose.
use Rattle.std.proofs.Common.{◌≡◌, ◌∙◌, ◌++◌, ℕ, Bool, true, false, List, Option, Some, None, inl, inr, refl, sym, ap, subst}
use Rattle.event_definitions.specs.Role.{Role}
use Rattle.flash_model.specs.Chip.{Chip}
use Rattle.mesh_base.specs.Outside.{Rose}
use Rattle.mesh_node.specs.declared.told.LastStep.{LastStep}
use Rattle.mesh_node.specs.declared.told.LastStep.TheVariants as T
use Rattle.mesh_types.specs.declared.report.Opened.{Opened}
use Rattle.mesh_types.specs.declared.report.ReportLine.{ReportLine}
use Rattle.mesh_node.specs.Told.{IsClosedAt}
use Rattle.report_writer.specs.Writing.{SinkView, view_of}
use Rattle.store_definitions.specs.Config.{config_of}
use Rattle.report_writer.specs.declared.lives.WriteStop.{WriteStop}
use Rattle.report_writer.specs.declared.lives.WriteStop.TheVariants as stop
use Rattle.live_lines.specs.Moves.{LinesAt}
use Rattle.live_lines.specs.declared.lines.LineStop.{LineStop}
use Rattle.live_lines.specs.declared.lines.LineStop.TheVariants as L
use Rattle.live_report.specs.Steps.{IsCauseOf, WroteTo}
use Rattle.live_report.specs.declared.report.LiveReport.{LiveReport}
use Rattle.live_node.specs.Ending.{IsEndTold, status_behind}
use Rattle.live_node.specs.Ends.{EndsAs, EndsLost, EndsOver, IsClosedBy, IsErrorsCause, IsSinkCause, IsSourceCause}
use Rattle.live_node.specs.Lived.{BrokenAtLast, GoesOn, LacksLast, LivedBroken, LivedBy, LivedLacking, LivedShort, Standing, StreamsAt, Tells, at_end, begun, broken_at_end, failed, is_no_fault, streams_of, told_ended, told_open, unasked, unended}
use Rattle.live_node.specs.Status.{stop_status}
use Rattle.live_node.specs.declared.status.Status.{Status}
use Rattle.live_node.specs.declared.status.Status.TheVariants as S
use Rattle.live_node.proofs.Said.{FaultsBy, NoFault, ends_faults, fails_faults, said_faults}

-- The sink of the report.

module _ {K : Type 0} (held : K → Option (List ℕ)) (pieces : K → Option (List (List ℕ))) (faults : K → ℕ) (opened : Opened) (lines : List ReportLine) (report report' : LiveReport K) (sink : K) where
  behind_end : faults report'.sink ≡ faults report.sink → (status : Status)
      → IsEndTold opened status (view_of held pieces report'.sink) (faults report'.sink) (view_of held pieces sink) (faults sink) → IsSinkCause status (faults report.sink) (faults sink)
  behind_end same S.Done h = h.1 ∙ same
  behind_end same S.WriteFault h = subst (λ n. Rose n (faults sink)) same h.1
  behind_end same S.Memory h = h.1 ∙ same
  behind_end same S.ReadFault h = absurd h
  behind_end same S.FlashFault h = absurd h
  behind_end same S.Cut h = absurd h
  behind_end same S.ErrorsFault h = absurd h
  behind_end same S.WasReset h = absurd h

  behind_failure : (why : Option LineStop) (stopped : Option WriteStop) → faults sink ≡ faults report.sink → IsSinkCause (status_behind T.Unread why stopped) (faults report.sink) (faults sink)
  behind_failure None stopped same = same
  behind_failure (Some L.Source) stopped same = same
  behind_failure (Some L.Errors) stopped same = same
  behind_failure (Some L.Memory) stopped same = same
  behind_failure (Some L.Endless) stopped same = same
  behind_failure (Some L.OtherNode) stopped same = same

  behind_untold : (why : WriteStop) → IsCauseOf held pieces faults why report.sink sink → IsSinkCause (stop_status why) (faults report.sink) (faults sink)
  behind_untold stop.Fault h = h
  behind_untold stop.Memory h = h

  pub sink_cause : (last : LastStep) → WroteTo held pieces faults last lines report report' → (status : Status)
      → (last ≡ T.Ended → IsEndTold opened status (view_of held pieces report'.sink) (faults report'.sink) (view_of held pieces sink) (faults sink))
      → (why : Option LineStop) → ((last ≡ T.Ended → ⊥) → (status ≡ status_behind last why report'.stopped) × (sink ≡ report'.sink)) → IsSinkCause status (faults report.sink) (faults sink)
  sink_cause T.Ended wrote status told why up = behind_end wrote.faults_stay status (told refl)
  sink_cause T.Unread wrote status told why up =
      let (same, still) = up (λ e. cc) in
      subst (λ s. IsSinkCause s (faults report.sink) (faults sink)) (sym same) (behind_failure why report'.stopped (ap faults still ∙ wrote.faults_stay))
  sink_cause T.Cut wrote status told why up =
      let (same, still) = up (λ e. cc) in
      subst (λ s. IsSinkCause s (faults report.sink) (faults sink)) (sym same) (ap faults still ∙ wrote.faults_stay)
  sink_cause T.Untold wrote status told why up =
      let (same, still) = up (λ e. cc) in
      subst (λ s. IsSinkCause s (faults report.sink) (faults sink)) (sym (same ∙ ap (λ o. status_behind T.Untold why o) wrote.stopped))
      (behind_untold wrote.why (subst (λ k. IsCauseOf held pieces faults wrote.why report.sink k) (sym still) wrote.cause))

  closed_end : (closed : Bool) → closed ≡ false → (status : Status)
      → IsEndTold opened status (view_of held pieces report'.sink) (faults report'.sink) (view_of held pieces sink) (faults sink) → IsClosedBy status closed
  closed_end closed is S.Done h = is
  closed_end closed is S.WriteFault h = tt
  closed_end closed is S.Memory h = tt
  closed_end closed is S.ReadFault h = absurd h
  closed_end closed is S.FlashFault h = absurd h
  closed_end closed is S.Cut h = absurd h
  closed_end closed is S.ErrorsFault h = absurd h
  closed_end closed is S.WasReset h = absurd h

  closed_failure : (closed : Bool) → closed ≡ false → (why : Option LineStop) (stopped : Option WriteStop) → IsClosedBy (status_behind T.Unread why stopped) closed
  closed_failure closed is None stopped = tt
  closed_failure closed is (Some L.Source) stopped = is
  closed_failure closed is (Some L.Errors) stopped = is
  closed_failure closed is (Some L.Memory) stopped = tt
  closed_failure closed is (Some L.Endless) stopped = tt
  closed_failure closed is (Some L.OtherNode) stopped = tt

  closed_untold : (closed : Bool) (why : Option LineStop) (stopped : Option WriteStop) → IsClosedBy (status_behind T.Untold why stopped) closed
  closed_untold closed why None = tt
  closed_untold closed why (Some stop.Fault) = tt
  closed_untold closed why (Some stop.Memory) = tt

  pub closed_cause : (last : LastStep) (closed : Bool) → IsClosedAt last closed → (status : Status)
      → (last ≡ T.Ended → IsEndTold opened status (view_of held pieces report'.sink) (faults report'.sink) (view_of held pieces sink) (faults sink))
      → (why : Option LineStop) → ((last ≡ T.Ended → ⊥) → (status ≡ status_behind last why report'.stopped) × (sink ≡ report'.sink)) → IsClosedBy status closed
  closed_cause T.Ended closed is status told why up = closed_end closed is status (told refl)
  closed_cause T.Unread closed is status told why up = subst (λ s. IsClosedBy s closed) (sym (up (λ e. cc)).0) (closed_failure closed is why report'.stopped)
  closed_cause T.Cut closed is status told why up = subst (λ s. IsClosedBy s closed) (sym (up (λ e. cc)).0) is
  closed_cause T.Untold closed is status told why up = subst (λ s. IsClosedBy s closed) (sym (up (λ e. cc)).0) (closed_untold closed why report'.stopped)

-- The streams of lines.

module _ (role : Role) (image : List ℕ → Type 0) (hex : Bool) (bearers : ℕ) (clocked : Bool) (start : Chip) (from to : StreamsAt) (before after : SinkView) where
  -- what a life asked of its streams
  record Kept : Type 0 where
    source : to.source_faults ≡ from.source_faults
    sink : to.sink_faults ≡ from.sink_faults

  kept_at : (last : LinesAt) → streams_of last ≡ to → last.source_faults ≡ from.source_faults → last.sink_faults ≡ from.sink_faults → Kept
  kept_at last is source sink = record {
    source = sym (ap (λ (s : StreamsAt). s.source_faults) is) ∙ source;
    sink = sym (ap (λ (s : StreamsAt). s.sink_faults) is) ∙ sink;
  }

  unread : to ≡ from → Kept
  unread is = record { source = ap (λ (s : StreamsAt). s.source_faults) is; sink = ap (λ (s : StreamsAt). s.sink_faults) is }

  then_kept : (mid last : LinesAt) → NoFault (begun from) mid → NoFault mid last → streams_of last ≡ to → Kept
  then_kept mid last h k is = kept_at last is (k.source ∙ h.source) (k.sink ∙ h.sink)

  module _ (Stood : Standing) (new : Chip) (closed : Bool) (tells : Tells) where
    abbrev By : GoesOn → Type 0
    By goes = LivedBy Stood role image hex bearers clocked start new from to before after closed goes tells

    base : (goes : GoesOn) (l : By goes) → NoFault (begun from) l.mid
    base goes l = said_faults bearers (config_of l.over).elements clocked l.phases (begun from) l.mid l.said

    at_end_kept : By at_end → Kept
    at_end_kept l = then_kept l.mid l.last (base at_end l) (ends_faults bearers (config_of l.over).elements l.mid l.last l.goes_on) l.streams

    unasked_kept : By unasked → Kept
    unasked_kept l =
        then_kept l.mid l.last (base unasked l) (record { source = ap (λ (a : LinesAt). a.source_faults) l.goes_on; sink = ap (λ (a : LinesAt). a.sink_faults) l.goes_on }) l.streams

    unended_kept : By unended → Kept
    unended_kept l =
        let fails = l.goes_on in
        then_kept l.mid l.last (base unended l) (no_fault fails.0 fails.1 l.mid l.last (fails_faults bearers (config_of l.over).elements clocked fails.0 l.mid l.last fails.2)) l.streams
      where
        no_fault : (why : LineStop) → is_no_fault why ≡ true → (a b : LinesAt) → FaultsBy why a b → NoFault a b
        no_fault L.Source e a b h = absurd cc
        no_fault L.Errors e a b h = absurd cc
        no_fault L.Memory e a b h = h
        no_fault L.Endless e a b h = h
        no_fault L.OtherNode e a b h = h

    read_causes : By (failed L.Source) → Rose from.source_faults to.source_faults × (to.sink_faults ≡ from.sink_faults)
    read_causes l =
        let b = base (failed L.Source) l in
        let f = fails_faults bearers (config_of l.over).elements clocked L.Source l.mid l.last l.goes_on in (
          subst (λ (s : StreamsAt). Rose from.source_faults s.source_faults) l.streams (subst (λ n. Rose n l.last.source_faults) b.source f.0),
          sym (ap (λ (s : StreamsAt). s.sink_faults) l.streams) ∙ f.1 ∙ b.sink,
        )

    errors_causes : By (failed L.Errors) → (to.source_faults ≡ from.source_faults) × Rose from.sink_faults to.sink_faults
    errors_causes l =
        let b = base (failed L.Errors) l in
        let f = fails_faults bearers (config_of l.over).elements clocked L.Errors l.mid l.last l.goes_on in (
          sym (ap (λ (s : StreamsAt). s.source_faults) l.streams) ∙ f.0 ∙ b.source,
          subst (λ (s : StreamsAt). Rose from.sink_faults s.sink_faults) l.streams (subst (λ n. Rose n l.last.sink_faults) b.sink f.1),
        )

  short_kept : LivedShort role hex bearers clocked start from to before after → Kept
  short_kept l =
      let h = said_faults bearers (config_of l.over).elements clocked (l.phases ++ l.in_hand) (begun from) l.last l.said in
      kept_at l.last l.streams h.source h.sink

  broken_kept : (Stood : Standing) (new : Chip) (closed : Bool) → LivedBroken Stood role image hex bearers clocked start new from to before after closed → Kept
  broken_kept Stood new closed h = elim h [
    | inl e ↦ at_end_kept Stood new false (broken_at_end hex) e.1
    | inr l ↦ unasked_kept Stood new closed (BrokenAtLast hex) l
  ]

  lacking_kept : (Stood : Standing) (new : Chip) (closed : Bool) → LivedLacking Stood role image hex bearers clocked start new from to before after closed → Kept
  lacking_kept Stood new closed h = elim h [
    | inl e ↦ at_end_kept Stood new false (told_open hex) e.1
    | inr l ↦ unasked_kept Stood new closed (LacksLast hex) l
  ]

  abbrev Both : Status → Type 0
  Both status = IsSourceCause status from.source_faults to.source_faults × IsErrorsCause status from.sink_faults to.sink_faults

  over_causes : (Stood : Standing) (status : Status) (closed : Bool) (new : Chip) → EndsOver role image hex bearers clocked start from to before after Stood status closed new → Both status
  over_causes Stood S.Done closed new h = let k = at_end_kept Stood new false (told_ended hex) h in (k.source, k.sink)
  over_causes Stood S.Cut closed new h = let k = unasked_kept Stood new true (told_open hex) h in (k.source, k.sink)
  over_causes Stood S.ReadFault closed new h = read_causes Stood new false (told_open hex) h
  over_causes Stood S.ErrorsFault closed new h = errors_causes Stood new false (told_open hex) h
  over_causes Stood S.WriteFault closed new h = elim h [
    | inl u ↦ let k = unread u.1.unread in (k.source, k.sink)
    | inr l ↦ let k = broken_kept Stood new closed l in (k.source, k.sink)
  ]
  over_causes Stood S.Memory closed new h = elim h [
    | inl u ↦ let k = unread u.1.unread in (k.source, k.sink)
    | inr more ↦ elim more [
      | inl l ↦ let k = lacking_kept Stood new closed l in (k.source, k.sink)
      | inr l ↦ let k = unended_kept Stood new false (told_open hex) l.1 in (k.source, k.sink)
    ]
  ]
  over_causes Stood S.FlashFault closed new h = let k = unread h.unread in (k.source, k.sink)
  over_causes Stood S.WasReset closed new h = let k = unread h.unread in (k.source, k.sink)

  lost_causes : (status : Status) → EndsLost role image hex bearers clocked start from to before after status → Both status
  lost_causes S.Memory h = let k = short_kept h in (k.source, k.sink)
  lost_causes S.Done h = absurd h
  lost_causes S.Cut h = absurd h
  lost_causes S.ReadFault h = absurd h
  lost_causes S.ErrorsFault h = absurd h
  lost_causes S.WriteFault h = absurd h
  lost_causes S.FlashFault h = absurd h
  lost_causes S.WasReset h = absurd h

  pub stream_causes : {F : Type 0} (chip : F → Chip) (Stood : F → Standing) (status : Status) (closed : Bool) (flash : Option F)
      → EndsAs role image hex bearers clocked start from to before after chip Stood status closed flash → Both status
  stream_causes chip Stood status closed (Some flash) h = over_causes (Stood flash) status closed (chip flash) h
  stream_causes chip Stood status closed None h = lost_causes status h
