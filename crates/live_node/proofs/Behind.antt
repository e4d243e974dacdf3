-- What a life leaves behind its last step.
use Rattle.std.proofs.Common.{◌≡◌, ◌∙◌, ℕ, Bool, List, [], ◌∷◌, ◌++◌, Option, None, Some, false, inl, inr, refl, sym, ap, subst}
use Rattle.flash_model.specs.Chip.{Chip}
use Rattle.event_definitions.specs.Role.{Role}
use Rattle.mesh_types.specs.declared.history.Entry.{Entry}
use Rattle.mesh_types.specs.declared.report.End.TheVariants as Z
use Rattle.mesh_types.specs.declared.report.Opened.{Opened}
use Rattle.mesh_types.specs.declared.report.Opened.TheVariants as W
use Rattle.report_definitions.specs.Report.{end_lines, opened_line}
use Rattle.seq_word.specs.Seen.{ClosedView}
use Rattle.machine_contract.specs.Opening.{MigratesOnly}
use Rattle.machine_contract.specs.View.{MachineView}
use Rattle.record_types.specs.declared.records.StoreRecord.{StoreRecord}
use Rattle.store_definitions.specs.Config.{config_of}
use Rattle.mesh_node.specs.Lived.{FellShort, LivedOn}
use Rattle.mesh_node.specs.Told.{BySteps, FailedAtLast, GivesEach, PhaseDid, SinkSteps}
use Rattle.mesh_node.specs.declared.told.LastStep.{LastStep}
use Rattle.mesh_node.specs.declared.told.LastStep.TheVariants as T
use Rattle.report_writer.specs.Writing.{SinkView, Written, WrittenFront, view_of}
use Rattle.report_writer.specs.declared.lives.WriteStop.{WriteStop}
use Rattle.report_writer.specs.declared.lives.WriteStop.TheVariants as stop
use Rattle.report_writer.proofs.Written.{written_more}
use Rattle.live_lines.specs.Moves.{LinesAt}
use Rattle.live_lines.specs.Sources.{FailsAs, FailsBehind}
use Rattle.live_lines.specs.Steps.{Ends, Fails}
use Rattle.live_lines.specs.Turns.{IsFrontOf}
use Rattle.live_lines.specs.declared.line_phases.LinePhases.{LinePhases}
use Rattle.live_lines.specs.declared.lines.LineStop.{LineStop}
use Rattle.live_lines.specs.declared.lines.LineStop.TheVariants as L
use Rattle.live_report.specs.Laws.{AllIsWritten}
use Rattle.live_report.specs.Lines.{did_lines, phases_lines}
use Rattle.live_report.specs.Steps.{FailsAtLast, WroteTo}
use Rattle.live_report.specs.declared.report.LiveReport.{LiveReport}
use Rattle.live_node.specs.Ending.{IsEndTold, status_behind}
use Rattle.live_node.specs.Ends.{EndsOver}
use Rattle.live_node.specs.Lived.{BrokenAtLast, GoesOn, LacksLast, LivedBy, LivedShort, StreamsAt, Tells, at_end, begun, broken_at_end, by_line, failed, open_lines, streams_of, told_ended, told_open, unasked, unended}
use Rattle.live_node.specs.Status.{line_status, stop_status}
use Rattle.live_node.specs.declared.status.Status.{Status}
use Rattle.live_node.specs.declared.status.Status.TheVariants as V
use Rattle.live_node.proofs.Said as Said

module _ {S E K F : Type 0} (clocked : Bool) (left : S → Option (List ℕ)) (source_faults : S → ℕ) (time : S → ℕ) (took : E → Option (List ℕ)) (told_pieces : E → Option (List (List ℕ))) (errors_faults : E → ℕ)
    (held : K → Option (List ℕ)) (pieces : K → Option (List (List ℕ))) (faults : K → ℕ)
    (Stood : List StoreRecord → MachineView → Type 0) (role : Role) (image : List ℕ → Type 0) (IsDue : List Entry → ℕ → Type 0) (sinks : SinkSteps (LiveReport K)) (bearers : ℕ) (start new : Chip) (ready left_over : F)
    (lines lines' : LinePhases S E) (report report' : LiveReport K) (sink : K) (refills : ℕ) (drawn : ClosedView) (closed : Bool) where
  abbrev at : LinePhases S E → LinesAt
  at l = Said.at clocked left source_faults time took told_pieces errors_faults l

  abbrev behind : List ℕ → LinePhases S E → LinesAt
  behind used l = Said.behind clocked left source_faults time took told_pieces errors_faults used l

  abbrev view : K → SinkView
  view k = view_of held pieces k

  abbrev Lived : LastStep → Type 0
  Lived last = LivedOn Stood role image IsDue (Said.line_steps clocked left source_faults time took told_pieces errors_faults) sinks lines lines' report report' bearers start new ready left_over refills drawn closed last

  module _ (from : StreamsAt) (before : SinkView) (opened : Opened) (whole : AllIsWritten) (first : Written (opened_line 1 opened ∷ []) before (view report.sink)) (begins : at lines ≡ begun from) (unfailed_yet : lines.lines.why ≡ None) (unused : IsFrontOf lines.front []) (only : left_over ≡ ready → MigratesOnly start new) where
    abbrev to : StreamsAt
    to = streams_of (at lines')

    abbrev Over : Status → Type 0
    Over status = EndsOver role image report.hex bearers clocked start from to before (view sink) Stood status closed new

    module _ (last : LastStep) (lived : Lived last) (is : opened ≡ W.On (config_of lived.over).iv (config_of lived.over).mark) (elements : lines.lines.elements ≡ (config_of lived.over).elements) (many : lines.lines.bearers ≡ bearers) where
      -- the phases that the lines say, of a node with the elements of the records
      said_over : (mid : LinesAt) → BySteps (by_line lines.lines.bearers lines.lines.elements clocked) (at lines) lived.phases mid
          → BySteps (by_line bearers (config_of lived.over).elements clocked) (begun from) lived.phases mid
      said_over mid said =
          subst (λ a. BySteps (by_line bearers (config_of lived.over).elements clocked) a lived.phases mid) begins
          (subst (λ e. BySteps (by_line bearers e clocked) (at lines) lived.phases mid) elements (subst (λ b. BySteps (by_line b lines.lines.elements clocked) (at lines) lived.phases mid) many said))

      build : (goes : GoesOn) (tells : Tells) (mid last : LinesAt) → streams_of last ≡ to
          → BySteps (by_line lines.lines.bearers lines.lines.elements clocked) (at lines) lived.phases mid
          → goes lines.lines.bearers lines.lines.elements clocked mid last → tells opened lived.did before (view sink)
          → LivedBy Stood role image report.hex bearers clocked start new from to before (view sink) closed goes tells
      build goes tells mid last same said goes_on wrote = record {
        over = lived.over;
        recovered = lived.recovered;
        phases = lived.phases;
        did = lived.did;
        mid = mid;
        said = said_over mid said;
        events = Said.said_events bearers (config_of lived.over).elements clocked lived.phases (begun from) mid (said_over mid said);
        last = last;
        goes_on = subst (λ e. goes bearers e clocked mid last) elements (subst (λ b. goes b lines.lines.elements clocked mid last) many goes_on);
        streams = same;
        refills = refills;
        drawn = drawn;
        placed = lived.placed;
        each = lived.each;
        all = lived.all;
        paid = lived.paid;
        from_moves = lived.from;
        until = lived.until;
        timed = lived.timed;
        hand = lived.hand;
        life = lived.life;
        wrote = subst (λ o. tells o lived.did before (view sink)) is wrote;
        node = lived.node;
        later = lived.later;
        cause = lived.cause;
        no_fault = lived.no_fault;
        moved = lived.moved;
        writes = λ none. only (lived.idle none);
      }

      abbrev Gave : List ℕ → LinePhases S E → Type 0
      Gave dues mid = GivesEach (Said.line_steps clocked left source_faults time took told_pieces errors_faults) bearers (config_of lived.over).elements lines dues lived.phases mid

      -- the source came to its end
      ended : (dues : List ℕ) (mid : LinePhases S E) → Gave dues mid
          → ((used : List ℕ) → IsFrontOf mid.front used → Ends mid.lines.bearers mid.lines.elements (behind used mid) (at lines'))
          → (tells : Tells) → tells opened lived.did before (view sink)
          → LivedBy Stood role image report.hex bearers clocked start new from to before (view sink) closed at_end tells
      ended dues mid gave ends tells wrote =
          let said = Said.said_all clocked left source_faults time took told_pieces errors_faults bearers (config_of lived.over).elements [] lines mid dues lived.phases unused gave in
          let here = behind said.used mid in
          build at_end tells here (at lines') refl said.said
          (subst (λ e. Ends lines.lines.bearers e here (at lines')) said.elements
          (subst (λ b. Ends b mid.lines.elements here (at lines')) said.bearers (ends said.used said.is))) wrote

      -- it failed, for this cause
      gave_up : (dues : List ℕ) (mid : LinePhases S E) → Gave dues mid
          → (why : LineStop) → ((used : List ℕ) → IsFrontOf mid.front used → Fails mid.lines.bearers mid.lines.elements clocked why (behind used mid) (at lines'))
          → (tells : Tells) → tells opened lived.did before (view sink)
          → (goes : GoesOn)
          → ((m : LinesAt) → Fails lines.lines.bearers lines.lines.elements clocked why m (at lines') → goes lines.lines.bearers lines.lines.elements clocked m (at lines'))
          → LivedBy Stood role image report.hex bearers clocked start new from to before (view sink) closed goes tells
      gave_up dues mid gave why fails tells wrote goes is_so =
          let said = Said.said_all clocked left source_faults time took told_pieces errors_faults bearers (config_of lived.over).elements [] lines mid dues lived.phases unused gave in
          let here = behind said.used mid in
          build goes tells here (at lines') refl said.said
          (is_so here (subst (λ e. Fails lines.lines.bearers e clocked why here (at lines')) said.elements
          (subst (λ b. Fails b mid.lines.elements clocked why here (at lines')) said.bearers (fails said.used said.is)))) wrote

      -- it wasn't asked any more
      asked : Gave lived.dues lines'
          → (tells : Tells) → tells opened lived.did before (view sink)
          → (goes : GoesOn) → ((m : LinesAt) → goes lines.lines.bearers lines.lines.elements clocked m m)
          → LivedBy Stood role image report.hex bearers clocked start new from to before (view sink) closed goes tells
      asked gave tells wrote goes is_so =
          let said = Said.said_all clocked left source_faults time took told_pieces errors_faults bearers (config_of lived.over).elements [] lines lines' lived.dues lived.phases unused gave in
          let here = behind said.used lines' in
          build goes tells here here refl said.said (is_so here) wrote

    -- what was written of the life
    abbrev Shown : Bool → GoesOn → Tells → Type 0
    Shown b goes tells = LivedBy Stood role image report.hex bearers clocked start new from to before (view sink) b goes tells

    -- the lines of the opening and of phases
    open_written : (did : List PhaseDid) (k : SinkView) → Written (phases_lines report.hex did) (view report.sink) k → Written (open_lines report.hex opened did) before k
    open_written did k wrote = written_more (opened_line 1 opened ∷ []) (phases_lines report.hex did) before (view report.sink) k first wrote

    -- a front of the line of the end was written
    end_broken : (lived : Lived T.Ended) → opened ≡ W.On (config_of lived.over).iv (config_of lived.over).mark → lines.lines.elements ≡ (config_of lived.over).elements → lines.lines.bearers ≡ bearers
        → Written (phases_lines report.hex lived.did) (view report.sink) (view report'.sink) → WrittenFront (end_lines opened Z.Ended) (view report'.sink) (view sink)
        → Shown false at_end (broken_at_end report.hex)
    end_broken lived is el many wrote front =
        let (mid, gave, ends) = lived.gave in
        subst (λ b. Shown b at_end (broken_at_end report.hex)) lived.end
        (ended T.Ended lived is el many lived.dues mid gave ends.1 (broken_at_end report.hex)
        (view report'.sink, open_written lived.did (view report'.sink) wrote, front))

    behind_end : (lived : Lived T.Ended) → opened ≡ W.On (config_of lived.over).iv (config_of lived.over).mark → lines.lines.elements ≡ (config_of lived.over).elements → lines.lines.bearers ≡ bearers
        → WroteTo held pieces faults T.Ended (phases_lines report.hex lived.did) report report'
        → (status : Status) → IsEndTold opened status (view report'.sink) (faults report'.sink) (view sink) (faults sink) → Over status
    behind_end lived is el many wrote V.Done h =
        let (mid, gave, ends) = lived.gave in
        subst (λ b. Shown b at_end (told_ended report.hex)) lived.end
        (ended T.Ended lived is el many lived.dues mid gave ends.1 (told_ended report.hex)
        (whole report.hex 1 opened lived.did Z.Ended before (view report.sink) (view report'.sink) (view sink) first wrote.written h.0))
    behind_end lived is el many wrote V.WriteFault h = inr (inl (lived.end, end_broken lived is el many wrote.written h.0))
    behind_end lived is el many wrote V.Memory h =
        let (mid, gave, ends) = lived.gave in
        inr (inl (inl (
          lived.end,
          subst (λ b. Shown b at_end (told_open report.hex)) lived.end
              (ended T.Ended lived is el many lived.dues mid gave ends.1 (told_open report.hex)
              (open_written lived.did (view sink) (subst (Written (phases_lines report.hex lived.did) (view report.sink)) (sym h.0) wrote.written))),
        )))
    behind_end lived is el many wrote V.ReadFault h = absurd h
    behind_end lived is el many wrote V.FlashFault h = absurd h
    behind_end lived is el many wrote V.Cut h = absurd h
    behind_end lived is el many wrote V.ErrorsFault h = absurd h
    behind_end lived is el many wrote V.WasReset h = absurd h

    -- no stream failed, and the source gave none
    unfed : (lived : Lived T.Unread) → Shown closed unended (told_open report.hex) → Over V.Memory
    unfed lived h = inr (inr (lived.end, subst (λ b. Shown b unended (told_open report.hex)) lived.end h))

    behind_failure : (lived : Lived T.Unread) → opened ≡ W.On (config_of lived.over).iv (config_of lived.over).mark → lines.lines.elements ≡ (config_of lived.over).elements → lines.lines.bearers ≡ bearers
        → Written (phases_lines report.hex lived.did) (view report.sink) (view sink)
        → (dues : List ℕ) (mid : LinePhases S E) → GivesEach (Said.line_steps clocked left source_faults time took told_pieces errors_faults) bearers (config_of lived.over).elements lines dues lived.phases mid
        → (why : LineStop) → FailsAs clocked left source_faults time took told_pieces errors_faults bearers (config_of lived.over).elements why mid lines' → Over (line_status why)
    behind_failure lived is el many wrote dues mid gave L.Source fails =
        subst (λ b. Shown b (failed L.Source) (told_open report.hex)) lived.end
        (gave_up T.Unread lived is el many dues mid gave L.Source fails (told_open report.hex) (open_written lived.did (view sink) wrote) (failed L.Source) (λ m k. k))
    behind_failure lived is el many wrote dues mid gave L.Errors fails =
        subst (λ b. Shown b (failed L.Errors) (told_open report.hex)) lived.end
        (gave_up T.Unread lived is el many dues mid gave L.Errors fails (told_open report.hex) (open_written lived.did (view sink) wrote) (failed L.Errors) (λ m k. k))
    behind_failure lived is el many wrote dues mid gave L.Memory fails =
        unfed lived (gave_up T.Unread lived is el many dues mid gave L.Memory fails (told_open report.hex) (open_written lived.did (view sink) wrote) unended (λ m k. (L.Memory, refl, k)))
    behind_failure lived is el many wrote dues mid gave L.Endless fails =
        unfed lived (gave_up T.Unread lived is el many dues mid gave L.Endless fails (told_open report.hex) (open_written lived.did (view sink) wrote) unended (λ m k. (L.Endless, refl, k)))
    behind_failure lived is el many wrote dues mid gave L.OtherNode fails =
        let said = Said.said_all clocked left source_faults time took told_pieces errors_faults bearers (config_of lived.over).elements [] lines mid dues lived.phases unused gave in
        absurd ((fails said.used said.is).0 (sym (said.bearers ∙ many), sym (said.elements ∙ el)))

    behind_cut : (lived : Lived T.Cut) → opened ≡ W.On (config_of lived.over).iv (config_of lived.over).mark → lines.lines.elements ≡ (config_of lived.over).elements → lines.lines.bearers ≡ bearers
        → Written (phases_lines report.hex lived.did) (view report.sink) (view sink) → Over V.Cut
    behind_cut lived is el many wrote =
        subst (λ b. Shown b unasked (told_open report.hex)) lived.end
        (asked T.Cut lived is el many lived.gave (told_open report.hex) (open_written lived.did (view sink) wrote) unasked (λ m. refl))

    -- it was broken off in what the last phase did
    at_last : (did : List PhaseDid) → FailsAtLast held pieces faults report did report' → sink ≡ report'.sink → BrokenAtLast report.hex opened did before (view sink)
    at_last did h still = record {
      told = h.told;
      last = h.last;
      is = h.is;
      mid = view h.mid.sink;
      whole = open_written h.told (view h.mid.sink) h.wrote.written;
      front = subst (λ k. WrittenFront (did_lines report.hex h.last) (view h.mid.sink) (view k)) (sym still)
          (subst (λ hex. WrittenFront (did_lines hex h.last) (view h.mid.sink) (view report'.sink)) h.wrote.hex h.failed.told.front);
    }

    -- for want of memory nothing of that was written
    lacks_last : (did : List PhaseDid) → FailsAtLast held pieces faults report did report' → sink ≡ report'.sink → report'.stopped ≡ Some stop.Memory → LacksLast report.hex opened did before (view sink)
    lacks_last did h still stopped = record {
      told = h.told;
      last = h.last;
      is = h.is;
      whole = subst (λ k. Written (open_lines report.hex opened h.told) before (view k)) (sym (still ∙ h.failed.nothing stopped)) (open_written h.told (view h.mid.sink) h.wrote.written);
    }

    behind_untold : (lived : Lived T.Untold) → opened ≡ W.On (config_of lived.over).iv (config_of lived.over).mark → lines.lines.elements ≡ (config_of lived.over).elements → lines.lines.bearers ≡ bearers
        → FailsAtLast held pieces faults report lived.did report' → sink ≡ report'.sink → (why : WriteStop) → report'.stopped ≡ Some why → Over (stop_status why)
    behind_untold lived is el many failed still stop.Fault stopped =
        inr (inr (asked T.Untold lived is el many lived.gave (BrokenAtLast report.hex) (at_last lived.did failed still) unasked (λ m. refl)))
    behind_untold lived is el many failed still stop.Memory stopped =
        inr (inl (inr (asked T.Untold lived is el many lived.gave (LacksLast report.hex) (lacks_last lived.did failed still stopped) unasked (λ m. refl))))

    -- whatever its last step was
    pub over : (last : LastStep) (lived : Lived last) → opened ≡ W.On (config_of lived.over).iv (config_of lived.over).mark → lines.lines.elements ≡ (config_of lived.over).elements → lines.lines.bearers ≡ bearers
        → WroteTo held pieces faults last (phases_lines report.hex lived.did) report report'
        → ((did : List PhaseDid) → FailedAtLast sinks report did report' → FailsAtLast held pieces faults report did report') → (status : Status)
        → (last ≡ T.Ended → IsEndTold opened status (view report'.sink) (faults report'.sink) (view sink) (faults sink))
        → ((last ≡ T.Ended → ⊥) → (status ≡ status_behind last lines'.lines.why report'.stopped) × (sink ≡ report'.sink)) → Over status
    over T.Ended lived is el many wrote failed_at status told up = behind_end lived is el many wrote status (told refl)
    over T.Unread lived is el many wrote failed_at status told up =
        let (same, still) = up (λ e. cc) in
        let asked = lived.gave in
        let mid = asked.mid in
        let said = Said.said_all clocked left source_faults time took told_pieces errors_faults bearers (config_of lived.over).elements [] lines mid asked.before lived.phases unused asked.gave in
        let (why, f) = subst (λ o. FailsBehind clocked left source_faults time took told_pieces errors_faults bearers (config_of lived.over).elements o mid lines') (said.why ∙ unfailed_yet) asked.failed in
        subst Over (sym (same ∙ ap (λ o. status_behind T.Unread o report'.stopped) f.kept))
        (behind_failure lived is el many (subst (λ k. Written (phases_lines report.hex lived.did) (view report.sink) (view k)) (sym still) wrote.written) asked.before mid asked.gave why f.fails)
    over T.Cut lived is el many wrote failed_at status told up =
        let (same, still) = up (λ e. cc) in
        subst Over (sym same) (behind_cut lived is el many (subst (λ k. Written (phases_lines report.hex lived.did) (view report.sink) (view k)) (sym still) wrote.written))
    over T.Untold lived is el many wrote failed_at status told up =
        let (same, still) = up (λ e. cc) in
        subst Over (sym (same ∙ ap (λ o. status_behind T.Untold lines'.lines.why o) wrote.stopped))
        (behind_untold lived is el many (failed_at lived.did lived.took) still wrote.why wrote.stopped)

    -- where memory ran out
    pub short : (fell : FellShort role IsDue (Said.line_steps clocked left source_faults time took told_pieces errors_faults) sinks lines lines' report report' bearers start) → opened ≡ W.On (config_of fell.over).iv (config_of fell.over).mark
        → lines.lines.elements ≡ (config_of fell.over).elements → lines.lines.bearers ≡ bearers → Written (phases_lines report.hex fell.did) (view report.sink) (view report'.sink)
        → LivedShort role report.hex bearers clocked start from to before (view report'.sink)
    short fell is elements many wrote =
        let said = Said.said_all clocked left source_faults time took told_pieces errors_faults bearers (config_of fell.over).elements [] lines lines' fell.dues (fell.phases ++ fell.in_hand) unused fell.gave in
        let here = behind said.used lines' in
        record {
          over = fell.over;
          recovered = fell.recovered;
          phases = fell.phases;
          in_hand = fell.in_hand;
          one = fell.one;
          did = fell.did;
          placed = fell.placed;
          last = here;
          said = subst (λ a. BySteps (by_line bearers (config_of fell.over).elements clocked) a (fell.phases ++ fell.in_hand) here) begins
              (subst (λ e. BySteps (by_line bearers e clocked) (at lines) (fell.phases ++ fell.in_hand) here) elements
              (subst (λ b. BySteps (by_line b lines.lines.elements clocked) (at lines) (fell.phases ++ fell.in_hand) here) many said.said));
          streams = refl;
          each = fell.each;
          told = fell.told;
          entries = fell.entries;
          handled = fell.handled;
          wrote = subst (λ o. Written (open_lines report.hex o fell.did) before (view report'.sink)) is
              (written_more (opened_line 1 opened ∷ []) (phases_lines report.hex fell.did) before (view report.sink) (view report'.sink) first wrote);
        }
