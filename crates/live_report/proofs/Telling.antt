-- Lines of phases, one phase behind another.
use Rattle.std.proofs.Common.{◌≡◌, ◌∙◌, ℕ, Bool, List, [], ◌∷◌, ◌++◌, Option, refl, sym, ap, subst, append-nil}
use Rattle.std.proofs.lemmas.Grind.{flat_map-append}
use Rattle.mesh_node.specs.Told.{BySteps, FailedAtLast, HasTaken, PhaseDid, SinkSteps}
use Rattle.mesh_node.specs.declared.told.LastStep.{LastStep}
use Rattle.mesh_node.specs.declared.told.LastStep.TheVariants as L
use Rattle.mesh_types.specs.declared.report.ReportLine.{ReportLine}
use Rattle.report_definitions.specs.Report.{end_lines, opened_line}
use Rattle.report_writer.proofs.Written.{front_behind, front_of_more, front_whole, written_more, written_none}
use Rattle.report_writer.specs.Writing.{SinkView, WrittenFront, view_of}
use Rattle.report_writer.specs.declared.lives.WriteStop.{WriteStop}
use Rattle.report_writer.specs.declared.lives.WriteStop.TheVariants as stop
use Rattle.live_report.specs.Laws.{AllIsWritten, EndBehindIsFront, EndIsFront, LastIsFront, OpeningIsFront, PhasesAloneAreFront, PhasesAreFront}
use Rattle.live_report.specs.Lines.{did_lines, phases_lines}
use Rattle.live_report.specs.Steps.{FailsAt, FailsAtLast, IsCauseOf, Takes, Wrote, WroteFront, WroteTo}
use Rattle.live_report.specs.declared.report.LiveReport.{LiveReport}

lines_of_last : (hex : Bool) (did : List PhaseDid) (last : PhaseDid) → phases_lines hex (did ++ last ∷ []) ≡ phases_lines hex did ++ did_lines hex last
lines_of_last hex did last = flat_map-append (did_lines hex) did (last ∷ []) ∙ ap (λ l. phases_lines hex did ++ l) (append-nil (did_lines hex last))

module _ {K : Type 0} (held : K → Option (List ℕ)) (pieces : K → Option (List (List ℕ))) (faults : K → ℕ) where
  abbrev view : K → SinkView
  view sink = view_of held pieces sink

  wrote_none : (r : LiveReport K) → Wrote held pieces faults [] r r
  wrote_none r = record { written = written_none (view r.sink); faults_stay = refl; hex = refl; stopped = refl }

  wrote_more : (ls ms : List ReportLine) (old mid new : LiveReport K) → Wrote held pieces faults ls old mid → Wrote held pieces faults ms mid new
      → Wrote held pieces faults (ls ++ ms) old new
  wrote_more ls ms old mid new h k = record {
    written = written_more ls ms (view old.sink) (view mid.sink) (view new.sink) h.written k.written;
    faults_stay = k.faults_stay ∙ h.faults_stay;
    hex = k.hex ∙ h.hex;
    stopped = k.stopped ∙ h.stopped;
  }

  cause_behind : (why : WriteStop) (old mid new : K) → faults mid ≡ faults old → IsCauseOf held pieces faults why mid new → IsCauseOf held pieces faults why old new
  cause_behind stop.Fault old mid new same h = rw (← same) h
  cause_behind stop.Memory old mid new same h = h ∙ same

  front_more : (ls ms : List ReportLine) (old mid new : LiveReport K) → Wrote held pieces faults ls old mid → WroteFront held pieces faults ms mid new
      → WroteFront held pieces faults (ls ++ ms) old new
  front_more ls ms old mid new h k = record {
    front = front_behind ls ms (view old.sink) (view mid.sink) (view new.sink) h.written k.front;
    hex = k.hex ∙ h.hex;
    why = k.why;
    stopped = k.stopped;
    cause = cause_behind k.why old.sink mid.sink new.sink h.faults_stay k.cause;
  }

  -- what holds of the octets that are shown at first holds all along
  pub all_taken : (old new : LiveReport K) (did : List PhaseDid) → BySteps (Takes held pieces faults) old did new → Wrote held pieces faults (phases_lines old.hex did) old new
  all_taken old new [] h = subst (Wrote held pieces faults [] old) (sym h) (wrote_none old)
  all_taken old new (d ∷ did) h =
      let mid = h.0 in
      let rest = all_taken mid new did h.2 in
      wrote_more (did_lines old.hex d) (phases_lines old.hex did) old mid new h.1
      (subst (λ hex. Wrote held pieces faults (phases_lines hex did) mid new) h.1.hex rest)

  abbrev steps_of : SinkSteps (LiveReport K)
  steps_of = record { takes = Takes held pieces faults; fails = FailsAt held pieces faults }

  pub failed_at_last : (old new : LiveReport K) (did : List PhaseDid) → FailedAtLast steps_of old did new → FailsAtLast held pieces faults old did new
  failed_at_last old new did h = record {
    told = h.before;
    last = h.last;
    is = h.is;
    mid = h.mid;
    wrote = all_taken old h.mid h.before h.took;
    failed = h.failed;
  }

  front_taken : (old new : LiveReport K) (did : List PhaseDid) → FailsAtLast held pieces faults old did new → WroteFront held pieces faults (phases_lines old.hex did) old new
  front_taken old new did h =
      let last = subst (λ hex. WroteFront held pieces faults (did_lines hex h.last) h.mid new) h.wrote.hex h.failed.told in
      subst (λ ls. WroteFront held pieces faults ls old new) (sym (ap (phases_lines old.hex) h.is ∙ lines_of_last old.hex h.told h.last))
      (front_more (phases_lines old.hex h.told) (did_lines old.hex h.last) old h.mid new h.wrote last)

  pub all_told : (last : LastStep) (old new : LiveReport K) (did : List PhaseDid) → HasTaken steps_of last old did new → WroteTo held pieces faults last (phases_lines old.hex did) old new
  all_told L.Ended old new did h = all_taken old new did h
  all_told L.Unread old new did h = all_taken old new did h
  all_told L.Cut old new did h = all_taken old new did h
  all_told L.Untold old new did h = front_taken old new did (failed_at_last old new did h)

-- A life.

pub all_written : AllIsWritten
all_written hex n opened did end a b c d first phases last =
    written_more (opened_line n opened ∷ []) (phases_lines hex did ++ end_lines opened end) a b d first (written_more (phases_lines hex did) (end_lines opened end) b c d phases last)

pub opening_front : OpeningIsFront
opening_front hex n opened did end a b first = front_of_more (opened_line n opened ∷ []) (phases_lines hex did ++ end_lines opened end) a b first

pub phases_front : PhasesAreFront
phases_front hex n opened did end a b c first phases =
    front_behind (opened_line n opened ∷ []) (phases_lines hex did ++ end_lines opened end) a b c first (front_of_more (phases_lines hex did) (end_lines opened end) b c phases)

pub last_front : LastIsFront
last_front hex n opened did last a b c before front =
    subst (λ ls. WrittenFront (opened_line n opened ∷ ls) a c) (sym (lines_of_last hex did last))
    (front_behind (opened_line n opened ∷ phases_lines hex did) (did_lines hex last) a b c before front)

pub phases_alone_front : PhasesAloneAreFront
phases_alone_front hex n opened did end a b c first phases = phases_front hex n opened did end a b c first (front_whole (phases_lines hex did) b c phases)

pub end_behind_front : EndBehindIsFront
end_behind_front hex n opened did end a b c before last = front_behind (opened_line n opened ∷ phases_lines hex did) (end_lines opened end) a b c before last

pub end_front : EndIsFront
end_front hex n opened did end a b c d first phases last =
    front_behind (opened_line n opened ∷ []) (phases_lines hex did ++ end_lines opened end) a b d first (front_behind (phases_lines hex did) (end_lines opened end) b c d phases last)
