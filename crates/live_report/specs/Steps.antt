-- What a report did with the lines that it was to write.
use Rattle.std.specs.Prelude.{◌≡◌, ℕ, List, [], ◌∷◌, ◌++◌, Option, Some}
use Rattle.mesh_base.specs.Outside.{Rose}
use Rattle.mesh_node.specs.Told.{PhaseDid}
use Rattle.mesh_node.specs.declared.told.LastStep.{LastStep}
use Rattle.mesh_node.specs.declared.told.LastStep.TheVariants as L
use Rattle.mesh_types.specs.declared.report.ReportLine.{ReportLine}
use Rattle.report_writer.specs.Writing.{Written, WrittenFront, view_of}
use Rattle.report_writer.specs.declared.lives.WriteStop.{WriteStop}
use Rattle.report_writer.specs.declared.lives.WriteStop.TheVariants as stop
use Rattle.live_report.specs.Lines.{did_lines, phases_lines}
use Rattle.live_report.specs.declared.report.LiveReport.{LiveReport}

module _ {K : Type 0} (held : K → Option (List ℕ)) (pieces : K → Option (List (List ℕ))) (faults : K → ℕ) where
  -- They were written. No fault came, and nothing else of the report changed.
  pub record Wrote (lines : List ReportLine) (old new : LiveReport K) : Type 0 where
    pub written : Written lines (view_of held pieces old.sink) (view_of held pieces new.sink)
    pub faults_stay : faults new.sink ≡ faults old.sink
    pub hex : new.hex ≡ old.hex
    pub stopped : new.stopped ≡ old.stopped

  -- for want of memory no fault is counted
  abbrev pub IsCauseOf : WriteStop → K → K → Type 0
  IsCauseOf stop.Fault old new = Rose (faults old) (faults new)
  IsCauseOf stop.Memory old new = faults new ≡ faults old

  -- A front of them was written, and the report tells why not all.
  pub record WroteFront (lines : List ReportLine) (old new : LiveReport K) : Type 0 where
    pub front : WrittenFront lines (view_of held pieces old.sink) (view_of held pieces new.sink)
    pub hex : new.hex ≡ old.hex
    pub why : WriteStop
    pub stopped : new.stopped ≡ Some why
    pub cause : IsCauseOf why old.sink new.sink

  -- how a report takes a phase
  abbrev pub Takes : LiveReport K → PhaseDid → LiveReport K → Type 0
  Takes old did new = Wrote (did_lines old.hex did) old new

  -- how it fails at one: for want of memory nothing of it was written
  pub record FailsAt (old : LiveReport K) (did : PhaseDid) (new : LiveReport K) : Type 0 where
    pub told : WroteFront (did_lines old.hex did) old new
    pub nothing : new.stopped ≡ Some stop.Memory → new.sink ≡ old.sink

  -- It failed at the last phase that it was told of: the lines of all before it were written, and no phase came behind it.
  pub record FailsAtLast (old : LiveReport K) (did : List PhaseDid) (new : LiveReport K) : Type 0 where
    pub told : List PhaseDid
    pub last : PhaseDid
    pub is : did ≡ told ++ last ∷ []
    pub mid : LiveReport K
    pub wrote : Wrote (phases_lines old.hex told) old mid
    pub failed : FailsAt mid last new

  -- all of them, or a front where the life ended since its sink failed
  abbrev pub WroteTo : LastStep → List ReportLine → LiveReport K → LiveReport K → Type 0
  WroteTo L.Ended lines old new = Wrote lines old new
  WroteTo L.Unread lines old new = Wrote lines old new
  WroteTo L.Cut lines old new = Wrote lines old new
  WroteTo L.Untold lines old new = WroteFront lines old new
