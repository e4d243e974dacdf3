-- How a life ends behind its last step.
use Rattle.std.specs.Prelude.{◌≡◌, ℕ, [], ◌∷◌, Option, Some, None}
use Rattle.mesh_base.specs.Outside.{Rose}
use Rattle.mesh_node.specs.declared.told.LastStep.{LastStep}
use Rattle.mesh_node.specs.declared.told.LastStep.TheVariants as L
use Rattle.mesh_types.specs.declared.report.End.TheVariants as E
use Rattle.mesh_types.specs.declared.report.Opened.{Opened}
use Rattle.mesh_types.specs.declared.report.Opened.TheVariants as W
use Rattle.report_definitions.specs.Report.{end_lines, opened_line}
use Rattle.report_writer.specs.Writing.{SinkView, Written, WrittenFront}
use Rattle.report_writer.specs.declared.lives.WriteStop.{WriteStop}
use Rattle.live_lines.specs.declared.lines.LineStop.{LineStop}
use Rattle.live_node.specs.Status.{line_status, stop_status}
use Rattle.live_node.specs.declared.status.Status.{Status}
use Rattle.live_node.specs.declared.status.Status.TheVariants as S

-- the last line was written, or a front of it, and for want of memory nothing; these are the faults of the sink before and after
abbrev pub IsEndTold : Opened → Status → SinkView → ℕ → SinkView → ℕ → Type 0
IsEndTold opened S.Done old before new after = Written (end_lines opened E.Ended) old new × (after ≡ before)
IsEndTold opened S.WriteFault old before new after = WrittenFront (end_lines opened E.Ended) old new × Rose before after
IsEndTold opened S.Memory old before new after = (new ≡ old) × (after ≡ before)
IsEndTold opened _ old before new after = ⊥

-- why a life was given up
abbrev pub status_behind : LastStep → Option LineStop → Option WriteStop → Status
status_behind L.Ended why stopped = S.Done
status_behind L.Cut why stopped = S.Cut
status_behind L.Unread None stopped = S.Memory
status_behind L.Unread (Some why) stopped = line_status why
status_behind L.Untold why None = S.Memory
status_behind L.Untold why (Some stop) = stop_status stop

-- that there was a Node Reset was told, or a front of that
abbrev pub IsResetTold : Status → SinkView → ℕ → SinkView → ℕ → Type 0
IsResetTold S.WasReset old before new after = Written (opened_line 1 W.WasReset ∷ []) old new × (after ≡ before)
IsResetTold S.WriteFault old before new after = WrittenFront (opened_line 1 W.WasReset ∷ []) old new × Rose before after
IsResetTold S.Memory old before new after = (new ≡ old) × (after ≡ before)
IsResetTold _ old before new after = ⊥
