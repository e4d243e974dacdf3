use Rattle.std.proofs.Common.{inl, inr, refl, subst}
use Rattle.machine_contract.specs.Opening.{found_of}
use Rattle.machine_contract.specs.Refused.{IsStartCause}
use Rattle.mesh_node.specs.Given.{Stood}
use Rattle.report_writer.specs.Writing.{view_of}
use Rattle.live_node.specs.Lived.{streams_at}
use Rattle.live_node.proofs.Opening.{never_reset, nothing_asked, reset_over, same_streams}
use Rattle.live_node.proofs.running.run_machine.Goals as goal

pub returns-clause-ended : goal.returns-clause-ended
returns-clause-ended g c =
    let chip = g.F.Flash.chip in
    let cause = subst (IsStartCause g.M.Machine.image (chip c.args.over.flash) (chip c.start.new.flash)) c.in-Err-Memory.field-0-is c.in-Err-Memory.ensures.cause in
    rw c.unopened-in-Err-Memory.ensures.value
    (inl (refl, record { wrote = inl refl; unread = refl; kept = c.start.ensures.frame; no_fault = cause.2; untouched = inr cause.1; writes = c.start.ensures.writes; reset = never_reset (chip c.args.over.flash) c.one_list_is_recovered.ensures.one_list cause.0.over cause.0.read cause.0.runs }, refl))

pub returns-in-Err-WasReset-clause-ended : goal.returns-in-Err-WasReset-clause-ended
returns-in-Err-WasReset-clause-ended g c =
    let chip = g.F.Flash.chip in
    let over = c.args.over in
    let flash = c.start.new.flash in
    let told = c.tell_reset.result in
    let at = streams_at g.S.Source.left g.S.Source.faults g.S.ClockedSource.time g.E.Sink.held g.E.Sink.pieces g.E.Sink.faults in
    let view = view_of g.K.Sink.held g.K.Sink.pieces in
    let cause = subst (IsStartCause g.M.Machine.image (chip over.flash) (chip flash)) c.in-Err-WasReset.field-0-is c.in-Err-WasReset.ensures.cause in
    let rest = c.tell_reset.ensures.rest in
    let streams = c.tell_reset.ensures.streams in
    rw rest.1 (rw rest.0
    (reset_over g.M.Machine.role g.M.Machine.image over.hex over.bearers g.S.ClockedSource.clocked (chip over.flash) (chip flash) (at over.streams) (at told.streams) (view over.streams.sink) (view told.streams.sink)
    (Stood g.M.Machine.view (g.M.Machine.stands (found_of (chip over.flash))) chip flash) cause.0 c.start.ensures.frame cause.2 cause.1 (c.start.ensures.reset cause.0) c.start.ensures.writes
    (same_streams g.S.Source.left g.S.Source.faults g.S.ClockedSource.time g.E.Sink.held g.E.Sink.pieces g.E.Sink.faults over.streams told.streams streams.0 streams.1)
    told.status (g.K.Sink.faults over.streams.sink) (g.K.Sink.faults told.streams.sink) c.tell_reset.ensures.told))

-- memory ran out before the flash was asked for anything
pub returns-in_default-clause-ended : goal.returns-in_default-clause-ended
returns-in_default-clause-ended g c = rw c.unopened.ensures.value (inl (refl, nothing_asked _ _ _ _, refl))
