use Rattle.std.proofs.Common.{◌≡◌}
use Rattle.life_plans.specs.Plans.{script_of}
use Rattle.report_writer.specs.Writing.{view_of}
use Rattle.mesh_run.specs.Kind.{kind_of}
use Rattle.mesh_run.proofs.Progress.{Progress}
use Rattle.mesh_run.proofs.lives.live_all.Given as goal

abbrev pub invariant-loop-i : goal.invariant-loop-i
invariant-loop-i g l = record {
  progress : Progress g.B.Flash.chip (kind_of g.M.Machine.view g.M.Machine.stands g.M.Machine.role g.M.Machine.image) (script_of (g.S.LifeSource.script l.script)) (g.L.LifeSink.told l.fn.lives l.lives) l.fn.flash (view_of g.K.Sink.held g.K.Sink.pieces l.fn.sink) l.i l.flash (view_of g.K.Sink.held g.K.Sink.pieces l.sink);
  no_fault : g.K.Sink.faults l.sink ≡ g.K.Sink.faults l.fn.sink;
}
