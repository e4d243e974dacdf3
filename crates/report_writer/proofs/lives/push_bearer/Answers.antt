use Rattle.std.proofs.Common.{◌+◌, [], ◌∷◌, refl}
use Rattle.mesh_types.specs.declared.report.ReportLine.TheVariants as L
use Rattle.report_writer.proofs.Parts.{next_sent}
use Rattle.report_writer.proofs.Texts.{made_more}
use Rattle.report_writer.proofs.lives.push_bearer.Goals as goal

pub loop-sent-preserved : goal.loop-sent-preserved
loop-sent-preserved c =
    let s = c.sent-item.result in
    let line = L.Sent c.args.bearer (s.entry + 1) (s.job + 1) s.outcome c.args.hex in
    made_more _ _ (line ∷ []) _ _ _ _
    (next_sent c.args.hex c.args.bearer c.args.sends.now c.loop-sent.sent-index s line c.loop-sent-test.true c.sent-item.is refl)
    c.loop-sent.invariant c.in_ok-push_sent.ensures.ok
