use Rattle.std.proofs.Common.{◌≡◌, ◌+◌, [], ◌∷◌, ◌++◌, ◌∙◌, drop, ap, arith}
use Rattle.mesh_types.specs.Kind.{kind_of}
use Rattle.mesh_types.specs.declared.report.ReportLine.TheVariants as L
use Rattle.report_definitions.specs.Report.{entry_lines}
use Rattle.report_writer.proofs.Parts.{next_entry}
use Rattle.report_writer.proofs.Texts.{made_more}
use Rattle.report_writer.proofs.lives.push_entries.Goals as goal

pub loop-entry-preserved : goal.loop-entry-preserved
loop-entry-preserved c =
    let n = c.args.first + c.loop-entry.entry-index in
    let e = c.entry-item.result in
    let place = ap (λ m. m + 1) c.loop-entry.invariant.place in
    let more : n + 1 ≡ c.args.first + (c.loop-entry.entry-index + 1) = omega arith in
    let line = L.Entry (c.loop-entry.at + 1) e.bearer e.number (kind_of e.event) e.answer in
    let lines = next_entry n c.args.entries.now c.loop-entry.entry-index e line c.loop-entry-test.true c.entry-item.is
    (ap (λ m. L.Entry m e.bearer e.number (kind_of e.event) e.answer) place) in
    record {
      place = place ∙ more;
      texts = made_more _ _ (line ∷ []) _ _ _ _
          (lines ∙ ap (λ m. (line ∷ []) ++ entry_lines (m + 1) (drop (c.loop-entry.entry-index + 1) c.args.entries.now)) more)
          c.loop-entry.invariant.texts c.in_ok-push_entry.ensures.ok;
    }
