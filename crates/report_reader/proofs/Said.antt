-- A text and the line that its fields say.
use Rattle.std.proofs.Common.{◌≡◌, ℕ, true, false, List, Some, None, sym, ap, ◌∙◌}
use Rattle.std.proofs.lemmas.Slice.Eq.{bytes_eq-Decides}
use Rattle.std.specs.Str.{bytes_eq}
use Rattle.mesh_types.specs.declared.report.ReportLine.{ReportLine}
use Rattle.report_definitions.specs.Report.{line_text}
use Rattle.report_reader.specs.Forms.{fields_of}
use Rattle.report_reader.specs.Lines.{line_of}
use Rattle.report_reader.specs.ReportLine.{IsTold, IsReportLine, IsNoReportLine}
use Rattle.report_reader.proofs.LinesBack.{text_back}

-- the line that the fields say has this text
pub this_line : (octets : List ℕ) (l : ReportLine) → IsTold l → bytes_eq (line_text l) octets ≡ true → IsReportLine octets l
this_line octets l h e = record { told = h; text = (bytes_eq-Decides (line_text l) octets).0 e }

-- it has another text
pub other_line : (octets : List ℕ) (ws : List (List ℕ)) (l : ReportLine) → ws ≡ fields_of octets → line_of ws ≡ Some l
    → bytes_eq (line_text l) octets ≡ false → IsNoReportLine octets
other_line octets ws l w e differs m h =
    let same : Some l ≡ Some m = sym e ∙ ap line_of w ∙ text_back octets m h in
    let line : l ≡ m = cc in
    let yes : bytes_eq (line_text l) octets ≡ true = (bytes_eq-Decides (line_text l) octets).1 (ap line_text line ∙ h.text) in
    let clash : true ≡ false = sym yes ∙ differs in
    cc

-- the fields say no line
pub no_line : (octets : List ℕ) (ws : List (List ℕ)) → ws ≡ fields_of octets → line_of ws ≡ None → IsNoReportLine octets
no_line octets ws w e m h =
    let clash : None ≡ Some m = sym e ∙ ap line_of w ∙ text_back octets m h in
    cc
