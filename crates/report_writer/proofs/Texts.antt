-- The texts of lines, made one after another behind others.
use Rattle.std.proofs.Common.{◌≡◌, ℕ, Bool, List, [], ◌∷◌, ◌++◌, map, sym, ap, ◌∙◌, append_assoc, append-nil}
use Rattle.std.proofs.lemmas.List.{map-append}
use Rattle.mesh_types.specs.declared.history.Entry.{Entry}
use Rattle.mesh_types.specs.declared.history.Sent.{Sent}
use Rattle.mesh_types.specs.declared.report.ReportLine.{ReportLine}
use Rattle.report_definitions.specs.Record.{Life}
use Rattle.report_definitions.specs.Report.{end_lines, entry_lines, life_lines, line_text, opened_line, send_lines}

-- the texts of these lines were made, but for those that are left
abbrev pub MadeUpTo : List ReportLine → List ReportLine → List (List ℕ) → List (List ℕ) → Type 0
MadeUpTo lines left old new = new ++ map line_text left ≡ old ++ map line_text lines

pub made_more : (lines left part rest : List ReportLine) (old mid new : List (List ℕ))
    → left ≡ part ++ rest → MadeUpTo lines left old mid → new ≡ mid ++ map line_text part → MadeUpTo lines rest old new
made_more lines left part rest old mid new s h k =
    rw (k, append_assoc mid (map line_text part) (map line_text rest), ← map-append line_text part rest, ← s) h

pub made_whole : (lines left : List ReportLine) (old new : List (List ℕ)) → left ≡ [] → MadeUpTo lines left old new → new ≡ old ++ map line_text lines
made_whole lines left old new none h = sym (append-nil new) ∙ ap (λ (ls : List ReportLine). new ++ map line_text ls) (sym none) ∙ h

-- the opening, then the entries, the lines of the bearers, and the end
pub life_made : (hex : Bool) (n : ℕ) (l : Life) (first : ReportLine) (es : List Entry) (ss : List (List Sent)) (start a b c d : List (List ℕ))
    → first ≡ opened_line n l.opened → es ≡ l.entries → ss ≡ l.sends
    → start ≡ [] → a ≡ start ++ line_text first ∷ [] → b ≡ a ++ map line_text (entry_lines 1 es) → c ≡ b ++ map line_text (send_lines hex 0 ss)
    → d ≡ c ++ map line_text (end_lines l.opened l.end)
    → d ≡ map line_text (life_lines hex n l)
unfolding life_lines
life_made hex n l first es ss start a b c d is are same none opened entries sends end =
    let es_lines = entry_lines 1 l.entries in
    let ss_lines = send_lines hex 0 l.sends in
    let end_line = end_lines l.opened l.end in
    rw (end, sends, entries, opened, none, is, are, same) (ap (λ (t : List (List ℕ)). line_text (opened_line n l.opened) ∷ t)
    (sym (map-append line_text (es_lines ++ ss_lines) end_line ∙ ap (λ (t : List (List ℕ)). t ++ map line_text end_line) (map-append line_text es_lines ss_lines))))
