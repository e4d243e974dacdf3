-- A text says one list of keys and one list of report lines.
use Rattle.std.proofs.Common.{◌≡◌, ℕ, zero, suc, ◌+◌, List, [], ◌∷◌, ◌++◌, length, drop, Option, Some, refl, sym, ap, ◌∙◌, arith, codes, slice_index, length-append}
use Rattle.layer_definitions.proofs.OctetLaws.{append_fronts}
use Rattle.mesh_types.specs.declared.report.ReportLine.{ReportLine}
use Rattle.mesh_types.specs.declared.report.ReportLine.TheVariants as L
use Rattle.report_definitions.specs.Report.{line_text, words_text}
use Rattle.report_reader.specs.ReportLine.{IsReportLine}
use Rattle.report_reader.proofs.LinesBack.{one_line}
use Rattle.script_definitions.specs.Forms.{net_word}
use Rattle.script_definitions.specs.declared.line.ScriptNet.{ScriptNet}
use Rattle.audit_definitions.specs.Input.{IsKeyLine, AreReportLines, AreLines}

-- no report line begins as a line of a key
first_octet : (l : ReportLine) → slice_index (line_text l) 0 ≡ 107 → ⊥
unfolding words_text
first_octet (L.Opened life state mark) h = omega arith
first_octet (L.WasReset life) h = omega arith
first_octet (L.CutAtStart life) h = omega arith
first_octet (L.Entry at bearer number kind answer) h = omega arith
first_octet (L.Sent bearer entry job outcome hex) h = omega arith
first_octet L.End h = omega arith
first_octet (L.Cut calls) h = omega arith

pub not_with_k : (t : List ℕ) (l : ReportLine) → slice_index t 0 ≡ 107 → IsReportLine t l → ⊥
not_with_k t l k h = first_octet l (ap (λ x. slice_index x 0) h.text ∙ k)

pub not_key : (t : List ℕ) (n : ScriptNet) (l : ReportLine) → IsKeyLine t n → IsReportLine t l → ⊥
not_key t n l k h = not_with_k t l (ap (λ x. slice_index x 0) k.text) h

-- a line has one key
same_word : (w v : List ℕ) → codes "key " ++ w ++ 10 ∷ [] ≡ codes "key " ++ v ++ 10 ∷ [] → w ≡ v
same_word w v e =
    let tails : w ++ 10 ∷ [] ≡ v ++ 10 ∷ [] = ap (drop 4) e in
    let long : length w ≡ length v = omega (arith, ap length tails, length-append w (10 ∷ []), length-append v (10 ∷ [])) in
    append_fronts w (10 ∷ []) v (10 ∷ []) long tails

pub one_key : (t : List ℕ) (n m : ScriptNet) → IsKeyLine t n → IsKeyLine t m → n ≡ m
one_key t n m h k =
    let word : h.word ≡ k.word = same_word h.word k.word (sym h.text ∙ k.text) in
    let e : Some n ≡ Some m = sym h.means ∙ ap net_word word ∙ k.means in
    cc

pub one_report : (ts : List (List ℕ)) (ls ms : List ReportLine) → AreReportLines ts ls → AreReportLines ts ms → ls ≡ ms
one_report [] [] [] h k = refl
one_report [] [] (m ∷ ms) h k = absurd k
one_report [] (l ∷ ls) ms h k = absurd h
one_report (t ∷ ts) [] ms h k = absurd h
one_report (t ∷ ts) (l ∷ ls) [] h k = absurd k
one_report (t ∷ ts) (l ∷ ls) (m ∷ ms) h k =
    let one : l ≡ m = one_line t l m h.0 k.0 in
    let more : ls ≡ ms = one_report ts ls ms h.1 k.1 in
    cc

-- lines of a report aren't lines of keys first
pub not_both : (room : ℕ) (ts : List (List ℕ)) (n : ScriptNet) (ns : List ScriptNet) (ls ms : List ReportLine)
    → AreReportLines ts ls → AreLines room ts (n ∷ ns) ms → ⊥
not_both zero ts n ns ls ms h k = k
not_both (suc room) [] n ns ls ms h k = k
not_both (suc room) (t ∷ ts) n ns [] ms h k = h
not_both (suc room) (t ∷ ts) n ns (l ∷ ls) ms h k = not_key t n l k.0 h.0

pub one_reading : (room : ℕ) (ts : List (List ℕ)) (ns : List ScriptNet) (ls : List ReportLine) (ms : List ScriptNet) (ks : List ReportLine)
    → AreLines room ts ns ls → AreLines room ts ms ks → (ns ≡ ms) × (ls ≡ ks)
one_reading room ts [] ls [] ks h k = (refl, one_report ts ls ks h k)
one_reading room ts [] ls (m ∷ ms) ks h k = absurd (not_both room ts m ms ls ks h k)
one_reading room ts (n ∷ ns) ls [] ks h k = absurd (not_both room ts n ns ks ls k h)
one_reading zero ts (n ∷ ns) ls (m ∷ ms) ks h k = absurd h
one_reading (suc room) [] (n ∷ ns) ls (m ∷ ms) ks h k = absurd h
one_reading (suc room) (t ∷ ts) (n ∷ ns) ls (m ∷ ms) ks h k =
    let one : n ≡ m = one_key t n m h.0 k.0 in
    let more = one_reading room ts ns ls ms ks h.1 k.1 in
    let keys : ns ≡ ms = more.0 in
    (cc, more.1)
