-- The lines that stand whole in a text that is broken off.
use Rattle.std.proofs.Common.{◌≡◌, ◌∙◌, ◌⊎◌, ℕ, ◌+◌, ◌<◌, ◌≤◌, List, [], ◌∷◌, ◌++◌, length, inl, inr, refl, sym, ap, arith, append_assoc, length-append}
use Rattle.std.specs.List.{flat_map}
use Rattle.std.proofs.lemmas.Bool.{cases_lt}
use Rattle.mesh_types.specs.declared.report.ReportLine.{ReportLine}
use Rattle.report_definitions.specs.Report.{line_text}
use Rattle.process_laws.specs.Outputs.{BrokenOff}

-- of two fronts of one list the shorter one is a front of the longer one
split : {A : Type 0} (xs ys us vs : List A) → xs ++ ys ≡ us ++ vs → length us ≤ length xs → (more : List A) × (xs ≡ us ++ more) × (vs ≡ more ++ ys)
split xs ys [] vs e h = (xs, refl, sym e)
split [] ys (u ∷ us) vs e h = absurd (omega arith)
split (x ∷ xs) ys (u ∷ us) vs e h =
    let head : x ≡ u = cc in
    let tail : xs ++ ys ≡ us ++ vs = cc in
    let s = split xs ys us vs tail (omega arith) in
    (s.0, rw (head) (ap (λ l. u ∷ l) s.1), s.2)

pub broken_off : (lines : List ReportLine) (text rest : List ℕ) → flat_map line_text lines ≡ text ++ rest → BrokenOff lines text
broken_off [] [] rest e = record { whole = []; rest = []; are = refl; piece = []; is = refl; broken = refl }
broken_off [] (x ∷ text) rest e = absurd cc
broken_off (line ∷ lines) text rest e = by_length (cases_lt (length text) (length (line_text line))) (broken_off lines)
  where
    by_length : (length text < length (line_text line)) ⊎ (length (line_text line) ≤ length text)
        → ((t r : List ℕ) → flat_map line_text lines ≡ t ++ r → BrokenOff lines t) → BrokenOff (line ∷ lines) text
    by_length (inl less) next =
        let s = split (line_text line) (flat_map line_text lines) text rest e (omega (arith, less)) in
        let long : length (line_text line) ≡ length text + length s.0 = ap length s.1 ∙ length-append text s.0 in
        record { whole = []; rest = line ∷ lines; are = refl; piece = text; is = refl; broken = (s.0, s.1, omega (arith, less, long)) }
    by_length (inr far) next =
        let s = split text rest (line_text line) (flat_map line_text lines) (sym e) far in
        let more = next s.0 rest s.2 in
        record {
          whole = line ∷ more.whole;
          rest = more.rest;
          are = ap (λ l. line ∷ l) more.are;
          piece = more.piece;
          is = s.1 ∙ ap (λ t. line_text line ++ t) more.is ∙ sym (append_assoc (line_text line) (flat_map line_text more.whole) more.piece);
          broken = more.broken;
        }
