-- The room that the first line of a life takes.
use Rattle.std.proofs.Common.{◌≡◌, ℕ, zero, suc, ◌≤◌, ◌^◌, ◌%◌, ◌==◌, if◌then◌else◌, Bool, true, false, [], ◌∷◌, ◌++◌, length, codes, decimal, refl, ap, arith}
use Rattle.std.proofs.lemmas.List.{length-append}
use Rattle.std.proofs.lemmas.Fmt.{length-decimal-le}
use Rattle.mesh_base.specs.IvState.{transmit_of}
use Rattle.mesh_base.specs.declared.iv_state.IvState.{IvState}
use Rattle.mesh_types.specs.declared.report.ReportLine.TheVariants as L
use Rattle.report_definitions.specs.Report.{line_text, next_text, state_text, words_text}
use Rattle.report_definitions.specs.Text.{hex_digits, iv_text}

has_digits : (k n : ℕ) → length (hex_digits k n) ≡ k
unfolding hex_digits
has_digits zero n = refl
has_digits (suc k) n = ap suc (has_digits k n)

letter_room : (b : Bool) → length (if b then codes " p" else codes " n") ≤ 2
letter_room true = omega arith
letter_room false = omega arith

mark_room : (b : Bool) (m : ℕ) → length (if b then hex_digits 7 m else hex_digits 6 m) ≤ 7
mark_room true m = omega (arith, has_digits 7 m)
mark_room false m = omega (arith, has_digits 6 m)

iv_room : (iv : ℕ) → length (iv_text iv) ≤ 9
iv_room iv = omega (arith, length-append (codes " ") (hex_digits 8 iv), has_digits 8 iv)

state_room : (s : IvState) → length (state_text s) ≤ 20
state_room s =
    let letter = if s.progress then codes " p" else codes " n" in
    omega (
      arith,
      length-append (hex_digits 8 s.current ++ letter) (iv_text (transmit_of s)),
      length-append (hex_digits 8 s.current) letter,
      has_digits 8 s.current,
      iv_room (transmit_of s),
      letter_room s.progress,
    )

next_room : (mark : ℕ) → length (next_text mark) ≤ 8
next_room mark =
    let full = mark % 2 ^ 25 == 2 ^ 24 in
    let m = mark % 2 ^ 25 in
    omega (
      arith,
      length-append (codes " ") (if full then hex_digits 7 m else hex_digits 6 m),
      mark_room full m,
    )

pub opened_room : (s : IvState) (mark : ℕ) → length (line_text (L.Opened 1 s mark)) ≤ 35
unfolding words_text
opened_room s mark =
    omega (
      arith,
      length-append (decimal 1 ++ state_text s ++ next_text mark) (10 ∷ []),
      length-append (decimal 1 ++ state_text s) (next_text mark),
      length-append (decimal 1) (state_text s),
      length-decimal-le 1 1 (omega arith) (omega arith) (omega arith),
      state_room s,
      next_room mark,
    )
