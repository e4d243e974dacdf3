-- The room that the line of a verdict takes.
use Rattle.std.proofs.Common.{ℕ, ◌<◌, ◌≤◌, ◌^◌, List, [], ◌∷◌, ◌++◌, length, codes, decimal, arith}
use Rattle.std.proofs.lemmas.List.{length-append}
use Rattle.std.proofs.lemmas.Fmt.{length-decimal-le}
use Rattle.audit_definitions.specs.Verdicts.{verdict_text}
use Rattle.audit_definitions.specs.declared.verdict.Verdict.{Verdict}
use Rattle.audit_definitions.specs.declared.verdict.Verdict.TheVariants as V
use Rattle.meshnode_c.specs.Numbers.{HasNumbers}

digits : (n : ℕ) → n < 2 ^ 32 → length (decimal n) ≤ 10
digits n small = length-decimal-le 10 n (omega arith) (omega arith) (omega arith)

one_room : (word : List ℕ) (n : ℕ) → length word ≤ 6 → n < 2 ^ 32 → length (word ++ decimal n ++ 10 ∷ []) ≤ 28
one_room word n short small =
    omega (arith, length-append (word ++ decimal n) (10 ∷ []), length-append word (decimal n), digits n small)

two_room : (word : List ℕ) (a b : ℕ) → length word ≤ 6 → a < 2 ^ 32 → b < 2 ^ 32
    → length (word ++ decimal a ++ codes " " ++ decimal b ++ 10 ∷ []) ≤ 28
two_room word a b short first second = omega (
  arith,
  length-append (word ++ decimal a ++ codes " " ++ decimal b) (10 ∷ []),
  length-append (word ++ decimal a ++ codes " ") (decimal b),
  length-append (word ++ decimal a) (codes " "),
  length-append word (decimal a),
  digits a first,
  digits b second,
)

pub verdict_room : (v : Verdict) → HasNumbers v → length (verdict_text v) ≤ 28
verdict_room (V.Sound n) small = one_room (codes "sound ") n (omega arith) small
verdict_room (V.Reuse a b) small = two_room (codes "reuse ") a b (omega arith) small.0 small.1
verdict_room (V.Twice a b) small = two_room (codes "twice ") a b (omega arith) small.0 small.1
verdict_room (V.Bad n) small = one_room (codes "bad ") n (omega arith) small
