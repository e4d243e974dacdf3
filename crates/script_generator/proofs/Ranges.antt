-- A generated script is a script.
use Rattle.std.proofs.Common.{◌≡◌, ℕ, zero, suc, ◌+◌, ◌-◌, ◌*◌, ◌/◌, ◌^◌, ◌==◌, ◌<◌, ◌≤◌, Bool, true, false, map, refl, arith, lit<, ap, ◌∙◌}
use Rattle.std.specs.Prelude.{All, count_by, min, if◌then◌else◌}
use Rattle.std.specs.List.{range_with_len}
use Rattle.std.proofs.lemmas.List.FromFn.{length-map-range_with_len}
use Rattle.std.proofs.lemmas.List.Elements.{All-cons, All-nil}
use Rattle.std.proofs.lemmas.List.Sums.{count_by-le-length, sum_by-cons}
use Rattle.script_definitions.specs.Ranges.{IsLife, IsLine, IsScriptOf}
use Rattle.script_definitions.specs.Reading.{is_arm, is_bearer_line}
use Rattle.script_definitions.specs.declared.kind.Grammar.TheVariants as G
use Rattle.script_generator.specs.Generated.{generated, kind_of, life_at, line_at, line_of, number_at, peer_line, raw_line}

number_fits : (start i : ℕ) → start < 2 ^ 32 → number_at start i < 2 ^ 32
number_fits start zero fits = fits
number_fits start (suc i) fits = omega arith

raw_is : (x : ℕ) → x < 2 ^ 32 → IsLine G.Node 1 (raw_line x)
raw_is x fits = ((omega (arith, fits), refl), (omega arith, omega arith, omega arith, omega arith))

peer_is : (seq x ttl dst : ℕ) → x < 2 ^ 32 → seq < 2 ^ 24 → ttl < 2 ^ 7 → IsLine G.Node 1 (peer_line seq x ttl dst)
peer_is seq x ttl dst fits few short = ((omega (arith, fits), refl), record { ttl = short; seq = few; least = omega arith; most = omega arith })

line_is : (i x : ℕ) → x < 2 ^ 32 → i < 2 ^ 24 → IsLine G.Node 1 (line_of i x)
unfolding line_of
line_is i x fits few = by_kind (kind_of x == 2) (kind_of x == 3)
  where
    by_kind : (a b : Bool) → IsLine G.Node 1 (if a then peer_line i x 0 0x1201 else if b then peer_line i x 2 0x0009 else raw_line x)
    by_kind true b = peer_is i x 0 0x1201 fits few (lit< tt)
    by_kind false true = peer_is i x 2 0x0009 fits few (lit< tt)
    by_kind false false = raw_is x fits

no_arm : (i x : ℕ) → is_arm (line_of i x) ≡ false
unfolding line_of
no_arm i x = by_kind (kind_of x == 2) (kind_of x == 3)
  where
    by_kind : (a b : Bool) → is_arm (if a then peer_line i x 0 0x1201 else if b then peer_line i x 2 0x0009 else raw_line x) ≡ false
    by_kind true b = refl
    by_kind false true = refl
    by_kind false false = refl

module _ (start : ℕ) (fits : start < 2 ^ 32) where
  lines_are : (first n : ℕ) → first + n ≤ 2 ^ 24 → All (IsLine G.Node 1) (map (line_at start) (range_with_len first n))
  lines_are first zero few = All-nil (IsLine G.Node 1)
  lines_are first (suc n) few = All-cons (IsLine G.Node 1) (line_at start first) (map (line_at start) (range_with_len (first + 1) n)) (line_is first (number_at start first) (number_fits start first fits) (omega (arith, few))) (lines_are (first + 1) n (omega (arith, few)))

  no_arms : (first n : ℕ) → count_by is_arm (map (line_at start) (range_with_len first n)) ≡ 0
  no_arms first zero = refl
  no_arms first (suc n) =
      let rest = map (line_at start) (range_with_len (first + 1) n) in
      sum_by-cons (λ l. if is_arm l then 1 else 0) (line_at start first) rest
      ∙ ap (λ b. (if b then 1 else 0) + count_by is_arm rest) (no_arm first (number_at start first))
      ∙ (let none : 0 + count_by is_arm rest ≡ 0 = omega (arith, no_arms (first + 1) n) in none)

  life_is : (count k : ℕ) → count ≤ 32768 → 4096 * k ≤ count → IsLife G.Node 1 (life_at count start k)
  life_is count k few within =
      let n = min 4096 (count - 4096 * k) in
      let short : n ≤ 4096 = omega arith in
      record {
        lines = lines_are (4096 * k + 1) n (omega (arith, few, within, short));
        events = omega (arith, short, count_by-le-length is_bearer_line (life_at count start k), length-map-range_with_len (line_at start) (4096 * k + 1) n);
        arms = omega (arith, no_arms (4096 * k + 1) n);
      }

  lives_are : (count k n : ℕ) → count ≤ 32768 → 4096 * (k + n) ≤ count + 4095 → All (IsLife G.Node 1) (map (life_at count start) (range_with_len k n))
  lives_are count k zero few within = All-nil (IsLife G.Node 1)
  lives_are count k (suc n) few within = All-cons (IsLife G.Node 1) (life_at count start k) (map (life_at count start) (range_with_len (k + 1) n)) (life_is count k few (omega (arith, within))) (lives_are count (k + 1) n few (omega (arith, within)))

  pub generated_is : (count : ℕ) → count ≤ 32768 → IsScriptOf G.Node (generated count start)
  generated_is count few = record {
    provision = record { elements = refl; flags = lit< tt; iv = refl; net_index = lit< tt };
    lives = lives_are count 0 ((count + 4095) / 4096) few (omega (arith, few));
    count = omega (arith, few, length-map-range_with_len (life_at count start) 0 ((count + 4095) / 4096));
  }
