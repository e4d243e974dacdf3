-- Numbers are drawn one after another, up to a number below the mark.
use Rattle.std.proofs.Common.{◌≡◌, zero, suc, ℕ, max, ◌+◌, ◌*◌, ◌/◌, ◌%◌, ◌^◌, ◌<◌, ◌≤◌, Bool, true, false, ltb, refl, sym, subst, arith, List, [], ◌∷◌}
use Rattle.std.specs.List.{AllByRecursion, Contains}
use Rattle.std.proofs.lemmas.List.Elements.{Contains-append_left, Contains-push}
use Rattle.std.proofs.lemmas.Bool.Decides.{nat_tests}
use Rattle.mesh_base.proofs.Pairs.{pairs_equal}
use Rattle.mesh_base.specs.Pairs.{pair_of, word_of}
use Rattle.mesh_base.specs.declared.pair.Pair.{Pair}
use Rattle.mesh_world.specs.World.{AreAllowed, World, WorldStep, after, after_all}
use Rattle.mesh_world.specs.World.WorldStep.{Advance, Draw}
use Rattle.run_world.specs.Steps.{IsOn}

is_below : (a b : ℕ) → ltb a b ≡ true → a < b
is_below a b h = grind (arith, nat_tests, h)

isnt_below : (a b : ℕ) → ltb a b ≡ false → b ≤ a
isnt_below a b h = grind (arith, nat_tests, h)

-- What drawing leaves as it was.
pub record Same (w v : World) : Type 0 where
  pub seals : v.seals ≡ w.seals
  pub mark : v.mark ≡ w.mark
  pub kept : v.kept ≡ w.kept
  pub current : v.current ≡ w.current
  pub entry : v.entry ≡ w.entry
  pub delivered : v.delivered ≡ w.delivered

-- the numbers from one up to another are drawn
pub record Draws (w : World) (from to : ℕ) : Type 0 where
  pub steps : List WorldStep
  pub allowed : AreAllowed w steps
  pub on : AllByRecursion IsOn steps
  pub same : Same w (after_all w steps)
  pub keeps : (p : Pair) → Contains w.held p → Contains (after_all w steps).held p
  pub drawn : (n : ℕ) → from ≤ n → n < to → n % 2 ^ 25 < 2 ^ 24 → Contains (after_all w steps).held (pair_of n)

-- the next number is this one, if it is a pair's
pub record Ready (w : World) (n : ℕ) : Type 0 where
  pub below : w.next ≤ n
  pub here : n % 2 ^ 25 < 2 ^ 24 → n ≤ max w.next (n / 2 ^ 25 * 2 ^ 25)

iv_in_width : (n : ℕ) → n < 2 ^ 57 → n / 2 ^ 25 < 2 ^ 32
iv_in_width n h = omega arith

next_is : (next n : ℕ) → next ≤ n → n ≤ max next (n / 2 ^ 25 * 2 ^ 25) → max next (n / 2 ^ 25 * 2 ^ 25) ≡ n
next_is next n h k = omega arith

iv_below : (n mark : ℕ) → n < mark → n / 2 ^ 25 * 2 ^ 25 ≤ mark
iv_below n mark h = omega arith

past_gap : (next n : ℕ) → (n % 2 ^ 25 < 2 ^ 24 → ⊥) → (n + 1) % 2 ^ 25 < 2 ^ 24 → n + 1 ≤ max next ((n + 1) / 2 ^ 25 * 2 ^ 25)
past_gap next n h k = omega arith

-- how drawing goes on behind a number
abbrev More : ℕ → ℕ → Type 0
More k n = (v : World) → Ready v (n + 1) → n + 1 + k ≤ v.mark → Draws v (n + 1) (n + 1 + k)

-- this one or a later one
by_first : (P : ℕ → Type 0) (n to : ℕ) → P n → ((m : ℕ) → n + 1 ≤ m → m < to → P m) → (m : ℕ) → n ≤ m → m < to → P m
by_first P n to here later m from up = test (ltb n m) refl
  where
    test : (b : Bool) → ltb n m ≡ b → P m
    test true e = later m (omega (arith, is_below n m e)) up
    test false e = subst P (omega (arith, from, isnt_below n m e)) here

-- a pair's number is drawn
draw_here : (k n : ℕ) (w : World) → n % 2 ^ 25 < 2 ^ 24 → Ready w n → n + suc k ≤ w.mark → n + suc k ≤ 2 ^ 57 → More k n → Draws w n (n + suc k)
draw_here k n w is_pair ready below width more =
    let iv : ℕ = n / 2 ^ 25 in
    let v : World = after (after w (Advance iv)) Draw in
    let next : max w.next (iv * 2 ^ 25) ≡ n = next_is w.next n ready.below (ready.here is_pair) in
    let rest : Draws v (n + 1) (n + 1 + k) = more v (record { below = omega (arith, next); here = λ p. omega (arith, next) }) (omega arith) in
    let here : Contains v.held (pair_of n) =
    subst (λ m. Contains v.held (pair_of m)) next (Contains-push w.held (pair_of (max w.next (iv * 2 ^ 25)))) in
    record {
      steps = Advance iv ∷ Draw ∷ rest.steps;
      allowed = (
        iv_below n w.mark (omega arith),
        ((omega (arith, next), subst (λ m. (m / 2 ^ 25 < 2 ^ 32) × (m % 2 ^ 25 < 2 ^ 24)) (sym next) (iv_in_width n (omega arith), is_pair)), rest.allowed),
      );
      on = (tt, (tt, rest.on));
      same = record { seals = rest.same.seals; mark = rest.same.mark; kept = rest.same.kept; current = rest.same.current; entry = rest.same.entry; delivered = rest.same.delivered };
      keeps = λ p c. rest.keeps p (Contains-append_left w.held (pair_of (max w.next (iv * 2 ^ 25)) ∷ []) p c);
      drawn = by_first (λ m. m % 2 ^ 25 < 2 ^ 24 → Contains (after_all v rest.steps).held (pair_of m)) n (n + suc k)
          (λ pair. rest.keeps (pair_of n) here) (λ m from to pair. rest.drawn m from (omega arith) pair);
    }

-- another number is passed
pass : (k n : ℕ) (w : World) → (n % 2 ^ 25 < 2 ^ 24 → ⊥) → Ready w n → n + suc k ≤ w.mark → More k n → Draws w n (n + suc k)
pass k n w gap ready below more =
    let rest : Draws w (n + 1) (n + 1 + k) = more w (record { below = omega (arith, ready.below); here = past_gap w.next n gap }) (omega arith) in
    record {
      steps = rest.steps;
      allowed = rest.allowed;
      on = rest.on;
      same = rest.same;
      keeps = rest.keeps;
      drawn = by_first (λ m. m % 2 ^ 25 < 2 ^ 24 → Contains (after_all w rest.steps).held (pair_of m)) n (n + suc k)
          (λ pair. absurd (gap pair)) (λ m from to pair. rest.drawn m from (omega arith) pair);
    }

draw_by : (b : Bool) (k n : ℕ) (w : World) → ltb (n % 2 ^ 25) (2 ^ 24) ≡ b → Ready w n → n + suc k ≤ w.mark → n + suc k ≤ 2 ^ 57 → More k n
    → Draws w n (n + suc k)
draw_by true k n w e ready below width more = draw_here k n w (is_below (n % 2 ^ 25) (2 ^ 24) e) ready below width more
draw_by false k n w e ready below width more = pass k n w (λ h. omega (arith, isnt_below (n % 2 ^ 25) (2 ^ 24) e, h)) ready below more

pub draw_up : (k n : ℕ) (w : World) → Ready w n → n + k ≤ w.mark → n + k ≤ 2 ^ 57 → Draws w n (n + k)
draw_up zero n w ready below width = record {
  steps = [];
  allowed = tt;
  on = tt;
  same = record { seals = refl; mark = refl; kept = refl; current = refl; entry = refl; delivered = refl };
  keeps = λ p c. c;
  drawn = λ m from to pair. absurd (omega arith);
}
draw_up (suc k) n w ready below width =
    draw_by (ltb (n % 2 ^ 25) (2 ^ 24)) k n w refl ready below width (λ v r b. draw_up k (n + 1) v r b (omega arith))

-- the number behind all that lines draw
abbrev pub behind : ℕ → List Pair → ℕ
behind from [] = from
behind from (p ∷ ps) = max (word_of p + 1) (behind from ps)

pub from_behind : (from : ℕ) (ps : List Pair) → from ≤ behind from ps
from_behind from [] = omega arith
from_behind from (p ∷ ps) = omega (arith, from_behind from ps)

pub behind_below : (from mark : ℕ) (ps : List Pair) → from ≤ mark → AllByRecursion (λ (p : Pair). word_of p < mark) ps → behind from ps ≤ mark
behind_below from mark [] h k = h
behind_below from mark (p ∷ ps) h k = omega (arith, k.0, behind_below from mark ps h k.1)

abbrev pub IsIn : ℕ → ℕ → Pair → Type 0
IsIn from to p = (from ≤ word_of p) × (word_of p < to) × (p.seq < 2 ^ 24)

widen : (from to up : ℕ) (ps : List Pair) → to ≤ up → AllByRecursion (IsIn from to) ps → AllByRecursion (IsIn from up) ps
widen from to up [] h k = tt
widen from to up (p ∷ ps) h k = ((k.0.0, omega (arith, k.0.1), k.0.2), widen from to up ps h k.1)

pub all_in : (from : ℕ) (ps : List Pair) → AllByRecursion (λ (p : Pair). from ≤ word_of p) ps → AllByRecursion (λ (p : Pair). p.seq < 2 ^ 24) ps
    → AllByRecursion (IsIn from (behind from ps)) ps
all_in from [] h k = tt
all_in from (p ∷ ps) h k =
    ((h.0, omega arith, k.0), widen from (behind from ps) (behind from (p ∷ ps)) ps (omega arith) (all_in from ps h.1 k.1))

seq_of_word : (p : Pair) → p.seq < 2 ^ 24 → word_of p % 2 ^ 25 ≡ p.seq
seq_of_word p h = omega arith

pair_of-word : (p : Pair) → p.seq < 2 ^ 24 → pair_of (word_of p) ≡ p
pair_of-word p h = pairs_equal (pair_of (word_of p)) p (omega arith) (omega arith)

-- so each of them is drawn
pub each_drawn : (w : World) (from to : ℕ) (d : Draws w from to) (ps : List Pair) → AllByRecursion (IsIn from to) ps → AllByRecursion (Contains (after_all w d.steps).held) ps
each_drawn w from to d [] h = tt
each_drawn w from to d (p ∷ ps) h = (
  subst (Contains (after_all w d.steps).held) (pair_of-word p h.0.2)
      (d.drawn (word_of p) h.0.0 h.0.1 (omega (arith, seq_of_word p h.0.2, h.0.2))),
  each_drawn w from to d ps h.1,
)

pub ready_at : (w : World) → Ready w w.next
ready_at w = record { below = omega arith; here = λ p. omega arith }
