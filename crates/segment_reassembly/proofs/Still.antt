-- Time leaves the messages as they are exactly where no timer of theirs ends.
use Rattle.std.proofs.Common.{◌≡◌, ◌↔◌, ℕ, ◌-◌, ◌≤◌, Bool, true, false, cond, not, List, [], ◌∷◌, length, map, refl, sym, ap, ◌∙◌, arith, Option, Some, None}
use Rattle.std.proofs.lemmas.Bool.{or_parts}
use Rattle.std.specs.Prelude.{nat_lt, ◌||◌}
use Rattle.std.specs.List.{list_any}
use Rattle.layer_states.specs.Reassembly.{after, live, rung, tick}
use Rattle.layer_states.specs.declared.reassembly.Assembly.{Assembly}
use Rattle.layer_states.specs.declared.reassembly.Timer.{Timer}
use Rattle.segment_reassembly.specs.Ends.{is_ending, is_timer_over}

fewer : (now : ℕ) (rows : List Assembly) → length (after rows (tick now)) ≤ length rows
fewer now [] = omega arith
fewer now (a ∷ rows) = more (nat_lt (now - a.renewed) 1000) (fewer now rows)
  where
    more : (young : Bool) → length (after rows (tick now)) ≤ length rows
        → length (map (λ (b : Assembly). rung now b) (cond young (a ∷ live now rows) (live now rows))) ≤ length (a ∷ rows)
    more true h = omega (arith, h)
    more false h = omega (arith, h)

-- where none ends
stays : (now : ℕ) (rows : List Assembly) → list_any (is_ending now) rows ≡ false → after rows (tick now) ≡ rows
stays now [] h = refl
stays now (a ∷ rows) h =
    let parts = or_parts (is_ending now a) (list_any (is_ending now) rows) h in
    let timers = or_parts (not (nat_lt (now - a.renewed) 1000)) (is_timer_over now a.timer) parts.0 in
    let young : nat_lt (now - a.renewed) 1000 ≡ true = negated (nat_lt (now - a.renewed) 1000) timers.0 in
    rw (young, timers.1) (ap (λ (l : List Assembly). a ∷ l) (stays now rows parts.1))
  where
    negated : (b : Bool) → not b ≡ false → b ≡ true
    negated true h = refl
    negated false h = sym h

-- A message goes whose incomplete timer ends, and a timer that ends stops.
stopped : (now : ℕ) (timer : Option Timer) → is_timer_over now timer ≡ true → None ≡ timer → ⊥
stopped now None h e = cc
stopped now (Some t) h e = cc

one_left : (now : ℕ) (a : Assembly) (rows : List Assembly) (young over : Bool) → is_timer_over now a.timer ≡ over
    → map (λ (b : Assembly). rung now b) (cond young (a ∷ live now rows) (live now rows)) ≡ a ∷ rows
    → rung now a ≡ cond over (record a { timer = None }) a
    → ((not young || over) ≡ false) × (after rows (tick now) ≡ rows)
one_left now a rows false over o h r = absurd (omega (arith, fewer now rows, ap (λ (l : List Assembly). length l) h))
one_left now a rows true false o h r = (refl, cc)
one_left now a rows true true o h r =
    let same : rung now a ≡ a = cc in
    absurd (stopped now a.timer o (ap (λ (b : Assembly). b.timer) (sym r ∙ same)))

pub none_ends : (now : ℕ) (rows : List Assembly) → after rows (tick now) ≡ rows → list_any (is_ending now) rows ≡ false
none_ends now [] h = refl
none_ends now (a ∷ rows) h =
    let left = one_left now a rows (nat_lt (now - a.renewed) 1000) (is_timer_over now a.timer) refl h refl in
    rw left.0 (none_ends now rows left.1)

pub still_where : (now : ℕ) (rows : List Assembly) → after rows (tick now) ≡ rows ↔ list_any (is_ending now) rows ≡ false
still_where now rows = (none_ends now rows, stays now rows)
