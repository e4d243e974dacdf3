-- Time leaves the messages as they are exactly where no round is due.
use Rattle.std.proofs.Common.{◌≡◌, ◌↔◌, ℕ, ◌+◌, ◌≤◌, Bool, true, false, cond, not, List, [], ◌∷◌, length, refl, ap, arith, Option, Some, None}
use Rattle.std.proofs.lemmas.Bool.{or_parts}
use Rattle.std.specs.List.{cons_option, filter_map, list_any}
use Rattle.layer_states.specs.Sending.{after, due, is_due, is_last, round_after, stepped}
use Rattle.layer_states.specs.declared.sending.Sending.{Sending}

fewer : {X Y : Type 0} (f : X → Option Y) (xs : List X) → length (filter_map f xs) ≤ length xs
fewer f [] = omega arith
fewer {Y = Y} f (x ∷ xs) = more (f x) (filter_map f xs) (fewer f xs)
  where
    more : (o : Option Y) (ys : List Y) → length ys ≤ length xs → length (cons_option o ys) ≤ length (x ∷ xs)
    more None ys h = omega (arith, h)
    more (Some y) ys h = omega (arith, h)

-- where none is due
stays : (now : ℕ) (rows : List Sending) → list_any (is_due now) rows ≡ false → filter_map (stepped now) rows ≡ rows
stays now [] h = refl
stays now (s ∷ rows) h =
    let parts = or_parts (is_due now s) (list_any (is_due now) rows) h in
    rw parts.0 (ap (λ (l : List Sending). s ∷ l) (stays now rows parts.1))

-- One that is due goes, or has a round more.
one_left : (is_due is_last : Bool) (s later : Sending) (rest rows : List Sending) → later.rounds ≡ s.rounds + 1 → length rest ≤ length rows
    → cons_option (cond (not is_due) (Some s) (cond is_last None (Some later))) rest ≡ s ∷ rows → (is_due ≡ false) × (rest ≡ rows)
one_left false is_last s later rest rows more few h = (refl, cc)
one_left true true s later rest rows more few h = absurd (omega (arith, few, ap (λ (l : List Sending). length l) h))
one_left true false s later rest rows more few h =
    let same : later ≡ s = cc in
    absurd (omega (arith, more, ap (λ (x : Sending). x.rounds) same))

pub none_due : (now : ℕ) (rows : List Sending) → filter_map (stepped now) rows ≡ rows → list_any (is_due now) rows ≡ false
none_due now [] h = refl
none_due now (s ∷ rows) h =
    let left =
    one_left (is_due now s) (is_last s) s (record s { rounds = s.rounds + 1; due = round_after now s.message }) (filter_map (stepped now) rows) rows
    refl (fewer (stepped now) rows) h in
    rw left.0 (none_due now rows left.1)

pub still_where : (now : ℕ) (rows : List Sending) → after rows (due now) ≡ rows ↔ list_any (is_due now) rows ≡ false
still_where now rows = (none_due now rows, stays now rows)
