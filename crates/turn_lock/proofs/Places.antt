-- Lists that begin with others, and entries with their places.
use Rattle.std.proofs.Common.{◌≡◌, ℕ, zero, suc, ◌+◌, ◌<◌, ◌≤◌, ◌≢◌, ◌⊎◌, inl, inr, ⊎_elim, Bool, true, false, cond, List, [], ◌∷◌, ◌++◌, length, drop, Some, refl, sym, ap, ◌∙◌, arith, subst, append_assoc, append-nil, length-append}
use Rattle.std.specs.Prelude.{nat_lt, ◌==◌, slice_get}
use Rattle.std.specs.List.{enumerate_from}
use Rattle.std.proofs.lemmas.List.{drop_at, drop_all}
use Rattle.std.proofs.lemmas.List.Sums.{sum_by-cons, sum_by-append}
use Rattle.std.proofs.lemmas.Option.{slice_get_within}
use Rattle.std.proofs.lemmas.Bool.Decides.{nat_tests}
use mathlib.Core.Logic.{dite}
use native.Mathlib.Decide.{dec_le, ℕ_discrete}
use Rattle.turn_lock.specs.Entries.{IsPrefix, IsLongerOf, StandFrom, added, entries_of, times_at, put_in, merge, one_below}

above_test : (m n : ℕ) → nat_lt m n ≡ true → m + 1 ≤ n
above_test m n e = grind (arith, nat_tests)

pub one_here : (n m : ℕ) → one_below n n ≡ one_below n m → m ≤ n
one_here n m e = grind (arith, nat_tests)

pub one_within : (n m : ℕ) → n < m → one_below n m ≡ 1
one_within n m lt = grind (arith, nat_tests)

pub none_here : (n : ℕ) → one_below n n ≡ 0
none_here n = grind (arith, nat_tests)

module _ {E : Type 0} where
  pub prefix_refl : (xs : List E) → IsPrefix xs xs
  prefix_refl xs = record { rest = []; is = sym (append-nil xs) }

  pub prefix_trans : (xs ys zs : List E) → IsPrefix xs ys → IsPrefix ys zs → IsPrefix xs zs
  prefix_trans xs ys zs a b = record { rest = a.rest ++ b.rest; is = b.is ∙ ap (λ l. l ++ b.rest) a.is ∙ append_assoc xs a.rest b.rest }

  pub prefix_drop : (xs ys : List E) → IsPrefix xs ys → ys ≡ xs ++ drop (length xs) ys
  prefix_drop xs ys a = a.is ∙ ap (λ l. xs ++ l) (sym (ap (drop (length xs)) a.is ∙ drop_at xs a.rest (length xs) refl))

  pub prefix_length : (xs ys : List E) → IsPrefix xs ys → length xs ≤ length ys
  prefix_length xs ys a = omega (arith, ap length a.is, length-append xs a.rest)

  -- of two fronts of one list, one begins with the other
  longer_of : (xs ys zs r s : List E) → zs ≡ xs ++ r → zs ≡ ys ++ s → IsPrefix xs ys ⊎ IsPrefix ys xs
  longer_of [] ys zs r s a b = inl (record { rest = ys; is = refl })
  longer_of (x ∷ xs) [] zs r s a b = inr (record { rest = x ∷ xs; is = refl })
  longer_of (x ∷ xs) (y ∷ ys) [] r s a b = cc
  longer_of (x ∷ xs) (y ∷ ys) (z ∷ zs) r s a b =
      let head : x ≡ y = cc in
      let left : zs ≡ xs ++ r = cc in
      let right : zs ≡ ys ++ s = cc in
      ⊎_elim (λ p. let e : ys ≡ xs ++ p.rest = p.is in inl (record { rest = p.rest; is = cc })) (λ p. let e : xs ≡ ys ++ p.rest = p.is in inr (record { rest = p.rest; is = cc })) (longer_of xs ys zs r s left right)

  pub longer : (xs ys zs : List E) → IsPrefix xs zs → IsPrefix ys zs → IsPrefix xs ys ⊎ IsPrefix ys xs
  longer xs ys zs a b = longer_of xs ys zs a.rest b.rest a.is b.is

  get_longer : (xs rest : List E) (i : ℕ) (e : E) → slice_get xs i ≡ Some e → slice_get (xs ++ rest) i ≡ Some e
  get_longer [] rest i e h = cc
  get_longer (x ∷ xs) rest zero e h = h
  get_longer (x ∷ xs) rest (suc i) e h = get_longer xs rest i e h

  stand_longer : (n : ℕ) (xs rest : List E) (own : List (ℕ × E)) → StandFrom n xs own → StandFrom n (xs ++ rest) own
  stand_longer n xs rest [] h = tt
  stand_longer n xs rest (x ∷ own) h = (h.0, get_longer xs rest x.0 x.1 h.1, stand_longer (x.0 + 1) xs rest own h.2)

  -- own entries stand in every longer list
  pub stand_prefix : (n : ℕ) (xs ys : List E) (own : List (ℕ × E)) → IsPrefix xs ys → StandFrom n xs own → StandFrom n ys own
  stand_prefix n xs ys own a h = subst (λ l. StandFrom n l own) (sym a.is) (stand_longer n xs a.rest own h)

  stand_weaker : (n m : ℕ) (xs : List E) (own : List (ℕ × E)) → n ≤ m → StandFrom m xs own → StandFrom n xs own
  stand_weaker n m xs [] le h = tt
  stand_weaker n m xs (x ∷ own) le h = let low : m ≤ x.0 = h.0 in (omega arith, h.1, h.2)

  -- entries that stand behind a list may follow those that stand in it
  stand_append : (n : ℕ) (xs rest : List E) (own more : List (ℕ × E)) → n ≤ length xs → StandFrom n xs own → StandFrom (length xs) (xs ++ rest) more → StandFrom n (xs ++ rest) (own ++ more)
  stand_append n xs rest [] more le h k = stand_weaker n (length xs) (xs ++ rest) more le k
  stand_append n xs rest (x ∷ own) more le h k =
      let within : x.0 < length xs = slice_get_within xs x.0 x.1 h.1 in
      (h.0, get_longer xs rest x.0 x.1 h.1, stand_append (x.0 + 1) xs rest own more (omega arith) h.2 k)

  at_drop : (xs : List E) (n : ℕ) (e : E) (es : List E) → drop n xs ≡ e ∷ es → (slice_get xs n ≡ Some e) × (drop (n + 1) xs ≡ es)
  at_drop [] zero e es h = cc
  at_drop [] (suc n) e es h = cc
  at_drop (x ∷ xs) zero e es h = let head : x ≡ e = cc in let rest : xs ≡ es = cc in (ap Some head, rest)
  at_drop (x ∷ xs) (suc n) e es h =
      let t = at_drop xs n e es h in
      let next : suc n + 1 ≡ suc (n + 1) = omega arith in
      (t.0, ap (λ k. drop k (x ∷ xs)) next ∙ t.1)

  stand_placed : (es xs : List E) (n : ℕ) → drop n xs ≡ es → StandFrom n xs (enumerate_from n es)
  stand_placed [] xs n h = tt
  stand_placed (e ∷ es) xs n h = let t = at_drop xs n e es h in let le : n ≤ n = omega arith in (le, t.0, stand_placed es xs (n + 1) t.1)

  -- a pass's own entries stand in the list with those that it adds
  pub stand_added : (xs ys : List E) (own : List (ℕ × E)) → IsPrefix xs ys → StandFrom 0 xs own → StandFrom 0 ys (own ++ enumerate_from (length xs) (drop (length xs) ys))
  stand_added xs ys own a h =
      let more : List (ℕ × E) = enumerate_from (length xs) (drop (length xs) ys) in
      let placed : StandFrom (length xs) ys more = stand_placed (drop (length xs) ys) ys (length xs) refl in
      subst (λ l. StandFrom 0 l (own ++ more)) (sym a.is) (stand_append 0 xs a.rest own more (omega arith) h (subst (λ l. StandFrom (length xs) l more) a.is placed))

  abbrev one_at : ℕ → ℕ × E → ℕ
  one_at p x = cond (x.0 == p) 1 0

  times_cons : (p : ℕ) (x : ℕ × E) (xs : List (ℕ × E)) → times_at p (x ∷ xs) ≡ one_at p x + times_at p xs
  times_cons p x xs = sum_by-cons (one_at p) x xs

  pub times_append : (p : ℕ) (xs ys : List (ℕ × E)) → times_at p (xs ++ ys) ≡ times_at p xs + times_at p ys
  times_append p xs ys = sum_by-append (one_at p) xs ys

  one_more : (p n : ℕ) (e : E) → one_at p (n, e) + one_below p n ≡ one_below p (n + 1)
  one_more p n e = grind (arith, nat_tests)

  pub times_placed : (p n : ℕ) (es : List E) → times_at p (enumerate_from n es) + one_below p n ≡ one_below p (n + length es)
  times_placed p n [] = let e : n ≡ n + 0 = omega arith in let same = ap (λ (k : ℕ). one_below p k) e in omega arith
  times_placed p n (x ∷ es) =
      let rest = times_placed p (n + 1) es in
      let first = one_more p n x in
      let sum = times_cons p (n, x) (enumerate_from (n + 1) es) in
      let e : (n + 1) + length es ≡ n + length (x ∷ es) = omega arith in
      let last = ap (λ k. one_below p k) e in
      omega arith

  -- no entry that stands from m on is below m
  times_above : (p m : ℕ) (xs : List E) (own : List (ℕ × E)) → StandFrom m xs own → p < m → times_at p own ≡ 0
  times_above p m xs [] h lt = refl
  times_above p m xs (x ∷ own) h lt =
      let low : m ≤ x.0 = h.0 in
      let apart : one_at p x ≡ 0 = not_here p x (omega arith) in
      let rest = times_above p (x.0 + 1) xs own h.2 (omega arith) in
      omega (arith, times_cons p x own)
    where
      not_here : (p : ℕ) (x : ℕ × E) → p < x.0 → one_at p x ≡ 0
      not_here p x lt = grind (arith, nat_tests)

  put_below : (x y : ℕ × E) (ys : List (ℕ × E)) (b : Bool) → nat_lt x.0 y.0 ≡ b → put_in x (y ∷ ys) ≡ cond b (x ∷ y ∷ ys) (y ∷ put_in x ys)
  put_below x y ys b e = ap (λ c. cond c (x ∷ y ∷ ys) (y ∷ put_in x ys)) e

  -- where the place of x is above that of y, or the same, it goes behind y
  times_put : (p : ℕ) (x : ℕ × E) (ys : List (ℕ × E)) → times_at p (put_in x ys) ≡ one_at p x + times_at p ys
  times_put p x [] = times_cons p x []
  times_put p x (y ∷ ys) = by_test (nat_lt x.0 y.0) refl (times_put p x ys) where
    by_test : (b : Bool) → nat_lt x.0 y.0 ≡ b → times_at p (put_in x ys) ≡ one_at p x + times_at p ys → times_at p (put_in x (y ∷ ys)) ≡ one_at p x + times_at p (y ∷ ys)
    by_test true e h = ap (times_at p) (put_below x y ys true e) ∙ times_cons p x (y ∷ ys)
    by_test false e h =
        let behind = ap (times_at p) (put_below x y ys false e) in
        omega (arith, behind, times_cons p y (put_in x ys), times_cons p y ys)

  pub times_merge : (p : ℕ) (xs ys : List (ℕ × E)) → times_at p (merge xs ys) ≡ times_at p xs + times_at p ys
  times_merge p [] ys = omega arith
  times_merge p (x ∷ xs) ys = let rest = times_merge p xs ys in omega (arith, times_put p x (merge xs ys), times_cons p x xs)

  here : (x : ℕ × E) → one_at x.0 x ≡ 1
  here x = grind (arith, nat_tests)

  -- not below, and not the same, is above
  below_test : (x y : ℕ × E) → nat_lt x.0 y.0 ≡ false → one_at x.0 y ≡ 0 → y.0 + 1 ≤ x.0
  below_test x y e n = grind (arith, nat_tests)

  put_stands : (n : ℕ) (l : List E) (x : ℕ × E) (ys : List (ℕ × E)) → n ≤ x.0 → slice_get l x.0 ≡ Some x.1 → times_at x.0 ys ≡ 0 → StandFrom n l ys → StandFrom n l (put_in x ys)
  put_stands n l x [] le e none h = (le, e, tt)
  put_stands n l x (y ∷ ys) le e none h =
      let sum = times_cons x.0 y ys in
      let not_y : one_at x.0 y ≡ 0 = omega arith in
      let none_left : times_at x.0 ys ≡ 0 = omega arith in
      by_test (nat_lt x.0 y.0) refl (λ low. put_stands (y.0 + 1) l x ys low e none_left h.2) not_y
    where
      by_test : (b : Bool) → nat_lt x.0 y.0 ≡ b → (y.0 + 1 ≤ x.0 → StandFrom (y.0 + 1) l (put_in x ys)) → one_at x.0 y ≡ 0 → StandFrom n l (put_in x (y ∷ ys))
      by_test true b f not_y = subst (StandFrom n l) (sym (put_below x y ys true b)) (le, e, (above_test x.0 y.0 b, h.1, h.2))
      by_test false b f not_y = subst (StandFrom n l) (sym (put_below x y ys false b)) (h.0, h.1, f (below_test x y b not_y))

  merge_stands : (n : ℕ) (l : List E) (xs ys : List (ℕ × E)) → StandFrom n l xs → StandFrom 0 l ys → ((p : ℕ) → times_at p xs + times_at p ys ≤ 1) → StandFrom 0 l (merge xs ys)
  merge_stands n l [] ys h k once = k
  merge_stands n l (x ∷ xs) ys h k once =
      let rest : StandFrom 0 l (merge xs ys) = merge_stands (x.0 + 1) l xs ys h.2 k (λ p. omega (arith, once p, times_cons p x xs)) in
      let none : times_at x.0 (merge xs ys) ≡ 0 = omega (arith, times_merge x.0 xs ys, once x.0, times_cons x.0 x xs, here x) in
      put_stands 0 l x (merge xs ys) (omega arith) h.1 none rest

  -- the own entries of two passes, of which no place is in both
  pub stand_merge : (l : List E) (xs ys : List (ℕ × E)) → StandFrom 0 l xs → StandFrom 0 l ys → ((p : ℕ) → times_at p xs + times_at p ys ≤ 1) → StandFrom 0 l (merge xs ys)
  stand_merge l xs ys h k once = merge_stands 0 l xs ys h k once

  from_at : (xs : List E) (n : ℕ) (e : E) → slice_get xs n ≡ Some e → drop n xs ≡ e ∷ drop (n + 1) xs
  from_at [] n e h = cc
  from_at (x ∷ xs) zero e h = let same : x ≡ e = cc in ap (λ y. y ∷ xs) same
  from_at (x ∷ xs) (suc n) e h =
      let next : suc (n + 1) ≡ suc n + 1 = omega arith in
      from_at xs n e h ∙ ap (λ k. e ∷ drop k (x ∷ xs)) next

  -- own entries that have each place from n on are all that stands from n on
  placed_from : (n : ℕ) (l : List E) (own : List (ℕ × E)) → n ≤ length l → StandFrom n l own → ((p : ℕ) → times_at p own + one_below p n ≡ one_below p (length l)) → own ≡ enumerate_from n (drop n l)
  placed_from n l [] le h all = sym (ap (enumerate_from n) (drop_all n l (one_here n (length l) (omega (arith, all n)))))
  placed_from n l (x ∷ own) le h all =
      let within : x.0 < length l = slice_get_within l x.0 x.1 h.1 in
      let low : n ≤ x.0 = h.0 in
      let self : x.0 ≤ x.0 = omega arith in
      let not_above : n < x.0 → ⊥ = λ lt. omega (arith, all n, times_above n x.0 l (x ∷ own) (self, h.1, h.2) lt, none_here n, one_within n (length l) (omega arith)) in
      let same : x.0 ≡ n = omega (arith, not_above) in
      let rest : (p : ℕ) → times_at p own + one_below p (x.0 + 1) ≡ one_below p (length l) = λ p. omega (arith, all p, times_cons p x own, one_more p x.0 x.1, ap (λ (k : ℕ). one_below p k) same) in
      ap (λ ys. x ∷ ys) (placed_from (x.0 + 1) l own (omega arith) h.2 rest) ∙ ap (enumerate_from x.0) (sym (from_at l x.0 x.1 h.1)) ∙ ap (λ k. enumerate_from k (drop k l)) same

  entries_placed : (n : ℕ) (es : List E) → entries_of (enumerate_from n es) ≡ es
  entries_placed n [] = refl
  entries_placed n (e ∷ es) = ap (λ xs. e ∷ xs) (entries_placed (n + 1) es)

  -- where no entry has a place below n, they stand from n on
  stand_higher : (n m : ℕ) (l : List E) (own : List (ℕ × E)) → StandFrom m l own → ((p : ℕ) → p < n → times_at p own ≡ 0) → StandFrom n l own
  stand_higher n m l [] h none = tt
  stand_higher n m l (x ∷ own) h none =
      let not_below : x.0 < n → ⊥ = λ lt. omega (arith, none x.0 lt, times_cons x.0 x own, here x) in
      (omega (arith, not_below), h.1, h.2)

  -- own entries that have each place behind a front are all that stands behind it
  pub whole_places : (front l : List E) (own : List (ℕ × E)) → IsPrefix front l → StandFrom 0 l own → ((p : ℕ) → times_at p own + one_below p (length front) ≡ one_below p (length l)) → own ≡ added front l
  whole_places front l own a h all =
      let n : ℕ = length front in
      let short : n ≤ length l = prefix_length front l a in
      let none : (p : ℕ) → p < n → times_at p own ≡ 0 = λ p lt. omega (arith, all p, one_within p n lt, one_within p (length l) (omega arith)) in
      placed_from n l own short (stand_higher n 0 l own h none) all

  -- and the list is the front, and then they
  pub whole_list : (front l : List E) (own : List (ℕ × E)) → IsPrefix front l → own ≡ added front l → l ≡ front ++ entries_of own
  whole_list front l own a e =
      prefix_drop front l a ∙ ap (λ es. front ++ es) (sym (ap entries_of e ∙ entries_placed (length front) (drop (length front) l)))

  elsewhere : (p : ℕ) (x : ℕ × E) → x.0 ≢ p → one_at p x ≡ 0
  elsewhere p x apart = grind (arith, nat_tests)

  place_within : (p n : ℕ) (l : List E) (own : List (ℕ × E)) → StandFrom n l own → 1 ≤ times_at p own → p < length l
  place_within p n l [] h some = absurd (omega arith)
  place_within p n l (x ∷ own) h some =
      dite (ℕ_discrete x.0 p)
      (λ e. subst (λ k. k < length l) e (slice_get_within l x.0 x.1 h.1))
      (λ apart. place_within p (x.0 + 1) l own h.2 (omega (arith, times_cons p x own, elsewhere p x apart)))

  get_shorter : (xs rest : List E) (i : ℕ) (e : E) → i < length xs → slice_get (xs ++ rest) i ≡ Some e → slice_get xs i ≡ Some e
  get_shorter [] rest i e lt h = absurd (omega arith)
  get_shorter (x ∷ xs) rest zero e lt h = h
  get_shorter (x ∷ xs) rest (suc i) e lt h = get_shorter xs rest i e (omega arith) h

  stand_shorter : (n : ℕ) (xs rest : List E) (own : List (ℕ × E)) → StandFrom n (xs ++ rest) own → ((p : ℕ) → 1 ≤ times_at p own → p < length xs) → StandFrom n xs own
  stand_shorter n xs rest [] h within = tt
  stand_shorter n xs rest (x ∷ own) h within = (
    h.0,
    get_shorter xs rest x.0 x.1 (within x.0 (omega (arith, times_cons x.0 x own, here x))) h.1,
    stand_shorter (x.0 + 1) xs rest own h.2 (λ p some. within p (omega (arith, times_cons p x own))),
  )

  -- the own entries of two passes, where they stand in the list together, stand in what either has seen
  pub stand_both : (xs ys seen l : List E) (mine theirs : List (ℕ × E)) → IsLongerOf xs ys seen → IsPrefix seen l → StandFrom 0 xs mine → StandFrom 0 ys theirs → StandFrom 0 l (merge mine theirs) → StandFrom 0 seen (merge mine theirs)
  stand_both xs ys seen l mine theirs longest front a b h =
      stand_shorter 0 seen front.rest (merge mine theirs) (subst (λ k. StandFrom 0 k (merge mine theirs)) front.is h) (λ p some.
      dite (dec_le 1 (times_at p mine))
      (λ is. let short = prefix_length xs seen longest.first in let within = place_within p 0 xs mine a is in omega arith)
      (λ not. let short = prefix_length ys seen longest.second in let within = place_within p 0 ys theirs b (omega (arith, not, times_merge p mine theirs)) in omega arith))
