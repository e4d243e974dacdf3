-- Tables: what holds of each row, rows of which no two are the same, and a row that comes last.
use Rattle.std.proofs.Common.{◌≡◌, ℕ, zero, suc, ◌≤◌, Bool, true, false, not, List, [], ◌∷◌, ◌++◌, map, filter, set, refl, ap, sym, subst, ◌∙◌, arith}
use Rattle.std.proofs.lemmas.Bool.{or_from, or_parts}
use Rattle.std.specs.Prelude.{◌==◌, nat_lt, if◌then◌else◌}
use Rattle.std.specs.List.{AllByRecursion, list_any}
use Rattle.std.proofs.lemmas.Bool.Decides.{nat_tests}
use Rattle.layer_definitions.specs.Order.{put_by}
use Rattle.node_records.proofs.Rising.{RisesFrom}

module _ {A : Type 0} (P : A → Type 0) where
  pub all_put : (key : A → ℕ) (r : A) (rows : List A) → P r → AllByRecursion P rows → AllByRecursion P (put_by key r rows)
  all_put key r [] h k = (h, tt)
  all_put key r (x ∷ rows) h k = by_tests (nat_lt (key r) (key x)) (key r == key x) (all_put key r rows h k.1)
    where
      by_tests : (b c : Bool) → AllByRecursion P (put_by key r rows) → AllByRecursion P (if b then r ∷ x ∷ rows else if c then r ∷ rows else x ∷ put_by key r rows)
      by_tests true c rest = (h, k)
      by_tests false true rest = (h, k.1)
      by_tests false false rest = (k.0, rest)

  pub all_filter : (t : A → Bool) (rows : List A) → AllByRecursion P rows → AllByRecursion P (filter t rows)
  all_filter t [] k = tt
  all_filter t (x ∷ rows) k = by_test (t x) (all_filter t rows k.1)
    where
      by_test : (b : Bool) → AllByRecursion P (filter t rows) → AllByRecursion P (if b then x ∷ filter t rows else filter t rows)
      by_test true rest = (k.0, rest)
      by_test false rest = rest

  pub all_map : (f : A → A) → ((r : A) → P r → P (f r)) → (rows : List A) → AllByRecursion P rows → AllByRecursion P (map f rows)
  all_map f h [] k = tt
  all_map f h (x ∷ rows) k = (h x k.0, all_map f h rows k.1)

  pub all_if : (b : Bool) (xs ys : List A) → AllByRecursion P xs → AllByRecursion P ys → AllByRecursion P (if b then xs else ys)
  all_if true xs ys h k = h
  all_if false xs ys h k = k

  pub pick : (b : Bool) (r s : A) → P r → P s → P (if b then s else r)
  pick true r s h k = k
  pick false r s h k = h

  pub all_push : (rows : List A) (r : A) → AllByRecursion P rows → P r → AllByRecursion P (rows ++ r ∷ [])
  all_push [] r k h = (h, tt)
  all_push (x ∷ rows) r k h = (k.0, all_push rows r k.1 h)

  pub all_set : (rows : List A) (i : ℕ) (r : A) → AllByRecursion P rows → P r → AllByRecursion P (set rows i r)
  all_set [] zero r k h = tt
  all_set [] (suc i) r k h = tt
  all_set (x ∷ rows) zero r k h = (h, k.1)
  all_set (x ∷ rows) (suc i) r k h = (k.0, all_set rows i r k.1 h)

  all_in : (done : List A) (r : A) (rest : List A) → AllByRecursion P (done ++ r ∷ rest) → P r
  all_in [] r rest k = k.0
  all_in (x ∷ done) r rest k = all_in done r rest k.1

  pub all_at : (all done : List A) (r : A) (rest : List A) → done ++ r ∷ rest ≡ all → AllByRecursion P all → P r
  all_at all done r rest e k = all_in done r rest (subst (λ l. AllByRecursion P l) (sym e) k)

-- no two rows are the same
abbrev pub Distinct : {A : Type 0} → (A → A → Bool) → List A → Type 0
Distinct same [] = Unit {0}
Distinct same (x ∷ xs) = (list_any (same x) xs ≡ false) × Distinct same xs

any_filter : {A : Type 0} (q t : A → Bool) (xs : List A) → list_any q xs ≡ false → list_any q (filter t xs) ≡ false
any_filter q t [] h = refl
any_filter q t (x ∷ xs) h = by_test (t x) (any_filter q t xs (or_parts (q x) (list_any q xs) h).1)
  where
    by_test : (b : Bool) → list_any q (filter t xs) ≡ false → list_any q (if b then x ∷ filter t xs else filter t xs) ≡ false
    by_test true k = or_from (q x) (list_any q (filter t xs)) (or_parts (q x) (list_any q xs) h).0 k
    by_test false k = k

any_at : {A : Type 0} (q : A → Bool) (xs : List A) (r : A) (rest : List A) → list_any q (xs ++ r ∷ rest) ≡ false → q r ≡ false
any_at q [] r rest h = (or_parts (q r) (list_any q rest) h).0
any_at q (x ∷ xs) r rest h = any_at q xs r rest (or_parts (q x) (list_any q (xs ++ r ∷ rest)) h).1

any_push : {A : Type 0} (q : A → Bool) (xs : List A) (r : A) → list_any q xs ≡ false → q r ≡ false → list_any q (xs ++ r ∷ []) ≡ false
any_push q [] r h k = or_from (q r) false k refl
any_push q (x ∷ xs) r h k = or_from (q x) (list_any q (xs ++ r ∷ [])) (or_parts (q x) (list_any q xs) h).0 (any_push q xs r (or_parts (q x) (list_any q xs) h).1 k)

-- rows that a test leaves out
pub any_without : {A : Type 0} (q own : A → Bool) → ((x : A) → own x ≡ false → q x ≡ false) → (xs : List A) → list_any q (filter (λ x. not (own x)) xs) ≡ false
any_without q own h [] = refl
any_without q own h (x ∷ xs) = by_test (own x) refl (any_without q own h xs)
  where
    by_test : (b : Bool) → own x ≡ b → list_any q (filter (λ y. not (own y)) xs) ≡ false
        → list_any q (if not b then x ∷ filter (λ y. not (own y)) xs else filter (λ y. not (own y)) xs) ≡ false
    by_test true e k = k
    by_test false e k = or_from (q x) (list_any q (filter (λ y. not (own y)) xs)) (h x e) k

module _ {A : Type 0} (same : A → A → Bool) (symmetric : (x y : A) → same x y ≡ same y x) where
  pub distinct_filter : (t : A → Bool) (xs : List A) → Distinct same xs → Distinct same (filter t xs)
  distinct_filter t [] h = tt
  distinct_filter t (x ∷ xs) h = by_test (t x) (distinct_filter t xs h.1)
    where
      by_test : (b : Bool) → Distinct same (filter t xs) → Distinct same (if b then x ∷ filter t xs else filter t xs)
      by_test true k = (any_filter (same x) t xs h.0, k)
      by_test false k = k

  pub distinct_push : (xs : List A) (r : A) → Distinct same xs → list_any (same r) xs ≡ false → Distinct same (xs ++ r ∷ [])
  distinct_push [] r h k = (refl, tt)
  distinct_push (x ∷ xs) r h k =
      (any_push (same x) xs r h.0 (symmetric x r ∙ (or_parts (same r x) (list_any (same r) xs) k).0), distinct_push xs r h.1 (or_parts (same r x) (list_any (same r) xs) k).1)

  pub distinct_pushed : (xs : List A) (r : A) → Distinct same xs → Distinct same (if list_any (same r) xs then xs else xs ++ r ∷ [])
  distinct_pushed xs r h = by_test (list_any (same r) xs) refl
    where
      by_test : (b : Bool) → list_any (same r) xs ≡ b → Distinct same (if b then xs else xs ++ r ∷ [])
      by_test true e = h
      by_test false e = distinct_push xs r h e

  pub distinct_if : (b : Bool) (xs ys : List A) → Distinct same xs → Distinct same ys → Distinct same (if b then xs else ys)
  distinct_if true xs ys h k = h
  distinct_if false xs ys h k = k

  none_in : (done : List A) (r : A) (rest : List A) → Distinct same (done ++ r ∷ rest) → list_any (same r) done ≡ false
  none_in [] r rest h = refl
  none_in (x ∷ done) r rest h = or_from (same r x) (list_any (same r) done) (symmetric r x ∙ any_at (same x) done r rest h.0) (none_in done r rest h.1)

  -- a row that comes isn't there yet
  pub none_at : (all done : List A) (r : A) (rest : List A) → done ++ r ∷ rest ≡ all → Distinct same all → list_any (same r) done ≡ false
  none_at all done r rest e h = none_in done r rest (subst (Distinct same) (sym e) h)

pub all_pushed : {A : Type 0} (P : A → Type 0) (there : Bool) (xs : List A) (r : A) → AllByRecursion P xs → P r → AllByRecursion P (if there then xs else xs ++ r ∷ [])
all_pushed P true xs r h k = h
all_pushed P false xs r h k = all_push P xs r h k

-- What tests say of numbers that differ.
not_below : (a b c : ℕ) → nat_lt a b ≡ true → suc b ≤ c → a ≡ c → ⊥
not_below a b c f k e = grind (arith, nat_tests)

not_same : (a b c : ℕ) → a == b ≡ true → suc b ≤ c → a ≡ c → ⊥
not_same a b c f k e = grind (arith, nat_tests)

not_other : (a b : ℕ) → a == b ≡ false → a ≡ b → ⊥
not_other a b f e = grind (arith, nat_tests)

not_less : (a b c : ℕ) → a == b ≡ true → suc a ≤ c → c ≡ b → ⊥
not_less a b c f k e = grind (arith, nat_tests)

-- Rows that rise.
module _ {A : Type 0} (key : A → ℕ) where
  above : (n : ℕ) (done : List A) (r : A) (rest : List A) → RisesFrom key n (done ++ r ∷ rest) → n ≤ key r
  above n [] r rest h = h.0
  above n (x ∷ done) r rest h = let k = above (suc (key x)) done r rest h.1 in omega (arith, h.0, k)

  -- a row above all others comes last
  put_in : (n : ℕ) (done : List A) (r : A) (rest : List A) (x : A) → RisesFrom key n (done ++ r ∷ rest) → key x ≡ key r → put_by key x done ≡ done ++ x ∷ []
  put_in n [] r rest x h e = refl
  put_in n (y ∷ done) r rest x h e =
      let k : suc (key y) ≤ key r = above (suc (key y)) done r rest h.1 in
      let more : put_by key x done ≡ done ++ x ∷ [] = put_in (suc (key y)) done r rest x h.1 e in
      by_tests (nat_lt (key x) (key y)) (key x == key y) refl refl k more
    where
      by_tests : (b c : Bool) → nat_lt (key x) (key y) ≡ b → key x == key y ≡ c → suc (key y) ≤ key r → put_by key x done ≡ done ++ x ∷ []
          → (if b then x ∷ y ∷ done else if c then x ∷ done else y ∷ put_by key x done) ≡ y ∷ done ++ x ∷ []
      by_tests true c f g k more = absurd (not_below (key x) (key y) (key r) f k e)
      by_tests false true f g k more = absurd (not_same (key x) (key y) (key r) g k e)
      by_tests false false f g k more = ap (λ l. y ∷ l) more

  pub put_last : (all done : List A) (r : A) (rest : List A) (x : A) → done ++ r ∷ rest ≡ all → RisesFrom key 0 all → key x ≡ key r → put_by key x done ≡ done ++ x ∷ []
  put_last all done r rest x e h k = put_in 0 done r rest x (subst (RisesFrom key 0) (sym e) h) k

  -- and is the one that a change of its number finds
  change_in : (f : A → A) (number n : ℕ) (done : List A) (r : A) (rest : List A) (x : A) → RisesFrom key n (done ++ r ∷ rest) → key r ≡ number → key x ≡ number
      → map (λ y. if key y == number then f y else y) (done ++ x ∷ []) ≡ done ++ f x ∷ []
  change_in f number n [] r rest x h e k = by_test (key x == number) refl
    where
      by_test : (b : Bool) → key x == number ≡ b → (if b then f x else x) ∷ [] ≡ f x ∷ []
      by_test true g = refl
      by_test false g = absurd (not_other (key x) number g k)
  change_in f number n (y ∷ done) r rest x h e k =
      let m : suc (key y) ≤ key r = above (suc (key y)) done r rest h.1 in
      let more : map (λ y. if key y == number then f y else y) (done ++ x ∷ []) ≡ done ++ f x ∷ [] = change_in f number (suc (key y)) done r rest x h.1 e k in
      by_test (key y == number) refl m more
    where
      by_test : (b : Bool) → key y == number ≡ b → suc (key y) ≤ key r → map (λ z. if key z == number then f z else z) (done ++ x ∷ []) ≡ done ++ f x ∷ []
          → (if b then f y else y) ∷ map (λ z. if key z == number then f z else z) (done ++ x ∷ []) ≡ y ∷ done ++ f x ∷ []
      by_test true g m more = absurd (not_less (key y) number (key r) g m e)
      by_test false g m more = ap (λ l. y ∷ l) more

  pub change_last : (f : A → A) (number : ℕ) (all done : List A) (r : A) (rest : List A) (x : A) → done ++ r ∷ rest ≡ all → RisesFrom key 0 all → key r ≡ number → key x ≡ number
      → map (λ y. if key y == number then f y else y) (done ++ x ∷ []) ≡ done ++ f x ∷ []
  change_last f number all done r rest x e h k m = change_in f number 0 done r rest x (subst (RisesFrom key 0) (sym e) h) k m
