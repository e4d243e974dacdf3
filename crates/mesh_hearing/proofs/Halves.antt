-- A source found by halves among names whose sources rise.
use Rattle.std.proofs.Common.{Equal, Greater, Less, ◌≡◌, ℕ, zero, suc, ◌+◌, ◌≤◌, ◌<◌, Bool, true, false, ◌||◌, List, [], ◌∷◌, length, refl, ap, sym, ◌∙◌, arith}
use Rattle.std.specs.Prelude.{◌==◌, Err, IfErr, IfOk, Ok, Result, insert, nat_lt, slice_index_or, slice_set}
use Rattle.std.specs.List.{list_any}
use Rattle.std.specs.List.Sorted.{IsBinarySearchResult, IsNonDecreasingBy, IsSearchInRange}
use Rattle.std.specs.Ordering.{nat_cmp, ordering_index}
use Rattle.std.proofs.lemmas.Bool.Decides.{nat_tests}
use Rattle.mesh_base.specs.declared.pair.Name.{Name}
use Rattle.layer_states.specs.Names.{is_name}
use Rattle.mesh_hearing.specs.Again.{IsRising, name_with, newer_name}

at_least : (least : ℕ) (names : List Name) (j : ℕ) (d : Name) → IsRising least names → j < length names → least ≤ (slice_index_or names j d).src.0
at_least least [] j d r l = absurd (omega (arith, l))
at_least least (m ∷ ms) zero d (h, r) l = h
at_least least (m ∷ ms) (suc j) d (h, r) l = omega (arith, h, at_least (m.src.0 + 1) ms j d r (omega (arith, l)))

rising_le : (least : ℕ) (names : List Name) (i j : ℕ) (d : Name) → IsRising least names → i ≤ j → j < length names
    → (slice_index_or names i d).src.0 ≤ (slice_index_or names j d).src.0
rising_le least [] i j d r h l = absurd (omega (arith, l))
rising_le least (m ∷ ms) zero zero d (f, r) h l = omega arith
rising_le least (m ∷ ms) zero (suc j) d (f, r) h l = omega (arith, at_least (m.src.0 + 1) ms j d r (omega (arith, l)))
rising_le least (m ∷ ms) (suc i) zero d (f, r) h l = absurd (omega (arith, h))
rising_le least (m ∷ ms) (suc i) (suc j) d (f, r) h l = rising_le (m.src.0 + 1) ms i j d r (omega (arith, h)) (omega (arith, l))

order_le : (a b src : ℕ) → a ≤ b → ordering_index (nat_cmp a src) ≤ ordering_index (nat_cmp b src)
order_le a b src l = grind (arith, nat_tests)

rising_order : (names : List Name) (src : ℕ) → IsRising 0 names → IsNonDecreasingBy (λ (y : Name). ordering_index (nat_cmp y.src.0 src)) names
rising_order names src r = λ i j d h l. order_le _ _ src (rising_le 0 names i j d r h l)

-- What the search answers.

abbrev pub IsFound : List Name → ℕ → ℕ → Type 0
IsFound names src i = (i < length names) × ((d : Name) → (slice_index_or names i d).src.0 ≡ src)

abbrev pub IsMissing : List Name → ℕ → ℕ → Type 0
IsMissing names src i =
    ((k : ℕ) (d : Name) → k < i → (slice_index_or names k d).src.0 < src)
    × ((k : ℕ) (d : Name) → i ≤ k → k < length names → src < (slice_index_or names k d).src.0)

equal : (a b : ℕ) → nat_cmp a b ≡ Equal → a ≡ b
equal a b e = grind (arith, nat_tests)

less : (a b : ℕ) → nat_cmp a b ≡ Less → a < b
less a b e = grind (arith, nat_tests)

greater : (a b : ℕ) → nat_cmp a b ≡ Greater → b < a
greater a b e = grind (arith, nat_tests)

pub found_by : (names : List Name) (src : ℕ) (r : Result ℕ ℕ) → IsSearchInRange r (length names) → IsBinarySearchResult (λ (y : Name). nat_cmp y.src.0 src) names r
    → IfOk r (IsFound names src)
found_by names src (Ok i) within by = (within, λ d. equal _ src (by d))
found_by names src (Err i) within by = tt

pub missing_by : (names : List Name) (src : ℕ) (r : Result ℕ ℕ) → IsBinarySearchResult (λ (y : Name). nat_cmp y.src.0 src) names r → IsRising 0 names
    → IfErr r (IsMissing names src)
missing_by names src (Ok i) by r = tt
missing_by names src (Err i) by r =
    let at = by (rising_order names src r) in
    ((λ k d l. less _ src (at.0 k d (omega arith) l)), (λ k d h l. greater _ src (at.1 k d h l)))

-- Whether a name is among them.

other_name : (n m : Name) → (n.src.0 ≡ m.src.0 → ⊥) → is_name n m ≡ false
other_name n m h = grind (arith, nat_tests)

or_left : (a b : Bool) → b ≡ false → (a || b) ≡ a
or_left true b e = refl
or_left false b e = e

or_right : (a b : Bool) → a ≡ false → (a || b) ≡ b
or_right a b e = ap (λ c. c || b) e

none_above : (least : ℕ) (names : List Name) (n : Name) → IsRising least names → n.src.0 < least → list_any (is_name n) names ≡ false
none_above least [] n r l = refl
none_above least (m ∷ ms) n (h, r) l =
    or_right (is_name n m) (list_any (is_name n) ms) (other_name n m (λ e. omega (arith, e, h, l))) ∙ none_above (m.src.0 + 1) ms n r (omega (arith, h, l))

has_from : (least : ℕ) (names : List Name) (n : Name) (i : ℕ) (d : Name) → IsRising least names → i < length names → (slice_index_or names i d).src.0 ≡ n.src.0
    → list_any (is_name n) names ≡ is_name n (slice_index_or names i d)
has_from least [] n i d r l e = absurd (omega (arith, l))
has_from least (m ∷ ms) n zero d (h, r) l e = or_left (is_name n m) (list_any (is_name n) ms) (none_above (m.src.0 + 1) ms n r (omega (arith, e)))
has_from least (m ∷ ms) n (suc j) d (h, r) l e =
    let above = at_least (m.src.0 + 1) ms j d r (omega (arith, l)) in
    or_right (is_name n m) (list_any (is_name n) ms) (other_name n m (λ f. omega (arith, e, f, above)))
    ∙ has_from (m.src.0 + 1) ms n j d r (omega (arith, l)) e

pub has_found : (names : List Name) (n : Name) (i : ℕ) (d : Name) → IsFound names n.src.0 i → IsRising 0 names
    → is_name n (slice_index_or names i d) ≡ list_any (is_name n) names
has_found names n i d (l, at) r = sym (has_from 0 names n i d r l (at d))

lacks : (names : List Name) (n : Name) → ((k : ℕ) (d : Name) → k < length names → (slice_index_or names k d).src.0 ≡ n.src.0 → ⊥) → list_any (is_name n) names ≡ false
lacks [] n h = refl
lacks (m ∷ ms) n h =
    or_right (is_name n m) (list_any (is_name n) ms) (other_name n m (λ e. h zero m (omega arith) (sym e)))
    ∙ lacks ms n (λ k d l e. h (suc k) d (omega (arith, l)) e)

pub has_missing : (names : List Name) (n : Name) (i : ℕ) → IsMissing names n.src.0 i → false ≡ list_any (is_name n) names
has_missing names n i (before, behind) = sym (lacks names n (λ k d l e. clash k d l e))
  where
    clash : (k : ℕ) (d : Name) → k < length names → (slice_index_or names k d).src.0 ≡ n.src.0 → ⊥
    clash k d l e = side (nat_lt k i) refl
      where
        side : (t : Bool) → nat_lt k i ≡ t → ⊥
        side true f = omega (arith, e, before k d (grind (arith, nat_tests)))
        side false f = omega (arith, e, behind k d (grind (arith, nat_tests)) l)

-- A name put among them.

put_front : (m n : Name) (ms : List Name) → n.src.0 < m.src.0 → n ∷ m ∷ ms ≡ name_with (m ∷ ms) n
put_front m n ms l =
    let first : nat_lt m.src.0 n.src.0 ≡ false = grind (arith, nat_tests) in
    let second : (m.src.0 == n.src.0) ≡ false = grind (arith, nat_tests) in
    rw (first, second) refl

put_behind : (m n : Name) (ms : List Name) → m.src.0 < n.src.0 → m ∷ name_with ms n ≡ name_with (m ∷ ms) n
put_behind m n ms l =
    let first : nat_lt m.src.0 n.src.0 ≡ true = grind (arith, nat_tests) in
    rw first refl

put_here : (m n : Name) (ms : List Name) → m.src.0 ≡ n.src.0 → newer_name m n ∷ ms ≡ name_with (m ∷ ms) n
put_here m n ms e =
    let first : nat_lt m.src.0 n.src.0 ≡ false = grind (arith, nat_tests) in
    let second : (m.src.0 == n.src.0) ≡ true = grind (arith, nat_tests) in
    rw (first, second) refl

put_from : (least : ℕ) (names : List Name) (n : Name) (i : ℕ) (d : Name) → IsRising least names → i < length names → (slice_index_or names i d).src.0 ≡ n.src.0
    → slice_set names i (newer_name (slice_index_or names i d) n) ≡ name_with names n
put_from least [] n i d r l e = absurd (omega (arith, l))
put_from least (m ∷ ms) n zero d (h, r) l e = put_here m n ms e
put_from least (m ∷ ms) n (suc j) d (h, r) l e =
    let above = at_least (m.src.0 + 1) ms j d r (omega (arith, l)) in
    ap (λ xs. m ∷ xs) (put_from (m.src.0 + 1) ms n j d r (omega (arith, l)) e) ∙ put_behind m n ms (omega (arith, e, above))

pub put_found : (names : List Name) (n : Name) (i : ℕ) (d : Name) → IsFound names n.src.0 i → IsRising 0 names
    → slice_set names i (newer_name (slice_index_or names i d) n) ≡ name_with names n
put_found names n i d (l, at) r = put_from 0 names n i d r l (at d)

pub put_missing : (names : List Name) (n : Name) (i : ℕ) → i ≤ length names → IsMissing names n.src.0 i → insert names i n ≡ name_with names n
put_missing [] n zero l h = refl
put_missing [] n (suc i) l h = absurd (omega (arith, l))
put_missing (m ∷ ms) n zero l (before, behind) = put_front m n ms (behind zero m (omega arith) (omega arith))
put_missing (m ∷ ms) n (suc i) l (before, behind) =
    ap (λ xs. m ∷ xs) (put_missing ms n i (omega (arith, l)) ((λ k d f. before (suc k) d (omega (arith, f))), (λ k d f g. behind (suc k) d (omega (arith, f)) (omega (arith, g)))))
    ∙ put_behind m n ms (before zero m (omega arith))
