-- The rows of the replay list stand by their sources, and go on doing so: a row put in its place, one that is raised and one that goes.
use Rattle.std.proofs.Common.{◌≡◌, ℕ, zero, suc, ◌+◌, ◌<◌, ◌≤◌, Bool, true, false, List, [], ◌∷◌, length, get_or, set, insert, remove, refl, ap, ◌∙◌, sym, arith}
use Rattle.std.specs.Prelude.{◌==◌, if◌then◌else◌, Option, Some, None, Result, Ok, Err, OnOk, OnErr}
use Rattle.std.proofs.lemmas.Bool.Decides.{nat_tests}
use Rattle.mesh_base.specs.declared.pair.Pair.{Pair}
use Rattle.mesh_base.specs.declared.pair.Name.{Name}
use Rattle.node_records.specs.Sources.{RisesFrom, StandsBySource}
use Rattle.node_records.specs.Tables.{pair_of, IsApart}

weaker : (m n : ℕ) (rows : List Name) → m ≤ n → RisesFrom n rows → RisesFrom m rows
weaker m n [] le rises = tt
weaker m n (row ∷ rows) le rises = (omega (arith, le, rises.0), rises.1)

-- a row isn't below the number from which its list rises
above : (n : ℕ) (rows : List Name) (k : ℕ) (d : Name) → RisesFrom n rows → k < length rows → n ≤ (get_or rows k d).src.0
above n [] k d rises lt = absurd (omega arith)
above n (row ∷ rows) zero d rises lt = rises.0
above n (row ∷ rows) (suc k) d rises lt = omega (arith, rises.0, above (row.src.0 + 1) rows k d rises.1 (omega arith))

-- of two rows the one behind has the greater source
rising : (n : ℕ) (rows : List Name) (i k : ℕ) (d : Name) → RisesFrom n rows → i < k → k < length rows → (get_or rows i d).src.0 < (get_or rows k d).src.0
rising n [] i k d rises lt few = absurd (omega arith)
rising n (row ∷ rows) i zero d rises lt few = absurd (omega arith)
rising n (row ∷ rows) zero (suc k) d rises lt few = omega (arith, above (row.src.0 + 1) rows k d rises.1 (omega arith))
rising n (row ∷ rows) (suc i) (suc k) d rises lt few = rising (row.src.0 + 1) rows i k d rises.1 (omega arith) (omega arith)

pub behind : (rows : List Name) (i k : ℕ) (d : Name) → StandsBySource rows → i < k → k < length rows → (get_or rows i d).src.0 < (get_or rows k d).src.0
behind rows i k d order lt few = rising 0 rows i k d order lt few

-- a source below that number has no row
none_below : (n : ℕ) (rows : List Name) (src : ℕ) → RisesFrom n rows → src < n → pair_of rows src ≡ None
none_below n [] src rises lt = refl
none_below n (row ∷ rows) src rises lt =
    let rest : pair_of rows src ≡ None = none_below (row.src.0 + 1) rows src rises.1 (omega (arith, rises.0)) in
    let least : n ≤ row.src.0 = rises.0 in
    grind (arith, nat_tests)

apart_from : (n : ℕ) (rows : List Name) → RisesFrom n rows → IsApart rows
apart_from n [] rises = tt
apart_from n (row ∷ rows) rises = (none_below (row.src.0 + 1) rows row.src.0 rises.1 (omega arith), apart_from (row.src.0 + 1) rows rises.1)

-- so no source has two rows
pub apart_by_source : (rows : List Name) → StandsBySource rows → IsApart rows
apart_by_source rows order = apart_from 0 rows order

-- A row of the same source in the place of another.

set_from : (n : ℕ) (rows : List Name) (i : ℕ) (x d : Name) → RisesFrom n rows → i < length rows → (get_or rows i d).src.0 ≡ x.src.0 → RisesFrom n (set rows i x)
set_from n [] i x d rises lt e = absurd (omega arith)
set_from n (row ∷ rows) zero x d rises lt e = (omega (arith, rises.0, e), weaker (x.src.0 + 1) (row.src.0 + 1) rows (omega (arith, e)) rises.1)
set_from n (row ∷ rows) (suc i) x d rises lt e = (rises.0, set_from (row.src.0 + 1) rows i x d rises.1 (omega arith) e)

pub set_stands : (rows : List Name) (i : ℕ) (x d : Name) → StandsBySource rows → i < length rows → (get_or rows i d).src.0 ≡ x.src.0 → StandsBySource (set rows i x)
set_stands rows i x d order lt e = set_from 0 rows i x d order lt e

-- A row put before the first one of a greater source.

insert_from : (n : ℕ) (rows : List Name) (i : ℕ) (x d : Name) → RisesFrom n rows → n ≤ x.src.0 → i ≤ length rows
    → ((k : ℕ) → k < i → (get_or rows k d).src.0 < x.src.0) → ((k : ℕ) → i ≤ k → k < length rows → x.src.0 < (get_or rows k d).src.0) → RisesFrom n (insert rows i x)
insert_from n [] zero x d rises least le before there = (least, tt)
insert_from n [] (suc i) x d rises least le before there = absurd (omega arith)
insert_from n (row ∷ rows) zero x d rises least le before there =
    let greater : x.src.0 < row.src.0 = there 0 (omega arith) (omega arith) in
    (least, (omega (arith, greater), rises.1))
insert_from n (row ∷ rows) (suc i) x d rises least le before there = (
  rises.0,
  insert_from (row.src.0 + 1) rows i x d rises.1 (let less : row.src.0 < x.src.0 = before 0 (omega arith) in omega (arith, less)) (omega arith)
      (λ k lt. before (suc k) (omega arith)) (λ k lt few. there (suc k) (omega arith) (omega arith)),
)

pub insert_stands : (rows : List Name) (i : ℕ) (x d : Name) → StandsBySource rows → i ≤ length rows
    → ((k : ℕ) → k < i → (get_or rows k d).src.0 < x.src.0) → ((k : ℕ) → i ≤ k → k < length rows → x.src.0 < (get_or rows k d).src.0) → StandsBySource (insert rows i x)
insert_stands rows i x d order le before there = insert_from 0 rows i x d order (omega arith) le before there

pub insert_pairs : (rows : List Name) (i : ℕ) (x : Name) (src : ℕ) → i ≤ length rows → pair_of rows x.src.0 ≡ None
    → pair_of (insert rows i x) src ≡ (if x.src.0 == src then Some x.pair else pair_of rows src)
insert_pairs [] zero x src le none = refl
insert_pairs [] (suc i) x src le none = absurd (omega arith)
insert_pairs (row ∷ rows) zero x src le none = refl
insert_pairs (row ∷ rows) (suc i) x src le none =
    let here = none in
    let rest_none : pair_of rows x.src.0 ≡ None = grind (arith, nat_tests) in
    let rest : pair_of (insert rows i x) src ≡ (if x.src.0 == src then Some x.pair else pair_of rows src) = insert_pairs rows i x src (omega arith) rest_none in
    let other : row.src.0 ≡ x.src.0 → ⊥ = λ e. (grind (arith, nat_tests)) in
    grind (arith, nat_tests)

-- A row that goes.

remove_from : (n : ℕ) (rows : List Name) (i : ℕ) → RisesFrom n rows → i < length rows → RisesFrom n (remove rows i)
remove_from n [] i rises lt = absurd (omega arith)
remove_from n (row ∷ rows) zero rises lt = weaker n (row.src.0 + 1) rows (omega (arith, rises.0)) rises.1
remove_from n (row ∷ rows) (suc i) rises lt = (rises.0, remove_from (row.src.0 + 1) rows i rises.1 (omega arith))

pub remove_stands : (rows : List Name) (i : ℕ) → StandsBySource rows → i < length rows → StandsBySource (remove rows i)
remove_stands rows i order lt = remove_from 0 rows i order lt

remove_pairs_from : (n : ℕ) (rows : List Name) (i : ℕ) (d : Name) (src : ℕ) → RisesFrom n rows → i < length rows
    → pair_of (remove rows i) src ≡ (if (get_or rows i d).src.0 == src then None else pair_of rows src)
remove_pairs_from n [] i d src rises lt = absurd (omega arith)
remove_pairs_from n (row ∷ rows) zero d src rises lt = by_test (row.src.0 == src) refl
  where
    same : row.src.0 == src ≡ true → src < row.src.0 + 1
    same h = grind (arith, nat_tests)

    by_test : (b : Bool) → row.src.0 == src ≡ b → pair_of rows src ≡ (if b then None else if b then Some row.pair else pair_of rows src)
    by_test true e = none_below (row.src.0 + 1) rows src rises.1 (same e)
    by_test false e = refl
remove_pairs_from n (row ∷ rows) (suc i) d src rises lt =
    let rest : pair_of (remove rows i) src ≡ (if (get_or rows i d).src.0 == src then None else pair_of rows src) = remove_pairs_from (row.src.0 + 1) rows i d src rises.1 (omega arith) in
    let greater : row.src.0 < (get_or rows i d).src.0 = omega (arith, above (row.src.0 + 1) rows i d rises.1 (omega arith)) in
    grind (arith, nat_tests)

pub remove_pairs : (rows : List Name) (i : ℕ) (d : Name) (src : ℕ) → StandsBySource rows → i < length rows
    → pair_of (remove rows i) src ≡ (if (get_or rows i d).src.0 == src then None else pair_of rows src)
remove_pairs rows i d src order lt = remove_pairs_from 0 rows i d src order lt

-- as a search by halving asks it
not_above : (n : ℕ) (rows : List Name) (i j : ℕ) (d : Name) → RisesFrom n rows → i ≤ j → j < length rows → (get_or rows i d).src.0 ≤ (get_or rows j d).src.0
not_above n [] i j d rises le lt = absurd (omega arith)
not_above n (row ∷ rows) zero zero d rises le lt = omega arith
not_above n (row ∷ rows) zero (suc j) d rises le lt = omega (arith, above (row.src.0 + 1) rows j d rises.1 (omega arith))
not_above n (row ∷ rows) (suc i) zero d rises le lt = absurd (omega arith)
not_above n (row ∷ rows) (suc i) (suc j) d rises le lt = not_above (row.src.0 + 1) rows i j d rises.1 (omega arith) (omega arith)

pub non_decreasing : (rows : List Name) → StandsBySource rows → (i j : ℕ) (d : Name) → i ≤ j → j < length rows → (get_or rows i d).src.0 ≤ (get_or rows j d).src.0
non_decreasing rows order i j d le lt = not_above 0 rows i j d order le lt

-- A row that is put in, where there is a place for it.

pub put_order : {E : Type 0} (r : Result Unit E) (rows new : List Name) (i : ℕ) (n : Name) → OnOk r (new ≡ insert rows i n) → OnErr r (new ≡ rows) → StandsBySource rows
    → StandsBySource (insert rows i n) → StandsBySource new
put_order (Ok x) rows new i n e f old put = rw e put
put_order (Err x) rows new i n e f old put = rw f old

pub put_pairs : {E : Type 0} (r : Result Unit E) (rows new : List Name) (i : ℕ) (n : Name) → OnOk r (new ≡ insert rows i n) → i ≤ length rows → pair_of rows n.src.0 ≡ None
    → OnOk r ((src : ℕ) → pair_of new src ≡ (if n.src.0 == src then Some n.pair else pair_of rows src))
put_pairs (Ok x) rows new i n e le none = λ src. rw e (insert_pairs rows i n src le none)
put_pairs (Err x) rows new i n e le none = tt

none_left : (b : Bool) (x : Option Pair) → x ≡ None → (if b then None else x) ≡ None
none_left true x e = refl
none_left false x e = e

-- a source without a row has none when another row goes
pub none_removed : (rows : List Name) (i : ℕ) (n : Name) → StandsBySource rows → i < length rows → pair_of rows n.src.0 ≡ None → pair_of (remove rows i) n.src.0 ≡ None
none_removed rows i n order lt none =
    remove_pairs rows i n n.src.0 order lt ∙ none_left ((get_or rows i n).src.0 == n.src.0) (pair_of rows n.src.0) none

-- a source that isn't at the first place of one that isn't below it has no row
pub no_row : (rows : List Name) (i src : ℕ) → StandsBySource rows → ((k : ℕ) (d : Name) → k < i → (get_or rows k d).src.0 < src)
    → ((k : ℕ) (d : Name) → i ≤ k → k < length rows → src ≤ (get_or rows k d).src.0) → ((d : Name) → i < length rows → (get_or rows i d).src.0 ≡ src → ⊥)
    → (k : ℕ) (d : Name) → k < length rows → (get_or rows k d).src.0 ≡ src → ⊥
no_row rows i src order before there other k d lt e =
    let not_before : k < i → ⊥ = λ h. let b = before k d h in omega (arith, b, e) in
    let not_behind : i < k → ⊥ = λ h. let b = behind rows i k d order h lt in let t = there i d (omega arith) (omega arith) in omega (arith, b, t, e) in
    let same : k ≡ i = omega (arith, not_before, not_behind) in
    other d (omega (arith, same, lt)) (ap (λ n. (get_or rows n d).src.0) (sym same) ∙ e)
