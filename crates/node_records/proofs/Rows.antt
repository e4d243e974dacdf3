-- The rows of the replay list: one that is replaced, and one more.
use Rattle.std.proofs.Common.{◌≡◌, ℕ, zero, suc, ◌<◌, Bool, true, false, cond, List, [], ◌∷◌, ◌++◌, length, get_or, set, refl, ap, ◌∙◌, sym, subst, arith}
use Rattle.std.specs.Prelude.{◌==◌, ◌||◌, if◌then◌else◌, Option, Some, None, is_some}
use Rattle.std.specs.List.{find, list_any}
use Rattle.std.specs.Option.{option_map}
use Rattle.std.proofs.lemmas.Bool.Decides.{nat_tests}
use Rattle.mesh_base.specs.declared.pair.Pair.{Pair}
use Rattle.mesh_base.specs.declared.pair.Name.{Name}
use Rattle.mesh_base.specs.Pairs.{is_newer, is_expired, newer_of}
use Rattle.store_definitions.specs.Entries.{greatest_with, kept_with, unexpired}
use Rattle.node_records.specs.Tables.{pair_of, IsApart}
use Rattle.record_types.specs.declared.records.StoreRecord.TheVariants as R
use Rattle.node_records.specs.Steps.{KeepsName, KeepsEntries}
use Rattle.node_records.proofs.Entries.{gone, name_more}

pub mapped_some : {A B : Type 0} (f : A → B) (o : Option A) → is_some (option_map f o) ≡ is_some o
mapped_some f None = refl
mapped_some f (Some x) = refl

-- a row is found exactly where some row passes
pub found_any : {A : Type 0} (test : A → Bool) (rows : List A) → is_some (find test rows) ≡ list_any test rows
found_any test [] = refl
found_any test (x ∷ xs) =
    elim (test x) as (λ b. is_some (cond b (Some x) (find test xs)) ≡ (b || list_any test xs)) [
      | true ↦ refl
      | false ↦ found_any test xs
    ]

-- a source without a row has none at any place
pub none_at : (rows : List Name) (k src : ℕ) (d : Name) → pair_of rows src ≡ None → k < length rows → (get_or rows k d).src.0 ≡ src → ⊥
none_at [] k src d none lt e = absurd (omega arith)
none_at (x ∷ xs) zero src d none lt e = absurd (grind (arith, nat_tests))
none_at (x ∷ xs) (suc k) src d none lt e =
    let rest : pair_of xs src ≡ None = grind (arith, nat_tests) in
    none_at xs k src d rest (omega arith) e

-- and no place is its row
pub none_from : (rows : List Name) (src : ℕ) → ((k : ℕ) (d : Name) → k < length rows → (get_or rows k d).src.0 ≡ src → ⊥) → pair_of rows src ≡ None
none_from [] src h = refl
none_from (x ∷ xs) src h =
    let first : x.src.0 ≡ src → ⊥ = λ e. h 0 x (omega arith) e in
    let rest : pair_of xs src ≡ None = none_from xs src (λ k d lt e. h (suc k) d (omega arith) e) in
    grind (arith, nat_tests)

-- the pair at the place of a source's row
pub row_at : (rows : List Name) (i : ℕ) (d : Name) → IsApart rows → i < length rows → pair_of rows (get_or rows i d).src.0 ≡ Some (get_or rows i d).pair
row_at [] i d apart lt = absurd (omega arith)
row_at (x ∷ xs) zero d apart lt = grind (arith, nat_tests)
row_at (x ∷ xs) (suc i) d apart lt =
    let other : x.src.0 ≡ (get_or xs i d).src.0 → ⊥ = λ e. none_at xs i x.src.0 d apart.0 (omega arith) (sym e) in
    let rest : pair_of xs (get_or xs i d).src.0 ≡ Some (get_or xs i d).pair = row_at xs i d apart.1 (omega arith) in
    grind (arith, nat_tests)

-- a row of the same source in its place
pub same_row : (rows : List Name) (i : ℕ) (n d : Name) (src : ℕ) → IsApart rows → i < length rows → (get_or rows i d).src.0 ≡ n.src.0
    → pair_of (set rows i n) src ≡ (if n.src.0 == src then Some n.pair else pair_of rows src)
same_row [] i n d src apart lt e = absurd (omega arith)
same_row (x ∷ xs) zero n d src apart lt e = grind (arith, nat_tests)
same_row (x ∷ xs) (suc i) n d src apart lt e =
    let other : x.src.0 ≡ n.src.0 → ⊥ = λ f. none_at xs i x.src.0 d apart.0 (omega arith) (e ∙ sym f) in
    let rest : pair_of (set xs i n) src ≡ (if n.src.0 == src then Some n.pair else pair_of xs src) = same_row xs i n d src apart.1 (omega arith) e in
    grind (arith, nat_tests)

pub same_row_apart : (rows : List Name) (i : ℕ) (n d : Name) → IsApart rows → i < length rows → (get_or rows i d).src.0 ≡ n.src.0 → IsApart (set rows i n)
same_row_apart [] i n d apart lt e = absurd (omega arith)
same_row_apart (x ∷ xs) zero n d apart lt e = (subst (λ s. pair_of xs s ≡ None) e apart.0, apart.1)
same_row_apart (x ∷ xs) (suc i) n d apart lt e =
    let other : x.src.0 ≡ n.src.0 → ⊥ = λ f. none_at xs i x.src.0 d apart.0 (omega arith) (e ∙ sym f) in
    let formula = same_row xs i n d x.src.0 apart.1 (omega arith) e in
    let first : pair_of (set xs i n) x.src.0 ≡ None = let none = apart.0 in grind (arith, nat_tests) in
    (first, same_row_apart xs i n d apart.1 (omega arith) e)

-- one row more
pub new_row : (rows : List Name) (n : Name) (src : ℕ) → pair_of rows n.src.0 ≡ None
    → pair_of (rows ++ n ∷ []) src ≡ (if n.src.0 == src then Some n.pair else pair_of rows src)
new_row [] n src none = refl
new_row (x ∷ xs) n src none =
    let new : x.src.0 ≡ n.src.0 → ⊥ = λ e. none_at (x ∷ xs) 0 n.src.0 n none (omega arith) e in
    let rest_none : pair_of xs n.src.0 ≡ None = grind (arith, nat_tests) in
    let rest = new_row xs n src rest_none in
    grind (arith, nat_tests)

pub new_row_apart : (rows : List Name) (n : Name) → IsApart rows → pair_of rows n.src.0 ≡ None → IsApart (rows ++ n ∷ [])
new_row_apart [] n apart none = (refl, tt)
new_row_apart (x ∷ xs) n apart none =
    let new : x.src.0 ≡ n.src.0 → ⊥ = λ e. none_at (x ∷ xs) 0 n.src.0 n none (omega arith) e in
    let rest_none : pair_of xs n.src.0 ≡ None = grind (arith, nat_tests) in
    let formula = new_row xs n x.src.0 rest_none in
    let own : pair_of xs x.src.0 ≡ None = apart.0 in
    let first : pair_of (xs ++ n ∷ []) x.src.0 ≡ None = grind (arith, nat_tests) in
    (first, new_row_apart xs n apart.1 rest_none)

-- Each way in which a Replay record changes the rows keeps the entries.

same_number : (a b : ℕ) → a == b ≡ true → a ≡ b
same_number a b h = grind (arith, nat_tests)

stay_by : (b : Bool) (x : Option Pair) (n p : Pair) → (b ≡ true → x ≡ Some p) → newer_of p n ≡ p → x ≡ (if b then greatest_with x n else x)
stay_by false x n p h e = refl
stay_by true x n p h e = let f : x ≡ Some p = h refl in rw f (ap (λ (q : Pair). Some q) (sym e))

raise_by : (b : Bool) (x : Option Pair) (n p : Pair) → (b ≡ true → x ≡ Some p) → newer_of p n ≡ n
    → (if b then Some n else x) ≡ (if b then greatest_with x n else x)
raise_by false x n p h e = refl
raise_by true x n p h e = let f : x ≡ Some p = h refl in rw f (ap (λ (q : Pair). Some q) (sym e))

add_by : (b : Bool) (x : Option Pair) (n : Pair) → (b ≡ true → x ≡ None) → (if b then Some n else x) ≡ (if b then greatest_with x n else x)
add_by false x n h = refl
add_by true x n h = let f : x ≡ None = h refl in rw f refl

replace_by : (b c : Bool) (current : ℕ) (x : Option Pair) (n q : Pair) → (b ≡ true → x ≡ None) → (c ≡ true → x ≡ Some q) → is_expired current q ≡ true
    → unexpired current (if b then Some n else if c then None else x) ≡ unexpired current (if b then greatest_with x n else x)
replace_by true c current x n q h k e = let f : x ≡ None = h refl in rw f refl
replace_by false true current x n q h k e = let f : x ≡ Some q = k refl in rw f (sym (gone current q e))
replace_by false false current x n q h k e = refl

-- a name that isn't above its source's row
pub keeps_same : (current : ℕ) (rows : List Name) (i : ℕ) (n d : Name) → IsApart rows → i < length rows → (get_or rows i d).src.0 ≡ n.src.0
    → is_newer n.pair (get_or rows i d).pair ≡ false → KeepsName current rows rows n
keeps_same current rows i n d apart lt e older =
    let here : pair_of rows n.src.0 ≡ Some (get_or rows i d).pair = rw (← e) (row_at rows i d apart lt) in
    let kept : newer_of (get_or rows i d).pair n.pair ≡ (get_or rows i d).pair = rw older refl in
    record {
      apart = apart;
      entries = λ src. ap (unexpired current) (stay_by (n.src.0 == src) (pair_of rows src) n.pair (get_or rows i d).pair
          (λ t. subst (λ s. pair_of rows s ≡ Some (get_or rows i d).pair) (same_number n.src.0 src t) here) kept);
    }

-- a name that is above it
pub keeps_raised : (current : ℕ) (rows : List Name) (i : ℕ) (n d : Name) → IsApart rows → i < length rows → (get_or rows i d).src.0 ≡ n.src.0
    → is_newer n.pair (get_or rows i d).pair ≡ true → KeepsName current rows (set rows i n) n
keeps_raised current rows i n d apart lt e newer =
    let here : pair_of rows n.src.0 ≡ Some (get_or rows i d).pair = rw (← e) (row_at rows i d apart lt) in
    let kept : newer_of (get_or rows i d).pair n.pair ≡ n.pair = rw newer refl in
    record {
      apart = same_row_apart rows i n d apart lt e;
      entries = λ src. ap (unexpired current) (same_row rows i n d src apart lt e
          ∙ raise_by (n.src.0 == src) (pair_of rows src) n.pair (get_or rows i d).pair
          (λ t. subst (λ s. pair_of rows s ≡ Some (get_or rows i d).pair) (same_number n.src.0 src t) here) kept);
    }

-- a name of a source without a row, where every other source keeps its own
pub keeps_new : (current : ℕ) (rows new : List Name) (n : Name) → IsApart new → pair_of rows n.src.0 ≡ None
    → ((src : ℕ) → pair_of new src ≡ (if n.src.0 == src then Some n.pair else pair_of rows src)) → KeepsName current rows new n
keeps_new current rows new n apart none pairs = record {
  apart = apart;
  entries = λ src. ap (unexpired current) (pairs src
      ∙ add_by (n.src.0 == src) (pair_of rows src) n.pair (λ t. subst (λ s. pair_of rows s ≡ None) (same_number n.src.0 src t) none));
}

-- and in the place of an expired row
pub keeps_other : (current : ℕ) (rows new : List Name) (i : ℕ) (n d : Name) → IsApart rows → IsApart new → i < length rows → pair_of rows n.src.0 ≡ None
    → is_expired current (get_or rows i d).pair ≡ true
    → ((src : ℕ) → pair_of new src ≡ (if n.src.0 == src then Some n.pair else if (get_or rows i d).src.0 == src then None else pair_of rows src)) → KeepsName current rows new n
keeps_other current rows new i n d apart after lt none old pairs =
    let here : pair_of rows (get_or rows i d).src.0 ≡ Some (get_or rows i d).pair = row_at rows i d apart lt in
    record {
      apart = after;
      entries = λ src. ap (unexpired current) (pairs src)
          ∙ replace_by (n.src.0 == src) ((get_or rows i d).src.0 == src) current (pair_of rows src) n.pair (get_or rows i d).pair
          (λ t. subst (λ s. pair_of rows s ≡ None) (same_number n.src.0 src t) none)
          (λ t. subst (λ s. pair_of rows s ≡ Some (get_or rows i d).pair) (same_number (get_or rows i d).src.0 src t) here)
          old;
    }

-- The names of a record in their order.

pub keeps_one : (current : ℕ) (a b : List Name) (first : Name) → KeepsName current a b first → KeepsEntries current a b (R.Replay first None)
keeps_one current a b first k = record { apart = k.apart; entries = k.entries }

pub keeps_two : (current : ℕ) (a b c : List Name) (first second : Name) → KeepsName current a b first → KeepsName current b c second → KeepsEntries current a c (R.Replay first (Some second))
keeps_two current a b c first second k h = record {
  apart = h.apart;
  entries = λ src. h.entries src ∙ name_more current src (pair_of b src) (kept_with src (pair_of a src) first) second (k.entries src);
}

-- The first row of a source is its row.
pub row_first : (rows : List Name) (i src : ℕ) (d : Name) → i < length rows → ((k : ℕ) (d : Name) → k < i → (get_or rows k d).src.0 ≡ src → ⊥)
    → (get_or rows i d).src.0 ≡ src → pair_of rows src ≡ Some (get_or rows i d).pair
row_first [] i src d lt before here = absurd (omega arith)
row_first (x ∷ xs) zero src d lt before here = grind (arith, nat_tests)
row_first (x ∷ xs) (suc i) src d lt before here =
    let other : x.src.0 ≡ src → ⊥ = λ e. before 0 x (omega arith) e in
    let rest : pair_of xs src ≡ Some (get_or xs i d).pair = row_first xs i src d (omega arith) (λ k e lt f. before (suc k) e (omega arith) f) here in
    grind (arith, nat_tests)
