-- Lists of records are passed, one after another.
use Rattle.std.proofs.Common.{◌≡◌, ℕ, zero, suc, ◌+◌, ◌-◌, ◌*◌, ◌<◌, ◌≤◌, List, [], ◌∷◌, ◌++◌, length, get_or, drop, map, Option, Some, None, Result, Ok, Err, refl, sym, ap, ◌∙◌, subst, arith}
use Rattle.std.specs.Prelude.{All, IsErrAnd, slice_get}
use Rattle.std.specs.List.{flat_map, range_with_len}
use Rattle.std.specs.Option.{option_copied, option_map}
use Rattle.std.specs.Slice.{IsItemAt}
use Rattle.std.proofs.Common.{Bor}
use Rattle.std.proofs.lemmas.List.{at_drop_more, at_drop_all}
use Rattle.std.proofs.lemmas.Option.{get_or_from_slice_get, slice_get-map, slice_get_past, slice_get_read, slice_get_within}
use Rattle.mesh_base.specs.declared.pair.Name.{Name}
use Rattle.mesh_base.specs.declared.slot.Slot.{Slot}
use Rattle.record_types.specs.declared.records.StoreRecord.{StoreRecord}
use Rattle.record_types.specs.declared.records.StoreRecord.TheVariants as R
use Rattle.store_definitions.specs.Recovered.{record_text}
use Rattle.node_snapshot.specs.Parts.{replay_records}
use Rattle.node_snapshot.specs.Passing.{passed}

-- the two answers, with their type
abbrev pub left_of : ℕ → Result ℕ StoreRecord
left_of n = Ok n

abbrev pub found_of : StoreRecord → Result ℕ StoreRecord
found_of r = Err r

not_found : (n : ℕ) (r : StoreRecord) → left_of n ≡ found_of r → ⊥
not_found n r e = cc

not_left : (r : StoreRecord) (n : ℕ) → found_of r ≡ left_of n → ⊥
not_left r n e = cc

same_left : (n m : ℕ) → left_of n ≡ left_of m → n ≡ m
same_left n m e = cc

same_found : (r s : StoreRecord) → found_of r ≡ found_of s → Some r ≡ Some s
same_found r s e = cc

-- a place behind the first list is one of what follows
pub behind : (xs ys : List StoreRecord) (n m : ℕ) → passed xs n ≡ Ok m → passed (xs ++ ys) n ≡ passed ys m
behind [] ys n m e = ap (passed ys) (same_left n m e)
behind (x ∷ xs) ys zero m e = absurd (not_left x m e)
behind (x ∷ xs) ys (suc n) m e = behind xs ys n m e

-- a place in the first list
pub here : (xs ys : List StoreRecord) (n : ℕ) (r : StoreRecord) → passed xs n ≡ Err r → passed (xs ++ ys) n ≡ Err r
here [] ys n r e = absurd (not_found n r e)
here (x ∷ xs) ys zero r e = e
here (x ∷ xs) ys (suc n) r e = here xs ys n r e

-- what is handed on by `?`
pub handed : (result : Result ℕ StoreRecord) (r : StoreRecord) → IsErrAnd result (λ e. e ≡ r) → result ≡ Err r
handed (Ok n) r is = absurd is
handed (Err e) r is = ap found_of is

-- What is in front is behind, and the next list is passed; `given` is what the call was given for it.
pub past : (front xs given : List StoreRecord) (n k m : ℕ) → given ≡ xs → passed front n ≡ Ok k → left_of m ≡ passed given k → passed (front ++ xs) n ≡ Ok m
past front xs given n k m same before e = behind front xs n k before ∙ ap (λ l. passed l k) (sym same) ∙ sym e

-- the record stands in the next one
pub found : (front xs given : List StoreRecord) (n k : ℕ) (r : StoreRecord) → given ≡ xs → passed front n ≡ Ok k → found_of r ≡ passed given k → passed (front ++ xs) n ≡ Err r
found front xs given n k r same before e = behind front xs n k before ∙ ap (λ l. passed l k) (sym same) ∙ sym e

-- what a list has at a place
pub is_here : (xs : List StoreRecord) (n : ℕ) (r : StoreRecord) → passed xs n ≡ Err r → slice_get xs n ≡ Some r
is_here [] n r e = absurd (not_found n r e)
is_here (x ∷ xs) zero r e = same_found x r e
is_here (x ∷ xs) (suc n) r e = is_here xs n r e

pub is_behind : (xs : List StoreRecord) (n m : ℕ) → passed xs n ≡ Ok m → slice_get xs n ≡ None
is_behind [] n m e = refl
is_behind (x ∷ xs) zero m e = absurd (not_left x m e)
is_behind (x ∷ xs) (suc n) m e = is_behind xs n m e

-- rows with some records each
module _ {A : Type 0} (f : A → List StoreRecord) where
  pub rows_behind : (rows : List A) (k : ℕ) (d : A) (n m : ℕ) → k < length rows → passed (f (get_or rows k d)) n ≡ Ok m
      → passed (flat_map f (drop k rows)) n ≡ passed (flat_map f (drop (k + 1) rows)) m
  rows_behind rows k d n m lt e = at_drop_more (λ l. passed (flat_map f l) n) rows k d lt ∙ behind (f (get_or rows k d)) (flat_map f (drop (k + 1) rows)) n m e

  pub rows_here : (rows : List A) (k : ℕ) (d : A) (n : ℕ) (r : StoreRecord) → k < length rows → passed (f (get_or rows k d)) n ≡ Err r
      → passed (flat_map f (drop k rows)) n ≡ Err r
  rows_here rows k d n r lt e = at_drop_more (λ l. passed (flat_map f l) n) rows k d lt ∙ here (f (get_or rows k d)) (flat_map f (drop (k + 1) rows)) n r e

  pub rows_end : (rows : List A) (k n : ℕ) → length rows ≤ k → passed (flat_map f (drop k rows)) n ≡ Ok n
  rows_end rows k n le = at_drop_all (λ l. passed (flat_map f l) n) rows k le

-- rows with one record each
module _ {A : Type 0} (f : A → StoreRecord) where
  pub row_here : (rows : List A) (n : ℕ) (d : A) → n < length rows → passed (flat_map (λ r. f r ∷ []) rows) n ≡ Err (f (get_or rows n d))
  row_here [] n d lt = absurd (omega arith)
  row_here (x ∷ rows) zero d lt = refl
  row_here (x ∷ rows) (suc n) d lt = row_here rows n d (omega arith)

  pub row_behind : (rows : List A) (n : ℕ) → length rows ≤ n → passed (flat_map (λ r. f r ∷ []) rows) n ≡ Ok (n - length rows)
  row_behind [] n le = ap left_of (let e : n ≡ n - 0 = omega arith in e)
  row_behind (x ∷ rows) zero le = absurd (omega arith)
  row_behind (x ∷ rows) (suc n) le = row_behind rows n (omega arith) ∙ ap left_of (let e : n - length rows ≡ suc n - suc (length rows) = omega arith in e)

-- numbers from one on, with some records each
module _ (f : ℕ → List StoreRecord) where
  pub numbers_behind : (a k left n m : ℕ) → passed (f a) n ≡ Ok m → left ≡ suc k → passed (flat_map f (range_with_len a left)) n ≡ passed (flat_map f (range_with_len (a + 1) k)) m
  numbers_behind a k left n m e is = ap (λ l. passed (flat_map f (range_with_len a l)) n) is ∙ behind (f a) (flat_map f (range_with_len (a + 1) k)) n m e

  pub numbers_here : (a k left n : ℕ) (r : StoreRecord) → passed (f a) n ≡ Err r → left ≡ suc k → passed (flat_map f (range_with_len a left)) n ≡ Err r
  numbers_here a k left n r e is = ap (λ l. passed (flat_map f (range_with_len a l)) n) is ∙ here (f a) (flat_map f (range_with_len (a + 1) k)) n r e

  pub numbers_end : (a left n : ℕ) → left ≡ 0 → passed (flat_map f (range_with_len a left)) n ≡ Ok n
  numbers_end a left n is = ap (λ l. passed (flat_map f (range_with_len a l)) n) is

-- the name that is lent is the one at its place
pub copied_at : (names : List Name) (n : ℕ) (lent : Option (Bor Name)) → IsItemAt names n lent → option_copied lent ≡ slice_get names n
copied_at names n None is = sym (slice_get_past names n is.3)
copied_at names n (Some name) is = sym (slice_get_read names (length names) n name.now refl is.3.0 is.1)

-- names, two a record
pub names_here : (names : List Name) (n : ℕ) (d : Name) → 2 * n < length names → passed (replay_records names) n ≡ Err (R.Replay (get_or names (2 * n) d) (slice_get names (2 * n + 1)))
names_here [] n d lt = absurd (omega arith)
names_here (first ∷ []) zero d lt = refl
names_here (first ∷ []) (suc n) d lt = absurd (omega arith)
names_here (first ∷ second ∷ names) zero d lt = refl
names_here (first ∷ second ∷ names) (suc n) d lt =
    let k : 2 * suc n + 1 ≡ suc (suc (2 * n + 1)) = omega arith in
    let e : 2 * suc n ≡ suc (suc (2 * n)) = omega arith in
    rw (k, e) (names_here names n d (omega (arith, lt)))

pub names_stand : (names : List Name) (n : ℕ) (d : Name) (second : Option Name) → second ≡ slice_get names (2 * n + 1) → 2 * n < length names
    → Err (R.Replay (get_or names (2 * n) d) second) ≡ passed (replay_records names) n
names_stand names n d second is lt = ap (λ s. found_of (R.Replay (get_or names (2 * n) d) s)) is ∙ sym (names_here names n d lt)

pub names_behind : (names : List Name) (n count : ℕ) → length names ≤ 2 * n → 2 * count ≤ length names + 1 → length names ≤ 2 * count → passed (replay_records names) n ≡ Ok (n - count)
names_behind [] n count le few many = ap left_of (let e : n ≡ n - count = omega (arith, few, many) in e)
names_behind (first ∷ []) zero count le few many = absurd (omega arith)
names_behind (first ∷ []) (suc n) count le few many = ap left_of (let e : n ≡ suc n - count = omega (arith, few, many) in e)
names_behind (first ∷ second ∷ names) zero count le few many = absurd (omega arith)
names_behind (first ∷ second ∷ names) (suc n) count le few many =
    names_behind names n (count - 1) (omega (arith, le)) (omega (arith, few, many)) (omega (arith, many))
    ∙ ap left_of (let e : n - (count - 1) ≡ suc n - count = omega (arith, few, many) in e)

-- the slots of records, at a place
pub slot_here : (records : List StoreRecord) (slots : List Slot) (n : ℕ) (r : StoreRecord) → map record_text records ≡ slots → passed records n ≡ Err r → Some (record_text r) ≡ slice_get slots n
slot_here records slots n r are e =
    sym (ap (λ l. slice_get l n) (sym are) ∙ slice_get-map record_text records n ∙ ap (option_map record_text) (is_here records n r e))

pub slot_behind : (records : List StoreRecord) (slots : List Slot) (n m : ℕ) → map record_text records ≡ slots → passed records n ≡ Ok m → None ≡ slice_get slots n
slot_behind records slots n m are e =
    sym (ap (λ l. slice_get l n) (sym are) ∙ slice_get-map record_text records n ∙ ap (option_map record_text) (is_behind records n m e))

-- what holds of each record of a list holds of that at a place
pub at_place : {A : Type 0} (P : A → Type 0) (xs : List A) (n : ℕ) (x : A) → All P xs → slice_get xs n ≡ Some x → P x
at_place P xs n x all e = subst P (get_or_from_slice_get xs n x x e) (all n x (slice_get_within xs n x e))
