-- Names accepted from segments: the newest of each source tell whether the name of an entry is among them all.
use Rattle.std.proofs.Common.{◌≡◌, ℕ, ◌+◌, ◌≤◌, Bool, true, false, cond, ◌||◌, ◌&&◌, List, [], ◌∷◌, ◌++◌, refl, ap, sym, subst, ◌∙◌, arith, append-nil, Option, Some, None}
use Rattle.std.specs.Prelude.{◌==◌, fold, nat_lt, not}
use Rattle.std.specs.List.{AllByRecursion as ByRecursion, list_all, list_any}
use Rattle.std.specs.Option.{option_map_or, option_to_list}
use Rattle.std.proofs.lemmas.Bool.Decides.{nat_tests}
use Rattle.mesh_base.proofs.Pairs.{not_newer_both, pairs_equal}
use Rattle.mesh_base.specs.Pairs.{is_expired, is_newer}
use Rattle.mesh_base.specs.declared.pair.Name.{Name}
use Rattle.mesh_base.specs.declared.pair.Pair.{Pair}
use Rattle.layer_states.specs.Names.{is_name}
use Rattle.mesh_hearing.specs.Again.{IsRising, is_recorded, name_with, newer_name, newest_of}
use Rattle.mesh_hearing.specs.Tables.{again_after}
use Rattle.record_types.specs.declared.records.StoreRecord.{StoreRecord}
use Rattle.event_definitions.specs.Answers.{is_entry}
use Rattle.store_definitions.specs.Entries.{kept_of, unexpired}

-- Sources rise.

rising_with : (least : ℕ) (names : List Name) (n : Name) → least ≤ n.src.0 → IsRising least names → IsRising least (name_with names n)
rising_with least [] n l r = (l, tt)
rising_with least (m ∷ ms) n l (h, r) = first (λ f. rising_with (m.src.0 + 1) ms n f r) (nat_lt m.src.0 n.src.0) refl
  where
    second : nat_lt m.src.0 n.src.0 ≡ false → (t : Bool) → (m.src.0 == n.src.0) ≡ t → IsRising least (cond t (newer_name m n ∷ ms) (n ∷ m ∷ ms))
    second e true f = (h, r)
    second e false f = let above : n.src.0 + 1 ≤ m.src.0 = grind (arith, nat_tests) in (l, (above, r))

    first : (m.src.0 + 1 ≤ n.src.0 → IsRising (m.src.0 + 1) (name_with ms n)) → (t : Bool) → nat_lt m.src.0 n.src.0 ≡ t
        → IsRising least (cond t (m ∷ name_with ms n) (cond (m.src.0 == n.src.0) (newer_name m n ∷ ms) (n ∷ m ∷ ms)))
    first next true e = let above : m.src.0 + 1 ≤ n.src.0 = grind (arith, nat_tests) in (h, next above)
    first next false e = second e (m.src.0 == n.src.0) refl

rising_fold : (rows names : List Name) → IsRising 0 rows → IsRising 0 (fold name_with rows names)
rising_fold rows [] r = r
rising_fold rows (n ∷ ns) r = let least : 0 ≤ n.src.0 = omega arith in rising_fold (name_with rows n) ns (rising_with 0 rows n least r)

pub newest_rising : (names : List Name) → IsRising 0 (newest_of names)
newest_rising names = rising_fold [] names tt

-- One name more.

fold_one : (rows names : List Name) (n : Name) → fold name_with rows (names ++ n ∷ []) ≡ name_with (fold name_with rows names) n
fold_one rows [] n = refl
fold_one rows (m ∷ ms) n = fold_one (name_with rows m) ms n

pub newest_more : (names : List Name) (name : Option Name) → again_after (newest_of names) name ≡ newest_of (names ++ option_to_list name)
newest_more names None = ap (λ ns. newest_of ns) (sym (append-nil names))
newest_more names (Some n) = sym (fold_one [] names n)

-- Of names that aren't above one, those that are kept have it where they all have it.

abbrev UpTo : Name → Name → Type 0
UpTo n m = m.src.0 ≡ n.src.0 → is_newer m.pair n.pair ≡ false

or_false : (a : Bool) → a ≡ (a || false)
or_false true = refl
or_false false = refl

or_behind : (a b c : Bool) → (a || (b || c)) ≡ ((a || b) || c)
or_behind true b c = refl
or_behind false b c = refl

or_front : (a b : Bool) → (a || b) ≡ (b || a)
or_front true true = refl
or_front true false = refl
or_front false true = refl
or_front false false = refl

or_middle : (a b c : Bool) → ((a || b) || c) ≡ ((a || c) || b)
or_middle true b c = refl
or_middle false b c = or_front b c

or_taken : (a b c : Bool) → a ≡ true → b ≡ (a || c) → b ≡ true
or_taken a b c e f = cc

same_src : (n m : Name) → is_name n m ≡ true → n.src.0 ≡ m.src.0
same_src n m e = grind (arith, nat_tests)

same_pair : (n m : Name) → is_name n m ≡ true → n.pair ≡ m.pair
same_pair n m e = pairs_equal n.pair m.pair (grind (arith, nat_tests)) (grind (arith, nat_tests))

is_name_of : (n m : Name) → n.src.0 ≡ m.src.0 → n.pair ≡ m.pair → is_name n m ≡ true
is_name_of n m e f = grind (arith, nat_tests)

-- the newer of a name and another of its source
raised_has : (n r m : Name) → r.src.0 ≡ m.src.0 → UpTo n r → UpTo n m → is_name n (newer_name r m) ≡ (is_name n r || is_name n m)
raised_has n r m same up by = newer (is_newer m.pair r.pair) refl
  where
    is_m : is_newer m.pair r.pair ≡ true → (s t : Bool) → is_name n r ≡ s → is_name n m ≡ t → is_name n (record r { pair = m.pair }) ≡ (s || t)
    is_m e true t f g =
        let at = same_src n r f in
        let above : is_newer m.pair n.pair ≡ true = subst (λ p. is_newer m.pair p ≡ true) (sym (same_pair n r f)) e in
        let below : is_newer m.pair n.pair ≡ false = by (sym same ∙ sym at) in
        absurd (let clash : true ≡ false = sym above ∙ below in cc)
    is_m e false t f g = ap (λ (x : ℕ). is_name n (record m { src = record m.src { 0 = x } })) same ∙ g

    newer : (b : Bool) → is_newer m.pair r.pair ≡ b → is_name n (record r { pair = cond b m.pair r.pair }) ≡ (is_name n r || is_name n m)
    newer true e = is_m e (is_name n r) (is_name n m) refl refl
    newer false e = stays (is_name n m) refl
      where
        stays : (t : Bool) → is_name n m ≡ t → is_name n r ≡ (is_name n r || t)
        stays false g = or_false (is_name n r)
        stays true g =
            let at : r.src.0 ≡ n.src.0 = same ∙ sym (same_src n m g) in
            let pair : n.pair ≡ r.pair = not_newer_both n.pair r.pair (subst (λ p. is_newer p r.pair ≡ false) (sym (same_pair n m g)) e) (up at) in
            let is : is_name n r ≡ true = is_name_of n r (sym at) pair in
            is ∙ ap (λ b. b || true) (sym is)

raised_up : (n r m : Name) → r.src.0 ≡ m.src.0 → UpTo n r → UpTo n m → UpTo n (newer_name r m)
raised_up n r m same up by at = newer (is_newer m.pair r.pair)
  where
    newer : (b : Bool) → is_newer (cond b m.pair r.pair) n.pair ≡ false
    newer true = by (sym same ∙ at)
    newer false = up at

up_with : (n m : Name) (rows : List Name) → ByRecursion (UpTo n) rows → UpTo n m → ByRecursion (UpTo n) (name_with rows m)
up_with n m [] a u = (u, tt)
up_with n m (r ∷ rs) (v, a) u = first (up_with n m rs a u) (nat_lt r.src.0 m.src.0)
  where
    second : (t : Bool) → (r.src.0 == m.src.0) ≡ t → ByRecursion (UpTo n) (cond t (newer_name r m ∷ rs) (m ∷ r ∷ rs))
    second true e = let same : r.src.0 ≡ m.src.0 = grind (arith, nat_tests) in (raised_up n r m same v u, a)
    second false e = (u, (v, a))

    first : ByRecursion (UpTo n) (name_with rs m) → (t : Bool)
        → ByRecursion (UpTo n) (cond t (r ∷ name_with rs m) (cond (r.src.0 == m.src.0) (newer_name r m ∷ rs) (m ∷ r ∷ rs)))
    first next true = (v, next)
    first next false = second (r.src.0 == m.src.0) refl

has_with : (n m : Name) (rows : List Name) → ByRecursion (UpTo n) rows → UpTo n m
    → list_any (is_name n) (name_with rows m) ≡ (list_any (is_name n) rows || is_name n m)
has_with n m [] a u = sym (or_false (is_name n m))
has_with n m (r ∷ rs) (v, a) u = first (has_with n m rs a u) (nat_lt r.src.0 m.src.0)
  where
    second : (t : Bool) → (r.src.0 == m.src.0) ≡ t
        → list_any (is_name n) (cond t (newer_name r m ∷ rs) (m ∷ r ∷ rs)) ≡ ((is_name n r || list_any (is_name n) rs) || is_name n m)
    second true e =
        let same : r.src.0 ≡ m.src.0 = grind (arith, nat_tests) in
        ap (λ b. b || list_any (is_name n) rs) (raised_has n r m same v u) ∙ or_middle (is_name n r) (is_name n m) (list_any (is_name n) rs)
    second false e = or_front (is_name n m) (is_name n r || list_any (is_name n) rs)

    first : list_any (is_name n) (name_with rs m) ≡ (list_any (is_name n) rs || is_name n m) → (t : Bool)
        → list_any (is_name n) (cond t (r ∷ name_with rs m) (cond (r.src.0 == m.src.0) (newer_name r m ∷ rs) (m ∷ r ∷ rs)))
        ≡ ((is_name n r || list_any (is_name n) rs) || is_name n m)
    first next true = ap (λ b. is_name n r || b) next ∙ or_behind (is_name n r) (list_any (is_name n) rs) (is_name n m)
    first next false = second (r.src.0 == m.src.0) refl

has_fold : (n : Name) (rows names : List Name) → ByRecursion (UpTo n) rows → ByRecursion (UpTo n) names
    → list_any (is_name n) (fold name_with rows names) ≡ (list_any (is_name n) rows || list_any (is_name n) names)
has_fold n rows [] a b = or_false (list_any (is_name n) rows)
has_fold n rows (m ∷ ms) a (u, b) =
    has_fold n (name_with rows m) ms (up_with n m rows a u) b
    ∙ ap (λ t. t || list_any (is_name n) ms) (has_with n m rows a u)
    ∙ sym (or_behind (list_any (is_name n) rows) (is_name n m) (list_any (is_name n) ms))

-- Of the names that are recorded none is above the entry of its source.

entry_kept : (current : ℕ) (kept : Option Pair) (p : Pair) → is_entry (unexpired current kept) p ≡ true → kept ≡ Some p
entry_kept current None p e = absurd (cc)
entry_kept current (Some q) p e = either (is_expired current q) e
  where
    either : (b : Bool) → is_entry (cond b None (Some q)) p ≡ true → Some q ≡ Some p
    either true f = absurd (cc)
    either false f =
        let iv : q.iv ≡ p.iv = grind (arith, nat_tests) in
        let seq : q.seq ≡ p.seq = grind (arith, nat_tests) in
        ap (λ (x : Pair). Some x) (pairs_equal q p iv seq)

recorded_up : (records : List StoreRecord) (n m : Name) → kept_of records n.src.0 ≡ Some n.pair → is_recorded records m ≡ true → UpTo n m
recorded_up records n m kept e at =
    let by : option_map_or (λ k. not (is_newer m.pair k)) (Some n.pair) false ≡ true =
    subst (λ o. option_map_or (λ k. not (is_newer m.pair k)) o false ≡ true) (ap (λ src. kept_of records src) at ∙ kept) e in
    not_true (is_newer m.pair n.pair) by
  where
    not_true : (b : Bool) → not b ≡ true → b ≡ false
    not_true true f = absurd (cc)
    not_true false f = refl

all_up : (records : List StoreRecord) (n : Name) (names : List Name) → kept_of records n.src.0 ≡ Some n.pair → list_all (is_recorded records) names ≡ true
    → ByRecursion (UpTo n) names
all_up records n [] kept e = tt
all_up records n (m ∷ ms) kept e = both (λ g. all_up records n ms kept g) (is_recorded records m) refl e
  where
    both : (list_all (is_recorded records) ms ≡ true → ByRecursion (UpTo n) ms) → (b : Bool) → is_recorded records m ≡ b
        → (b && list_all (is_recorded records) ms) ≡ true → ByRecursion (UpTo n) (m ∷ ms)
    both next true f g = (recorded_up records n m kept f, next g)
    both next false f g = absurd (cc)

pub newest_tell : (records : List StoreRecord) (current : ℕ) (n : Name) (names : List Name) → is_entry (unexpired current (kept_of records n.src.0)) n.pair ≡ true
    → list_all (is_recorded records) names ≡ true → list_any (is_name n) (newest_of names) ≡ list_any (is_name n) names
newest_tell records current n names e r = has_fold n [] names tt (all_up records n names (entry_kept current (kept_of records n.src.0) n.pair e) r)
