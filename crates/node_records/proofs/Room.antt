-- The places of the replay list: the unexpired rows are the entries of the records, so a name has a place by these where it has one by those.
use Rattle.std.proofs.Common.{◌≡◌, ◌↔◌, ◌⊎◌, inl, inr, ℕ, suc, ◌<◌, ◌≤◌, Bool, true, false, List, [], ◌∷◌, ◌++◌, length, get_or, map, filter, refl, ap, sym, subst, ◌∙◌, arith, true≢false, length-append}
use Rattle.std.specs.Prelude.{◌==◌, ◌&&◌, ◌||◌, not, nat_lt, nat_le, if◌then◌else◌, Option, Some, None, is_some, fold, IsSomeAnd, IfErr, Result, Ok, Err, IsErr}
use Rattle.std.specs.List.{list_any}
use Rattle.std.proofs.lemmas.Bool.Decides.{nat_tests}
use Rattle.std.proofs.lemmas.List.{length-map}
use Rattle.node_limits.specs.declared.TheConstants.{NETWORK_KEYS, APPLICATION_KEYS, BINDINGS, GROUP_SUBSCRIPTIONS, LABEL_SUBSCRIPTIONS, PUBLICATIONS, REPLAY_ENTRIES}
use Rattle.layer_definitions.specs.Order.{put_by}
use Rattle.mesh_base.specs.declared.pair.Pair.{Pair}
use Rattle.mesh_base.specs.declared.pair.Name.{Name}
use Rattle.mesh_base.specs.Pairs.{is_expired}
use Rattle.record_types.specs.declared.records.StoreRecord.{StoreRecord}
use Rattle.record_types.specs.declared.records.StoreRecord.TheVariants as R
use Rattle.store_definitions.specs.Config.{Config, config_of, changed, nets_after, apps_after, binds_after, subs_after, labels_after, publication_index}
use Rattle.store_definitions.specs.Entries.{greatest_with, kept_with, kept_after, kept_of, unexpired, entry_of, names_in, sources_with, sources_after, sources_of, others_held}
use Rattle.store_definitions.specs.Following.{HasNoPlace, PassesLimit}
use Rattle.node_records.specs.declared.persist.Persist.{Persist}
use Rattle.node_records.specs.Tables.{pair_of, IsApart}
use Rattle.node_records.specs.Places.{live_of, has_row, live_with, LacksPlace}
use Rattle.node_records.specs.Full.{IsFull, held_for, IsHeldByOthers}
use Rattle.node_records.specs.declared.applying.Limit.{Limit}
use Rattle.node_records.specs.Meaning.{IsMeaningOf}
use Rattle.node_records.specs.Steps.{KeepsName}
use Rattle.node_records.proofs.Changes.{filter_few}
use Rattle.node_records.proofs.Counts.{stands, AreApart, same_test, own_test, stands_filter, filter_stands, filter_apart, at_most}
use Rattle.node_records.proofs.Entries.{some_with}
use Rattle.store_definitions.proofs.Pushes.{config_push, kept_push}
use Rattle.node_records.proofs.Rows.{new_row_apart}

-- The sources of the records.

source_new : (srcs : List ℕ) (s : ℕ) → AreApart srcs → AreApart (if stands s srcs then srcs else s ∷ srcs)
source_new srcs s apart = new (stands s srcs) refl
  where
    new : (b : Bool) → stands s srcs ≡ b → AreApart (if b then srcs else s ∷ srcs)
    new true e = apart
    new false e = (e, apart)

names_apart : (srcs : List ℕ) (names : List Name) → AreApart srcs → AreApart (fold sources_with srcs names)
names_apart srcs [] apart = apart
names_apart srcs (name ∷ names) apart = names_apart (sources_with srcs name) names (source_new srcs name.src.0 apart)

sources_apart : (srcs : List ℕ) (records : List StoreRecord) → AreApart srcs → AreApart (fold sources_after srcs records)
sources_apart srcs [] apart = apart
sources_apart srcs (item ∷ records) apart = sources_apart (sources_after srcs item) records (names_apart srcs (names_in item) apart)

added : (b : Bool) (s n : ℕ) (srcs : List ℕ) → stands n srcs ≡ b → stands s srcs ≡ true → stands s (if b then srcs else n ∷ srcs) ≡ true
added true s n srcs e h = h
added false s n srcs e h = by_test (n == s)
  where
    by_test : (c : Bool) → (c || stands s srcs) ≡ true
    by_test true = refl
    by_test false = h

added_own : (b : Bool) (n : ℕ) (srcs : List ℕ) → stands n srcs ≡ b → stands n (if b then srcs else n ∷ srcs) ≡ true
added_own true n srcs e = e
added_own false n srcs e = rw (own_test n) refl

-- a source with a pair stands among them
name_stands : (s : ℕ) (names : List Name) (kept : Option Pair) (srcs : List ℕ) → (is_some kept ≡ true → stands s srcs ≡ true)
    → is_some (fold (kept_with s) kept names) ≡ true → stands s (fold sources_with srcs names) ≡ true
name_stands s [] kept srcs h k = h k
name_stands s (name ∷ names) kept srcs h k = name_stands s names (kept_with s kept name) (sources_with srcs name) (noted (name.src.0 == s) refl) k
  where
    noted : (b : Bool) → name.src.0 == s ≡ b → is_some (if b then greatest_with kept name.pair else kept) ≡ true → stands s (sources_with srcs name) ≡ true
    noted true e m = subst (λ n. stands n (sources_with srcs name) ≡ true) (same_test name.src.0 s e) (added_own (stands name.src.0 srcs) name.src.0 srcs refl)
    noted false e m = added (stands name.src.0 srcs) s name.src.0 srcs refl (h m)

source_stands : (s : ℕ) (records : List StoreRecord) (kept : Option Pair) (srcs : List ℕ) → (is_some kept ≡ true → stands s srcs ≡ true)
    → is_some (fold (kept_after s) kept records) ≡ true → stands s (fold sources_after srcs records) ≡ true
source_stands s [] kept srcs h k = h k
source_stands s (item ∷ records) kept srcs h k =
    source_stands s records (kept_after s kept item) (sources_after srcs item) (λ m. name_stands s (names_in item) kept srcs h m) k

some_kept : (current : ℕ) (kept : Option Pair) → is_some (unexpired current kept) ≡ true → is_some kept ≡ true
some_kept current None h = h
some_kept current (Some p) h = refl

-- The sources of rows.

abbrev pub rows_sources : List Name → List ℕ
rows_sources rows = map (λ r. r.src.0) rows

row_stands : (s : ℕ) (rows : List Name) → stands s (rows_sources rows) ≡ has_row rows s
row_stands s [] = refl
row_stands s (row ∷ rows) = ap (λ b. row.src.0 == s || b) (row_stands s rows)

pub row_pair : (rows : List Name) (s : ℕ) → has_row rows s ≡ is_some (pair_of rows s)
row_pair [] s = refl
row_pair (row ∷ rows) s = by_test (row.src.0 == s) (row_pair rows s)
  where
    by_test : (b : Bool) → has_row rows s ≡ is_some (pair_of rows s) → b || has_row rows s ≡ is_some (if b then Some row.pair else pair_of rows s)
    by_test true e = refl
    by_test false e = e

none_some : {A : Type 0} (o : Option A) → is_some o ≡ false → o ≡ None
none_some None e = refl
none_some (Some x) e = absurd (true≢false e)

rows_apart : (rows : List Name) → IsApart rows → AreApart (rows_sources rows)
rows_apart [] apart = tt
rows_apart (row ∷ rows) apart = (row_stands row.src.0 rows ∙ row_pair rows row.src.0 ∙ ap (λ o. is_some o) apart.0, rows_apart rows apart.1)

-- rows of which no source has two, of the same sources: a name has a place among both or none
same_size : (xs ys : List Name) → IsApart xs → ((s : ℕ) → has_row xs s ≡ true → has_row ys s ≡ true) → length xs ≤ length ys
same_size xs ys apart within =
    let few : length (rows_sources xs) ≤ length (rows_sources ys) =
    at_most (rows_sources xs) (rows_sources ys) (rows_apart xs apart) (λ s m. row_stands s ys ∙ within s (sym (row_stands s xs) ∙ m)) in
    omega (arith, few, length-map xs (λ r. r.src.0), length-map ys (λ r. r.src.0))

same_place : (xs ys : List Name) (name : Name) → IsApart xs → ((s : ℕ) → has_row xs s ≡ has_row ys s) → LacksPlace xs name → LacksPlace ys name
same_place xs ys name apart same lacks = record {
  none = sym (same name.src.0) ∙ lacks.none;
  held = omega (arith, lacks.held, same_size xs ys apart (λ s h. sym (same s) ∙ h));
}

and_true : (b : Bool) → b && true ≡ b
and_true true = refl
and_true false = refl

and_false : (b : Bool) → b && false ≡ false
and_false true = refl
and_false false = refl

-- a test of what passes another is both tests
pub any_filter : {A : Type 0} (p q : A → Bool) (xs : List A) → list_any p (filter q xs) ≡ list_any (λ x. p x && q x) xs
any_filter p q [] = refl
any_filter p q (x ∷ xs) = by_test (q x) (p x) (any_filter p q xs)
  where
    by_test : (b c : Bool) → list_any p (filter q xs) ≡ list_any (λ y. p y && q y) xs → list_any p (if b then x ∷ filter q xs else filter q xs) ≡ (p x && b) || list_any (λ y. p y && q y) xs
    by_test true c e = rw (and_true (p x)) (ap (λ a. p x || a) e)
    by_test false c e = rw (and_false (p x)) e

-- The rows that aren't expired.

module _ (current : ℕ) where
  abbrev is_live : Name → Bool
  is_live row = not (is_expired current row.pair)

  live_none : (rows : List Name) (s : ℕ) → pair_of rows s ≡ None → pair_of (live_of current rows) s ≡ None
  live_none [] s h = refl
  live_none (row ∷ rows) s h = by_tests (row.src.0 == s) (is_live row) refl refl (λ k. live_none rows s k)
    where
      by_tests : (b c : Bool) → row.src.0 == s ≡ b → is_live row ≡ c → (pair_of rows s ≡ None → pair_of (live_of current rows) s ≡ None) → pair_of (live_of current (row ∷ rows)) s ≡ None
      by_tests true c e f rest = absurd (let g : Some row.pair ≡ None = (rw e at h) in cc)
      by_tests false true e f rest = rw (f, e) (rest (rw e at h))
      by_tests false false e f rest = rw f (rest (rw e at h))

  pub live_apart : (rows : List Name) → IsApart rows → IsApart (live_of current rows)
  live_apart [] apart = tt
  live_apart (row ∷ rows) apart = by_test (is_live row) (live_apart rows apart.1)
    where
      by_test : (b : Bool) → IsApart (live_of current rows) → IsApart (if b then row ∷ live_of current rows else live_of current rows)
      by_test true rest = (live_none rows row.src.0 apart.0, rest)
      by_test false rest = rest

  -- a source has an unexpired row where it has an entry
  pub live_entry : (rows : List Name) (s : ℕ) → IsApart rows → has_row (live_of current rows) s ≡ is_some (unexpired current (pair_of rows s))
  live_entry [] s apart = refl
  live_entry (row ∷ rows) s apart = by_tests (row.src.0 == s) (is_expired current row.pair) refl refl (live_entry rows s apart.1)
    where
      by_tests : (b c : Bool) → row.src.0 == s ≡ b → is_expired current row.pair ≡ c → has_row (live_of current rows) s ≡ is_some (unexpired current (pair_of rows s))
          → has_row (live_of current (row ∷ rows)) s ≡ is_some (unexpired current (pair_of (row ∷ rows) s))
      by_tests true true e f rest =
          let none : pair_of rows s ≡ None = subst (λ n. pair_of rows n ≡ None) (same_test row.src.0 s e) apart.0 in
          let gone : has_row (live_of current rows) s ≡ false = rest ∙ ap (λ o. is_some (unexpired current o)) none in
          rw (f, e, f) gone
      by_tests true false e f rest = rw (f, e, f) refl
      by_tests false true e f rest = rw (f, e) rest
      by_tests false false e f rest = rw (f, e) rest

  -- with one name more
  pub with_row : (live : List Name) (name : Name) (s : ℕ) → has_row (live_with current live name) s ≡ has_row live s || (name.src.0 == s && not (is_expired current name.pair))
  with_row live name s = by_tests (has_row live name.src.0) (not (is_expired current name.pair)) refl refl
    where
      pushed : (xs : List Name) → has_row (xs ++ name ∷ []) s ≡ has_row xs s || (name.src.0 == s && true)
      pushed [] = last (name.src.0 == s)
        where
          last : (b : Bool) → b || false ≡ b && true
          last true = refl
          last false = refl
      pushed (x ∷ xs) = by_test (x.src.0 == s) (pushed xs)
        where
          by_test : (b : Bool) → has_row (xs ++ name ∷ []) s ≡ has_row xs s || (name.src.0 == s && true) → b || has_row (xs ++ name ∷ []) s ≡ (b || has_row xs s) || (name.src.0 == s && true)
          by_test true e = refl
          by_test false e = e

      there : (b : Bool) → name.src.0 == s ≡ b → has_row live name.src.0 ≡ true → has_row live s ≡ has_row live s || (b && true)
      there true e h = let k : has_row live s ≡ true = subst (λ n. has_row live n ≡ true) (same_test name.src.0 s e) h in rw k refl
      there false e h = same (has_row live s)
        where
          same : (b : Bool) → b ≡ b || false
          same true = refl
          same false = refl

      nothing : (b c : Bool) → c ≡ c || (b && false)
      nothing true true = refl
      nothing true false = refl
      nothing false true = refl
      nothing false false = refl

      by_tests : (b c : Bool) → has_row live name.src.0 ≡ b → not (is_expired current name.pair) ≡ c
          → has_row (if not b && c then live ++ name ∷ [] else live) s ≡ has_row live s || (name.src.0 == s && c)
      by_tests true true e f = there (name.src.0 == s) refl e
      by_tests true false e f = nothing (name.src.0 == s) (has_row live s)
      by_tests false true e f = pushed live
      by_tests false false e f = nothing (name.src.0 == s) (has_row live s)

  pub with_apart : (live : List Name) (name : Name) → IsApart live → IsApart (live_with current live name)
  with_apart live name apart = by_tests (has_row live name.src.0) (not (is_expired current name.pair)) refl
    where
      by_tests : (b c : Bool) → has_row live name.src.0 ≡ b → IsApart (if not b && c then live ++ name ∷ [] else live)
      by_tests true c e = apart
      by_tests false true e = new_row_apart live name apart (none_some (pair_of live name.src.0) (sym (row_pair live name.src.0) ∙ e))
      by_tests false false e = apart

  -- a second name has a place after the first one where it has one by the unexpired rows
  pub place_after : (old new : List Name) (first second : Name) → IsApart old → KeepsName current old new first
      → LacksPlace (live_of current new) second → LacksPlace (live_with current (live_of current old) first) second
  place_after old new first second apart keeps lacks =
      same_place (live_of current new) (live_with current (live_of current old) first) second (live_apart new keeps.apart)
      (λ s. live_entry new s keeps.apart ∙ ap (λ o. is_some o) (keeps.entries s) ∙ some_with current s (pair_of old s) first
      ∙ ap (λ b. b || (first.src.0 == s && not (is_expired current first.pair))) (sym (live_entry old s apart))
      ∙ sym (with_row (live_of current old) first s))
      lacks

  -- where none is expired, all rows are unexpired ones
  pub all_live : (rows : List Name) → ((k : ℕ) (d : Name) → k < length rows → is_expired current (get_or rows k d).pair ≡ false) → live_of current rows ≡ rows
  all_live [] h = refl
  all_live (row ∷ rows) h =
      let here : is_expired current row.pair ≡ false = h 0 row (omega arith) in
      let rest : live_of current rows ≡ rows = all_live rows (λ k d lt. h (suc k) d (omega arith)) in
      rw (here, rest) refl

  -- so where all rows are held, none is expired and none is this source's, a name lacks a place
  pub lacks_all : (rows : List Name) (name : Name) → pair_of rows name.src.0 ≡ None → REPLAY_ENTRIES ≤ length rows
      → ((k : ℕ) (d : Name) → k < length rows → is_expired current (get_or rows k d).pair ≡ false) → LacksPlace (live_of current rows) name
  lacks_all rows name none held live =
      subst (λ xs. LacksPlace xs name) (sym (all_live rows live))
      (record { none = row_pair rows name.src.0 ∙ ap (λ o. is_some o) none; held = held })

-- The entries of records.

both : (b c : Bool) → b ≡ true → c ≡ true → (b && c) ≡ true
both true c h k = k
both false c h k = absurd (true≢false (sym h))

second_of : (b c : Bool) → (b && c) ≡ true → c ≡ true
second_of true c h = h
second_of false c h = absurd (true≢false (sym h))

other : (s src : ℕ) → (s ≡ src → ⊥) → not (s == src) ≡ true
other s src h = grind (arith, nat_tests)

no_room : (n : ℕ) → REPLAY_ENTRIES ≤ n → nat_lt n REPLAY_ENTRIES ≡ false
no_room n h = grind (arith, nat_tests)

room_least : (n : ℕ) → nat_lt n REPLAY_ENTRIES ≡ false → REPLAY_ENTRIES ≤ n
room_least n h = grind (arith, nat_tests)

-- rows that stand for the entries of records
module _ (records : List StoreRecord) (rows : List Name) (apart : IsApart rows) (same : (s : ℕ) → is_some (entry_of records s) ≡ has_row rows s) where
  abbrev is_other : ℕ → ℕ → Bool
  is_other src s = not (s == src) && is_some (entry_of records s)

  pub count_others : (src : ℕ) → has_row rows src ≡ false → others_held records src ≡ length rows
  count_others src none =
      let at_least : length (rows_sources rows) ≤ others_held records src =
      at_most (rows_sources rows) (filter (is_other src) (sources_of records)) (rows_apart rows apart)
      (λ s m.
      let row : has_row rows s ≡ true = sym (row_stands s rows) ∙ m in
      let entry : is_some (entry_of records s) ≡ true = same s ∙ row in
      let kept : is_some (kept_of records s) ≡ true = some_kept (config_of records).iv.current (kept_of records s) entry in
      let apart_from : s ≡ src → ⊥ = (λ e. true≢false (sym row ∙ ap (λ n. has_row rows n) e ∙ none)) in
      stands_filter (is_other src) s (sources_of records)
      (source_stands s records None [] (λ x. absurd (let y : false ≡ true = x in true≢false (sym y))) kept)
      (both (not (s == src)) (is_some (entry_of records s)) (other s src apart_from) entry)) in
      let most : others_held records src ≤ length (rows_sources rows) =
      at_most (filter (is_other src) (sources_of records)) (rows_sources rows)
      (filter_apart (is_other src) (sources_of records) (sources_apart [] records tt))
      (λ s m.
      let test = (filter_stands (is_other src) s (sources_of records) m).1 in
      let entry : is_some (entry_of records s) ≡ true = second_of (not (s == src)) (is_some (entry_of records s)) test in
      row_stands s rows ∙ sym (same s) ∙ entry) in
      omega (arith, at_least, most, length-map rows (λ r. r.src.0))

  pub place_to : (name : Name) → LacksPlace rows name → HasNoPlace records name
  place_to name lacks = (
    none_some (entry_of records name.src.0) (same name.src.0 ∙ lacks.none),
    no_room (others_held records name.src.0) (omega (arith, lacks.held, count_others name.src.0 lacks.none)),
  )

  pub place_from : (name : Name) → HasNoPlace records name → LacksPlace rows name
  place_from name h =
      let none : has_row rows name.src.0 ≡ false = sym (same name.src.0) ∙ ap (λ o. is_some o) h.0 in
      record { none = none; held = omega (arith, room_least (others_held records name.src.0) h.1, count_others name.src.0 none) }

-- The records that a value stands for.
module _ (records : List StoreRecord) (p : Persist) (means : IsMeaningOf records p) where
  abbrev live : List Name
  live = live_of p.iv.current p.replay

  current_is : p.iv.current ≡ (config_of records).iv.current
  current_is = ap (λ (c : Config). c.iv.current) means.config

  live_same : (s : ℕ) → is_some (entry_of records s) ≡ has_row live s
  live_same s = sym (live_entry p.iv.current p.replay s means.apart ∙ ap (λ o. is_some o) (means.entries s))

  abbrev after : Name → List StoreRecord
  after first = records ++ R.Replay first None ∷ []

  config_after : (first : Name) → config_of (after first) ≡ config_of records
  unfolding changed
  config_after first = config_push records (R.Replay first None)

  after_same : (first : Name) (s : ℕ) → is_some (entry_of (after first) s) ≡ has_row (live_with p.iv.current live first) s
  after_same first s =
      let now : (config_of (after first)).iv.current ≡ p.iv.current = ap (λ (c : Config). c.iv.current) (config_after first) ∙ sym current_is in
      let kept : kept_of (after first) s ≡ kept_with s (kept_of records s) first = kept_push records (R.Replay first None) s in
      let entry : is_some (entry_of (after first) s) ≡ is_some (unexpired p.iv.current (kept_with s (kept_of records s) first)) =
      ap (λ n. is_some (unexpired n (kept_of (after first) s))) now ∙ ap (λ o. is_some (unexpired p.iv.current o)) kept in
      let before : is_some (unexpired p.iv.current (kept_of records s)) ≡ has_row live s =
      ap (λ n. is_some (unexpired n (kept_of records s))) current_is ∙ live_same s in
      entry ∙ some_with p.iv.current s (kept_of records s) first
      ∙ ap (λ b. b || (first.src.0 == s && not (is_expired p.iv.current first.pair))) before
      ∙ sym (with_row p.iv.current live first s)

  live_is_apart : IsApart live
  live_is_apart = live_apart p.iv.current p.replay means.apart

  after_is_apart : (first : Name) → IsApart (live_with p.iv.current live first)
  after_is_apart first = with_apart p.iv.current live first live_is_apart

  pub replay_to : (first : Name) (second : Option Name) → IsFull p (R.Replay first second) → PassesLimit records (R.Replay first second)
  replay_to first None (inl h) = inl (place_to records live live_is_apart live_same first h)
  replay_to first None (inr h) = absurd h
  replay_to first (Some name) (inl h) = inl (place_to records live live_is_apart live_same first h)
  replay_to first (Some name) (inr h) = inr (place_to (after first) (live_with p.iv.current live first) (after_is_apart first) (after_same first) name h)

  pub replay_from : (first : Name) (second : Option Name) → PassesLimit records (R.Replay first second) → IsFull p (R.Replay first second)
  replay_from first None (inl h) = inl (place_from records live live_is_apart live_same first h)
  replay_from first None (inr h) = absurd h
  replay_from first (Some name) (inl h) = inl (place_from records live live_is_apart live_same first h)
  replay_from first (Some name) (inr h) = inr (place_from (after first) (live_with p.iv.current live first) (after_is_apart first) (after_same first) name h)

  live_few : length p.replay ≤ REPLAY_ENTRIES → length live ≤ REPLAY_ENTRIES
  live_few few = omega (arith, few, filter_few (λ row. not (is_expired p.iv.current row.pair)) p.replay)

  with_few : (first : Name) → length p.replay ≤ REPLAY_ENTRIES → (LacksPlace live first → ⊥) → length (live_with p.iv.current live first) ≤ REPLAY_ENTRIES
  with_few first few place = by_tests (has_row live first.src.0) (not (is_expired p.iv.current first.pair)) refl
    where
      room : has_row live first.src.0 ≡ false → (REPLAY_ENTRIES ≤ length live → ⊥)
      room e h = place (record { none = e; held = h })

      by_tests : (b c : Bool) → has_row live first.src.0 ≡ b → length (if not b && c then live ++ first ∷ [] else live) ≤ REPLAY_ENTRIES
      by_tests true c e = live_few few
      by_tests false true e = omega (arith, room e, length-append live (first ∷ []))
      by_tests false false e = live_few few

  first_held : (first : Name) → length p.replay ≤ REPLAY_ENTRIES → LacksPlace live first → REPLAY_ENTRIES ≡ others_held records first.src.0
  first_held first few h = omega (arith, h.held, live_few few, count_others records live live_is_apart live_same first.src.0 h.none)

  second_held : (first name : Name) → length p.replay ≤ REPLAY_ENTRIES → (LacksPlace live first → ⊥) → LacksPlace (live_with p.iv.current live first) name
      → REPLAY_ENTRIES ≡ others_held (after first) name.src.0
  second_held first name few place h =
      omega (
        arith,
        h.held,
        with_few first few place,
        count_others (after first) (live_with p.iv.current live first) (after_is_apart first) (after_same first) name.src.0 h.none,
      )

  lacks_or : (first : Name) → LacksPlace live first ⊎ (LacksPlace live first → ⊥)
  lacks_or first = by_tests (has_row live first.src.0) (nat_le REPLAY_ENTRIES (length live)) refl refl
    where
      least : (n : ℕ) → nat_le REPLAY_ENTRIES n ≡ true → REPLAY_ENTRIES ≤ n
      least n h = grind (arith, nat_tests)

      less : (n : ℕ) → nat_le REPLAY_ENTRIES n ≡ false → REPLAY_ENTRIES ≤ n → ⊥
      less n h k = grind (arith, nat_tests)

      by_tests : (b c : Bool) → has_row live first.src.0 ≡ b → nat_le REPLAY_ENTRIES (length live) ≡ c → LacksPlace live first ⊎ (LacksPlace live first → ⊥)
      by_tests true c e f = inr (λ h. true≢false (sym e ∙ h.none))
      by_tests false true e f = inl (record { none = e; held = least (length live) f })
      by_tests false false e f = inr (λ h. less (length live) f h.held)

  pub held_by : (first : Name) (second : Option Name) → length p.replay ≤ REPLAY_ENTRIES → IsFull p (R.Replay first second) → IsHeldByOthers records (R.Replay first second) REPLAY_ENTRIES
  held_by first second few full = by_first (lacks_or first)
    where
      after_first : (o : Option Name) → (LacksPlace live first → ⊥) → LacksPlace live first ⊎ IsSomeAnd o (LacksPlace (live_with p.iv.current live first)) → IsHeldByOthers records (R.Replay first o) REPLAY_ENTRIES
      after_first o place (inl h) = absurd (place h)
      after_first None place (inr h) = absurd h
      after_first (Some name) place (inr h) = inr (replay_second name h, second_held first name few place h)
        where
          replay_second : (n : Name) → LacksPlace (live_with p.iv.current live first) n → HasNoPlace (after first) n
          replay_second n k = place_to (after first) (live_with p.iv.current live first) (after_is_apart first) (after_same first) n k

      by_first : LacksPlace live first ⊎ (LacksPlace live first → ⊥) → IsHeldByOthers records (R.Replay first second) REPLAY_ENTRIES
      by_first (inl h) = inl (place_to records live live_is_apart live_same first h, first_held first few h)
      by_first (inr h) = after_first second h full

pairs : {A B C : Type 0} → A ↔ B → B ↔ C → A ↔ C
pairs p q = ((λ a. q.0 (p.0 a)), (λ c. p.1 (q.1 c)))

same_rows : {A : Type 0} (more : List A → List A) (xs ys : List A) (n : ℕ) → xs ≡ ys → (n < length (more xs)) ↔ (n < length (more ys))
same_rows more xs ys n e =
    ((λ h. subst (λ zs. n < length (more zs)) e h), (λ h. subst (λ zs. n < length (more zs)) (sym e) h))

-- a table of a value is full exactly where the records that it stands for fill it
pub full_passes : (records : List StoreRecord) (p : Persist) (item : StoreRecord) → IsMeaningOf records p → IsFull p item ↔ PassesLimit records item
full_passes records p (R.NetKey op index key) means =
    same_rows (nets_after op index key) p.nets (config_of records).nets NETWORK_KEYS (ap (λ (c : Config). c.nets) means.config)
full_passes records p (R.AppKey op net index key) means =
    same_rows (apps_after op net index key) p.apps (config_of records).apps APPLICATION_KEYS (ap (λ (c : Config). c.apps) means.config)
full_passes records p (R.Bind op element model app) means =
    same_rows (binds_after op element model app) p.binds (config_of records).binds BINDINGS (ap (λ (c : Config). c.binds) means.config)
full_passes records p (R.Subscribe op element model address) means =
    same_rows (subs_after op element model address) p.subs (config_of records).subs GROUP_SUBSCRIPTIONS (ap (λ (c : Config). c.subs) means.config)
full_passes records p (R.Label op element model label) means =
    same_rows (labels_after op element model label) p.labels (config_of records).labels LABEL_SUBSCRIPTIONS (ap (λ (c : Config). c.labels) means.config)
full_passes records p (R.Publish row) means =
    same_rows (put_by publication_index row) p.publications (config_of records).publications PUBLICATIONS (ap (λ (c : Config). c.publications) means.config)
full_passes records p (R.Replay first second) means = (replay_to records p means first second, replay_from records p means first second)
full_passes records p (R.Identity unicast elements dev_key) means = ((λ h. h), (λ h. h))
full_passes records p (R.Numbers current progress mark hours since) means = ((λ h. h), (λ h. h))
full_passes records p (R.Hour hours since) means = ((λ h. h), (λ h. h))
full_passes records p (R.Feature which value) means = ((λ h. h), (λ h. h))
full_passes records p R.Reset means = ((λ h. h), (λ h. h))
full_passes records p (R.Model element model value) means = ((λ h. h), (λ h. h))

-- and so one more record passes the limit
pub passes : {B : Type 0} (records : List StoreRecord) (p : Persist) (item : StoreRecord) → B ↔ IsFull p item → IsMeaningOf records p → B ↔ PassesLimit records item
passes records p item full means = pairs full (full_passes records p item means)

held_others : (records : List StoreRecord) (p : Persist) (item : StoreRecord) (held : ℕ) → IsMeaningOf records p → length p.replay ≤ REPLAY_ENTRIES → IsFull p item → held ≡ held_for p item → IsHeldByOthers records item held
held_others records p (R.Replay first second) held means few full e =
    subst (λ n. IsHeldByOthers records (R.Replay first second) n) (sym e) (held_by records p means first second few full)
held_others records p (R.NetKey op index key) held means few full e = tt
held_others records p (R.AppKey op net index key) held means few full e = tt
held_others records p (R.Bind op element model app) held means few full e = tt
held_others records p (R.Subscribe op element model address) held means few full e = tt
held_others records p (R.Label op element model label) held means few full e = tt
held_others records p (R.Publish row) held means few full e = tt
held_others records p (R.Identity unicast elements dev_key) held means few full e = tt
held_others records p (R.Numbers current progress mark hours since) held means few full e = tt
held_others records p (R.Hour hours since) held means few full e = tt
held_others records p (R.Feature which value) held means few full e = tt
held_others records p R.Reset held means few full e = tt
held_others records p (R.Model element model value) held means few full e = tt

pub others : (records : List StoreRecord) (p : Persist) (item : StoreRecord) (r : Result Unit Limit) → IsErr r ↔ IsFull p item → IfErr r (λ e. e.held ≡ held_for p item)
    → length p.replay ≤ REPLAY_ENTRIES → IsMeaningOf records p → IfErr r (λ e. IsHeldByOthers records item e.held)
others records p item (Ok x) full held few means = tt
others records p item (Err e) full held few means = held_others records p item e.held means few (full.0 refl) held
