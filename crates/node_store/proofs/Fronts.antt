-- Several records, one after another, over the chip before and after.
use Rattle.std.proofs.Common.{◌≡◌, ◌⊎◌, ⊎_elim, ℕ, ◌+◌, ◌*◌, ◌<◌, ◌≤◌, List, [], ◌∷◌, ◌++◌, Bool, true, false, inl, inr, refl, ap, sym, subst, ◌∙◌, append_assoc, arith}
use Rattle.std.specs.Prelude.{length, take, drop, fold, get_or, ◌==◌, if◌then◌else◌}
use Rattle.std.proofs.lemmas.Bool.{eqb-true}
use Rattle.std.proofs.lemmas.List.{append-nil, drop_more, take_all, take_more}
use Rattle.std.proofs.lemmas.List.Sums.{fold_more}
use Rattle.flash_model.specs.Arming.{Begins, BeginsAtMost, Erases, ErasesAtMost, Programs, ProgramsAtMost}
use Rattle.flash_model.specs.Chip.{CallCount, Chip, LeavesOnly}
use Rattle.flash_model.proofs.Leaves.{IsOnlyNow, leaves_join, leaves_none, leaves_weaker}
use Rattle.flash_model.proofs.Runs.{begins_more, begins_none, erases_more, erases_none, programs_more, programs_none}
use Rattle.record_types.specs.declared.records.StoreRecord.{StoreRecord}
use Rattle.store_definitions.specs.Config.{Config, changed, config_of}
use Rattle.store_definitions.specs.Wear.{RECORD_OCTETS}
use Rattle.node_records.specs.declared.persist.Persist.{Persist}
use Rattle.node_records.specs.Meaning.{IsMeaningOf}
use Rattle.node_snapshot.specs.Snapshot.{snapshot_of}
use Rattle.node_store.specs.Calls.{calls_of, compaction, only_slots, used_with_room}
use Rattle.node_store.specs.Several.{CostsEach, CostsSome, IsNext, IsSumOf, MayPut, and_then, none_put, one_more}
use Rattle.node_store.specs.Tie.{HasMarkFrom, Holds, IsFront, IsHeld, IsNotBelow, IsPut, IsStoreOf}
use Rattle.node_store.specs.View.{StoreView}
use Rattle.node_store.specs.Writing.{CutLeaves}
use Rattle.node_store.proofs.Follows.{mark_before, mark_from}
use Rattle.node_store.proofs.Holding.{holds_mark, store_images, store_meaning}

-- What holds before item i of the loop, of a store of this flash.
pub record Fronts (start : Chip) (first : StoreView) (records items : List StoreRecord) (i : ℕ) (chip : Chip) (store : StoreView) : Type 0 where
  pub tie : IsStoreOf chip store (records ++ take i items)
  pub leaves : LeavesOnly start chip (IsFront records items)
  pub least : first.persist.mark ≤ store.persist.mark
  pub marks : LeavesOnly start chip (HasMarkFrom first.persist.mark)

none_more : (records items : List StoreRecord) → records ++ take 0 items ≡ records
none_more records items = append-nil records

pub value_none : (records items : List StoreRecord) (p : Persist) → IsMeaningOf records p → IsMeaningOf (records ++ take 0 items) p
value_none records items p = subst (λ (l : List StoreRecord). IsMeaningOf l p) (sym (none_more records items))

-- before the first
module _ (chip : Chip) (store : StoreView) (records items : List StoreRecord) (tie : IsStoreOf chip store records) (only : IsOnlyNow chip) where
  front_image : (c : List ℕ) → chip.images c → IsFront records items c
  front_image c image =
      let held : IsHeld records c = store_images chip store records tie c image in
      record { tidy = held.tidy; n = 0; few = omega arith; holds = subst (λ (l : List StoreRecord). Holds c l) (sym (none_more records items)) held.holds }

  mark_image : (c : List ℕ) → chip.images c → HasMarkFrom store.persist.mark c
  mark_image c image found is =
      let e = holds_mark c records (store_images chip store records tie c image).holds found is in
      let f = mark_before records store.persist (store_meaning chip store records tie) in
      omega (arith, e, f)

  pub fronts_none : Fronts chip store records items 0 chip store
  fronts_none = record {
    tie = subst (λ (l : List StoreRecord). IsStoreOf chip store l) (sym (none_more records items)) tie;
    leaves = leaves_none chip (IsFront records items) only front_image;
    least = omega arith;
    marks = leaves_none chip (HasMarkFrom store.persist.mark) only mark_image;
  }

-- the mark goes on not to fall
module _ (items : List StoreRecord) (i : ℕ) (start : Chip) (first : StoreView) (records : List StoreRecord) (mid : Chip) (store : StoreView) (fronts : Fronts start first records items i mid store) (new : Chip) where
  above : (c : List ℕ) → HasMarkFrom store.persist.mark c → HasMarkFrom first.persist.mark c
  above c from found is = let h = from found is in let l = fronts.least in omega (arith, h, l)

  pub marks_more : LeavesOnly mid new (HasMarkFrom store.persist.mark) → LeavesOnly start new (HasMarkFrom first.persist.mark)
  marks_more leaves =
      leaves_weaker start new (λ c. HasMarkFrom first.persist.mark c ⊎ HasMarkFrom store.persist.mark c) (HasMarkFrom first.persist.mark)
      (leaves_join start mid new (HasMarkFrom first.persist.mark) (HasMarkFrom store.persist.mark) fronts.marks leaves)
      (λ c either. ⊎_elim (λ h. h) (λ h. above c h) either)

-- one more
module _ (items : List StoreRecord) (i : ℕ) (d : StoreRecord) (less : i < length items) where
  abbrev item : StoreRecord
  item = get_or items i d

  pub next_may : (p : Persist) → MayPut p (drop i items) → MayPut p (item ∷ drop (i + 1) items)
  next_may p may = subst (λ (l : List StoreRecord). MayPut p l) (drop_more items i d less) may

  pub records_more : (records : List StoreRecord) → (records ++ take i items) ++ item ∷ [] ≡ records ++ take (i + 1) items
  records_more records = append_assoc records (take i items) (item ∷ []) ∙ ap (λ (l : List StoreRecord). records ++ l) (sym (take_more items i d less))

  pub config_more : (c start : Config) → c ≡ fold changed start (take i items) → changed c item ≡ fold changed start (take (i + 1) items)
  config_more c start is = ap (λ (x : Config). changed x item) is ∙ sym (fold_more changed start items i d less)

  pub value_more : (records : List StoreRecord) (p q : Persist) → IsMeaningOf (records ++ take i items) p
      → ((l : List StoreRecord) → IsMeaningOf l p → IsMeaningOf (l ++ item ∷ []) q) → IsMeaningOf (records ++ take (i + 1) items) q
  value_more records p q meaning value = subst (λ (l : List StoreRecord). IsMeaningOf l q) (records_more records) (value (records ++ take i items) meaning)

  module _ (start : Chip) (first : StoreView) (records : List StoreRecord) (mid : Chip) (store : StoreView) (fronts : Fronts start first records items i mid store) (new : Chip) where
    next_front : (c : List ℕ) → IsPut (records ++ take i items) item c → IsFront records items c
    next_front c put = ⊎_elim
        (λ h. record { tidy = put.tidy; n = i; few = omega (arith, less); holds = h })
        (λ h. record { tidy = put.tidy; n = i + 1; few = omega (arith, less); holds = subst (λ (l : List StoreRecord). Holds c l) (records_more records) h })
        put.either

    pub front_more : LeavesOnly mid new (IsPut (records ++ take i items) item) → LeavesOnly start new (IsFront records items)
    front_more leaves =
        leaves_weaker start new (λ c. IsFront records items c ⊎ IsPut (records ++ take i items) item c) (IsFront records items)
        (leaves_join start mid new (IsFront records items) (IsPut (records ++ take i items) item) fronts.leaves leaves)
        (λ c either. ⊎_elim (λ h. h) (λ h. next_front c h) either)

    pub fronts_more : (after : StoreView) → IsNotBelow store.persist item → ((l : List StoreRecord) → IsMeaningOf l store.persist → IsMeaningOf (l ++ item ∷ []) after.persist)
        → IsStoreOf new after ((records ++ take i items) ++ item ∷ []) → LeavesOnly mid new (IsPut (records ++ take i items) item) → LeavesOnly mid new (HasMarkFrom store.persist.mark)
        → Fronts start first records items (i + 1) new after
    fronts_more after rises value tie leaves marks =
        let before : List StoreRecord = records ++ take i items in
        let meaning : IsMeaningOf before store.persist = store_meaning mid store before fronts.tie in
        let from : store.persist.mark ≤ (config_of (before ++ item ∷ [])).mark = mark_from before store.persist meaning item rises in
        let is : after.persist.mark ≡ (config_of (before ++ item ∷ [])).mark = mark_before (before ++ item ∷ []) after.persist (value before meaning) in
        let least = fronts.least in
        record {
          tie = subst (λ (l : List StoreRecord). IsStoreOf new after l) (records_more records) tie;
          leaves = front_more leaves;
          least = omega (arith, from, is, least);
          marks = marks_more items i start first records mid store fronts new marks;
        }

-- How many calls are made where there is room.
abbrev with_record : CallCount → CallCount
with_record room = record { calls = room.calls + 2; erases = room.erases; octets = room.octets + RECORD_OCTETS }

calls_two : (s : StoreView) → s.journal.used < 1023 → calls_of s ≡ only_slots 1
calls_two s less = by_test (s.journal.used == 1023) refl
  where
    by_test : (b : Bool) → (s.journal.used == 1023) ≡ b → with_record (if b then compaction s.persist else only_slots 0) ≡ only_slots 1
    by_test true e = let h = eqb-true s.journal.used 1023 e in absurd (omega (arith, h, less))
    by_test false e = refl

used_same : (s : StoreView) → s.journal.used < 1023 → used_with_room s ≡ s.journal.used
used_same s less = by_test (s.journal.used == 1023) refl
  where
    by_test : (b : Bool) → (s.journal.used == 1023) ≡ b → (if b then length (snapshot_of s.persist) else s.journal.used) ≡ s.journal.used
    by_test true e = let h = eqb-true s.journal.used 1023 e in absurd (omega (arith, h, less))
    by_test false e = refl

-- What i records cost where there is room for them, and how many slots are used then.
pub record HasPut (i : ℕ) (start new : Chip) (first store : StoreView) : Type 0 where
  pub calls : Begins (2 * i) start new
  pub erases : Erases 0 start new
  pub octets : Programs (RECORD_OCTETS * i) start new
  pub used : store.journal.used ≡ first.journal.used + i

-- before the first
pub put_none : (chip : Chip) (store : StoreView) → chip.changes ≤ 4294967295 → chip.erases ≤ chip.changes → chip.octets ≤ 4294967295 → HasPut 0 chip chip store store
put_none chip store few fewer counted = record { calls = begins_none chip few; erases = omega (arith, few, fewer); octets = programs_none chip counted; used = omega arith }

module _ (n i : ℕ) (start mid new : Chip) (first store : StoreView) (less : i < n) (room : first.journal.used + n ≤ 1023) (so : HasPut i start mid first store) where
  below : store.journal.used < 1023
  below = let is = so.used in omega (arith, is, less, room)

  pub calls_more : (after : StoreView) → Begins (calls_of store).calls mid new → Erases (calls_of store).erases mid new → Programs (calls_of store).octets mid new → after.journal.used ≡ used_with_room store + 1 → HasPut (i + 1) start new first after
  calls_more after calls erases octets used =
      let two : Begins 2 mid new = subst (λ (k : CallCount). Begins k.calls mid new) (calls_two store below) calls in
      let none : Erases 0 mid new = subst (λ (k : CallCount). Erases k.erases mid new) (calls_two store below) erases in
      let slot : Programs RECORD_OCTETS mid new = subst (λ (k : CallCount). Programs k.octets mid new) (calls_two store below) octets in
      let same = used_same store below in
      let is = so.used in
      let before = so.erases in
      record {
        calls = begins_more (2 * i) 2 (2 * (i + 1)) start mid new (omega arith) so.calls two;
        erases = omega (arith, before, none);
        octets = programs_more (RECORD_OCTETS * i) RECORD_OCTETS (RECORD_OCTETS * (i + 1)) start mid new (omega arith) so.octets slot;
        used = omega (arith, used, same, is);
      }

  pub calls_at_most : BeginsAtMost (calls_of store).calls mid new → BeginsAtMost (2 * n) start new
  calls_at_most call =
      let two : BeginsAtMost 2 mid new = subst (λ (k : CallCount). BeginsAtMost k.calls mid new) (calls_two store below) call in
      let count = so.calls in
      omega (arith, count, two, less)

  pub erases_at_most : ErasesAtMost (calls_of store).erases mid new → ErasesAtMost 0 start new
  erases_at_most call =
      let none : ErasesAtMost 0 mid new = subst (λ (k : CallCount). ErasesAtMost k.erases mid new) (calls_two store below) call in
      let count = so.erases in
      omega (arith, count, none)

  pub octets_at_most : ProgramsAtMost (calls_of store).octets mid new → ProgramsAtMost (RECORD_OCTETS * n) start new
  octets_at_most call =
      let slot : ProgramsAtMost RECORD_OCTETS mid new = subst (λ (k : CallCount). ProgramsAtMost k.octets mid new) (calls_two store below) call in
      let count = so.octets in
      omega (arith, count, slot, less)

-- after the last
pub all_calls : (n i : ℕ) (start new : Chip) → i ≡ n → Begins (2 * i) start new → Begins (2 * n) start new
all_calls n i start new is so = subst (λ (k : ℕ). Begins (2 * k) start new) is so

pub all_most : (n i : ℕ) (start new : Chip) → i ≡ n → Begins (2 * i) start new → BeginsAtMost (2 * n) start new
all_most n i start new is so = omega (arith, is, so)

pub all_octets : (n i : ℕ) (start new : Chip) → i ≡ n → Programs (RECORD_OCTETS * i) start new → Programs (RECORD_OCTETS * n) start new
all_octets n i start new is so = subst (λ (k : ℕ). Programs (RECORD_OCTETS * k) start new) is so

pub most_octets : (n i : ℕ) (start new : Chip) → i ≡ n → Programs (RECORD_OCTETS * i) start new → ProgramsAtMost (RECORD_OCTETS * n) start new
most_octets n i start new is so = omega (arith, is, so)

pub none_erased : (start new : Chip) → Erases 0 start new → ErasesAtMost 0 start new
none_erased start new so = omega (arith, so)

-- What each record costs, also where there isn't room for all.

-- before the first
pub each_none : (chip : Chip) (store : StoreView) → chip.changes ≤ 4294967295 → chip.erases ≤ chip.changes → chip.octets ≤ 4294967295 → CostsEach [] chip chip store store
each_none chip store few fewer counted = record { n = only_slots 0; sum = none_put; calls = begins_none chip few; erases = erases_none chip fewer few; octets = programs_none chip counted }

-- one more
module _ (items : List StoreRecord) (i : ℕ) (d : StoreRecord) (less : i < length items) (start mid new : Chip) (first store : StoreView) (so : CostsEach (take i items) start mid first store) where
  pub each_more : (after : StoreView) → IsNext store (get_or items i d) after → Begins (calls_of store).calls mid new → Erases (calls_of store).erases mid new → Programs (calls_of store).octets mid new
      → CostsEach (take (i + 1) items) start new first after
  each_more after next calls erases octets = record {
    n = and_then so.n (calls_of store);
    sum = subst (λ (l : List StoreRecord). IsSumOf first l after (and_then so.n (calls_of store))) (sym (take_more items i d less)) (one_more so.sum next);
    calls = begins_more so.n.calls (calls_of store).calls (and_then so.n (calls_of store)).calls start mid new refl so.calls calls;
    erases = erases_more so.n.erases (calls_of store).erases (and_then so.n (calls_of store)).erases start mid new refl so.erases erases;
    octets = programs_more so.n.octets (calls_of store).octets (and_then so.n (calls_of store)).octets start mid new refl so.octets octets;
  }

-- one that failed
module _ (items : List StoreRecord) (i : ℕ) (d : StoreRecord) (less : i < length items) (start mid new : Chip) (first store last : StoreView) (so : CostsEach (take i items) start mid first store) where
  pub each_some : ((records : List StoreRecord) → IsStoreOf start first records → Fronts start first records items i mid store)
      → CutLeaves (λ records. IsPut records (get_or items i d)) mid new store
      → ((c : List ℕ) → mid.moment ≤ new.moment → new.images c → new.since mid.moment c)
      → last.persist ≡ store.persist → BeginsAtMost (calls_of store).calls mid new → ErasesAtMost (calls_of store).erases mid new → ProgramsAtMost (calls_of store).octets mid new → CostsSome items start new first last
  each_some fronts cut counts says calls erases octets =
      let called = so.calls in
      let erased = so.erases in
      let given = so.octets in
      record {
        few = i;
        below = less;
        left = store;
        says = says;
        n = so.n;
        sum = so.sum;
        most_calls = omega (arith, called, calls);
        most_erases = omega (arith, erased, erases);
        most_octets = omega (arith, given, octets);
        held = λ records tie c image.
            let leaves : LeavesOnly mid new (IsPut (records ++ take i items) (get_or items i d)) = cut.any_moment (records ++ take i items) (fronts records tie).tie in
            ⊎_elim
            (λ h. inl h)
            (λ h. inr (subst (λ (l : List StoreRecord). Holds c l) (records_more items i d less records) h))
            (leaves.each c (counts c leaves.later image)).either;
      }

-- at the end all are put
module _ (items : List StoreRecord) (i : ℕ) (most : length items ≤ i) where
  pub config_all : (c start : Config) → c ≡ fold changed start (take i items) → c ≡ fold changed start items
  config_all c start is = is ∙ ap (λ (l : List StoreRecord). fold changed start l) (take_all i items most)

  pub value_all : (records : List StoreRecord) (p : Persist) → IsMeaningOf (records ++ take i items) p → IsMeaningOf (records ++ items) p
  value_all records p = subst (λ (l : List StoreRecord). IsMeaningOf (records ++ l) p) (take_all i items most)

  pub tie_all : (records : List StoreRecord) (chip : Chip) (store : StoreView) → IsStoreOf chip store (records ++ take i items) → IsStoreOf chip store (records ++ items)
  tie_all records chip store = subst (λ (l : List StoreRecord). IsStoreOf chip store (records ++ l)) (take_all i items most)

  pub each_all : (start new : Chip) (first store : StoreView) → CostsEach (take i items) start new first store → CostsEach items start new first store
  each_all start new first store = subst (λ (l : List StoreRecord). CostsEach l start new first store) (take_all i items most)
