-- A put, over the chip before and after.
use Rattle.std.proofs.Common.{◌≡◌, ◌⊎◌, inl, inr, ⊎_elim, ℕ, ◌≤◌, List, [], ◌∷◌, ◌++◌, Some, false, refl, ap, sym, subst, ◌∙◌, arith}
use Rattle.std.specs.Prelude.{fold, map, option_map}
use Rattle.std.proofs.lemmas.List.{append-nil, map-append}
use Rattle.std.proofs.lemmas.List.Elements.{All-push}
use Rattle.flash_model.specs.Chip.{Chip, LeavesOnly}
use Rattle.flash_model.proofs.Leaves.{leaves_join, leaves_weaker}
use Rattle.slot_definitions.specs.Slots.{Held, held_by, recovered}
use Rattle.record_types.specs.declared.records.StoreRecord.{StoreRecord}
use Rattle.store_definitions.specs.Alike.{IsAlike}
use Rattle.store_definitions.specs.Config.{Config, changed}
use Rattle.store_definitions.specs.Following.{Follows}
use Rattle.store_definitions.specs.Ranges.{IsInRange}
use Rattle.store_definitions.specs.Recovered.{record_text, IsRecovered}
use Rattle.node_records.specs.Full.{IsFull}
use Rattle.node_records.specs.declared.persist.Persist.{Persist}
use Rattle.node_records.specs.Meaning.{IsMeaningOf}
use Rattle.node_records.specs.Tables.{config_in}
use Rattle.node_records.proofs.Alike.{alike_push}
use Rattle.node_records.proofs.Room.{full_passes}
use Rattle.slot_journal.specs.Tie.{IsAppended, IsJournalOf, with_last}
use Rattle.node_store.specs.Mounted.{IsRead}
use Rattle.node_store.specs.Tie.{HasMark, HasMarkFrom, Holds, IsExactly, IsHeld, IsNoNumbers, IsNotBelow, IsPut, IsStoreOf}
use Rattle.node_store.specs.View.{StoreView}
use Rattle.node_store.specs.Writing.{CutLeaves, Puts}
use Rattle.node_store.proofs.Follows.{mark_before, mark_from, mark_same, not_below_current, rises_of}
use Rattle.node_store.proofs.Holding.{holds_recovered, store_images, store_meaning}
use Rattle.node_store.proofs.Orders.{in_order_push}

-- A record is added to a bank of format 02.
module _ (old : Chip) (store : StoreView) (records : List StoreRecord) (item : StoreRecord) (tie : IsStoreOf old store records) (range : IsInRange item) (two : store.journal.version ≡ 2)
    (rises : IsNotBelow store.persist item) (place : IsFull store.persist item → ⊥) where
  abbrev found : List StoreRecord
  found = tie.found

  abbrev exact : IsExactly old store found
  exact = tie.exact

  -- the format that is recovered is that of the journal
  recovered_format : store.journal.version ≡ exact.read.held.format
  recovered_format =
      let held : Some (held_by old.now store.journal.bank) ≡ Some (record { format = exact.read.held.format; slots = map record_text found }) =
      sym (ap (option_map (held_by old.now)) exact.journal.mounted.bank) ∙ exact.read.held.texts in
      sym exact.journal.mounted.version ∙ ap (λ (h : Held). h.format) (some_held _ _ held)
    where
      some_held : (a b : Held) → Some a ≡ Some b → a ≡ b
      some_held a b e = cc

  not_one : exact.read.held.format ≡ 1 → ⊥
  not_one e = let h = recovered_format in absurd (omega (arith, h, e, two))

  follows : Follows found item
  follows = record {
    within = λ passes. place ((full_passes found store.persist item exact.meaning).1 passes);
    rises = rises_of found store.persist exact.meaning item (not_below_current store.persist item rises);
  }

  -- with the new slot last
  recovered_more : (c : List ℕ) → recovered c ≡ with_last (record_text item) (recovered old.now) → IsRecovered c (found ++ item ∷ [])
  recovered_more c is = record {
    format = exact.read.held.format;
    texts = is ∙ ap (with_last (record_text item)) exact.read.held.texts
        ∙ (λ i. let h : Held = record { format = exact.read.held.format; slots = sym (map-append record_text found (item ∷ [])) i } in Some h);
    ranges = All-push IsInRange found item exact.read.held.ranges range;
    names = λ e. absurd (not_one e);
  }

  read_more : (c : List ℕ) → recovered c ≡ with_last (record_text item) (recovered old.now) → IsRead c (found ++ item ∷ [])
  read_more c is = record { held = recovered_more c is; order = in_order_push [] found item exact.read.order follows }

  alike_more : IsAlike (found ++ item ∷ []) (records ++ item ∷ [])
  alike_more = alike_push found records item follows.rises tie.alike

  added_leaves : (c : List ℕ) → IsAppended (recovered old.now) (record_text item) c → IsPut records item c
  added_leaves c done = record {
    tidy = done.tidy;
    either = ⊎_elim
        (λ h. inl (record {
          found = found;
          read = record {
            held = record { format = exact.read.held.format; texts = h ∙ exact.read.held.texts; ranges = exact.read.held.ranges; names = exact.read.held.names };
            order = exact.read.order;
          };
          alike = tie.alike;
        }))
        (λ h. inr (record { found = found ++ item ∷ []; read = read_more c h; alike = alike_more }))
        done.either;
  }

  pub added_moment : (new : Chip) → LeavesOnly old new (IsAppended (recovered old.now) (record_text item)) → LeavesOnly old new (IsPut records item)
  added_moment new leaves = leaves_weaker old new (IsAppended (recovered old.now) (record_text item)) (IsPut records item) leaves added_leaves

  pub added_kept : (new : Chip) (after : StoreView) → recovered new.now ≡ with_last (record_text item) (recovered old.now) → IsJournalOf new after.journal
      → ((l : List StoreRecord) → IsMeaningOf l store.persist → IsMeaningOf (l ++ item ∷ []) after.persist) → IsStoreOf new after (records ++ item ∷ [])
  added_kept new after is journal value = record {
    found = found ++ item ∷ [];
    exact = record { journal = journal; read = read_more new.now is; meaning = value found exact.meaning };
    alike = alike_more;
  }

-- Room is made, and then it is added.

held_put : (records : List StoreRecord) (item : StoreRecord) (c : List ℕ) → IsHeld records c → IsPut records item c
held_put records item c h = record { tidy = h.tidy; either = inl h.holds }

pub room_moment : (old new : Chip) (records : List StoreRecord) (item : StoreRecord) → LeavesOnly old new (IsHeld records) → LeavesOnly old new (IsPut records item)
room_moment old new records item leaves = leaves_weaker old new (IsHeld records) (IsPut records item) leaves (held_put records item)

pub put_moment : (old mid new : Chip) (records : List StoreRecord) (item : StoreRecord) → LeavesOnly old mid (IsHeld records) → LeavesOnly mid new (IsPut records item) → LeavesOnly old new (IsPut records item)
put_moment old mid new records item first second =
    leaves_weaker old new (λ c. IsHeld records c ⊎ IsPut records item c) (IsPut records item)
    (leaves_join old mid new (IsHeld records) (IsPut records item) first second)
    (λ c either. ⊎_elim (λ h. held_put records item c h) (λ h. h) either)

-- The mark.

module _ (chip : Chip) (store : StoreView) (records : List StoreRecord) (item : StoreRecord) (tie : IsStoreOf chip store records) where
  abbrev meaning : IsMeaningOf records store.persist
  meaning = store_meaning chip store records tie

  from_mark : IsNotBelow store.persist item → (c : List ℕ) → IsPut records item c → HasMarkFrom store.persist.mark c
  from_mark rises c put found held = ⊎_elim
      (λ h. subst (λ (d : Config). store.persist.mark ≤ d.mark) (holds_recovered c records found h held).config (omega (arith, mark_before records store.persist meaning)))
      (λ h. subst (λ (d : Config). store.persist.mark ≤ d.mark) (holds_recovered c (records ++ item ∷ []) found h held).config (mark_from records store.persist meaning item rises))
      put.either

  pub put_mark : (old new : Chip) → IsNotBelow store.persist item → LeavesOnly old new (IsPut records item) → LeavesOnly old new (HasMarkFrom store.persist.mark)
  put_mark old new rises leaves = leaves_weaker old new (IsPut records item) (HasMarkFrom store.persist.mark) leaves (from_mark rises)

  with_mark : IsNoNumbers item → (c : List ℕ) → IsPut records item c → HasMark store.persist.mark c
  with_mark none c put found held = ⊎_elim
      (λ h. subst (λ (d : Config). d.mark ≡ store.persist.mark) (holds_recovered c records found h held).config (sym (mark_before records store.persist meaning)))
      (λ h. subst (λ (d : Config). d.mark ≡ store.persist.mark) (holds_recovered c (records ++ item ∷ []) found h held).config (mark_same records store.persist meaning item none))
      put.either

  pub put_same_mark : (old new : Chip) → IsNoNumbers item → LeavesOnly old new (IsPut records item) → LeavesOnly old new (HasMark store.persist.mark)
  put_same_mark old new none leaves = leaves_weaker old new (IsPut records item) (HasMark store.persist.mark) leaves (with_mark none)

-- it is durable
pub put_durable : (chip : Chip) (store : StoreView) (records : List StoreRecord) → IsStoreOf chip store records → (c : List ℕ) → chip.images c → Holds c records
put_durable chip store records tie c image = (store_images chip store records tie c image).holds

-- The words of a call that puts.

pub puts_of : (items : List StoreRecord) (old new : Chip) (before after : StoreView) → after.journal.closed ≡ false
    → config_in after.persist ≡ fold changed (config_in before.persist) items
    → ((records : List StoreRecord) → IsMeaningOf records before.persist → IsMeaningOf (records ++ items) after.persist)
    → ((records : List StoreRecord) → IsStoreOf old before records → IsStoreOf new after (records ++ items)) → Puts items old new before after
puts_of items old new before after usable change value kept = record {
  usable = usable;
  change = change;
  value = value;
  kept = kept;
  durable = λ records tie. put_durable new after (records ++ items) (kept records tie);
}

-- where there is none to put
pub puts_none : (chip : Chip) (store : StoreView) → store.journal.closed ≡ false → Puts [] chip chip store store
puts_none chip store usable =
    puts_of [] chip chip store store usable refl
    (λ records meaning. subst (λ (l : List StoreRecord). IsMeaningOf l store.persist) (sym (append-nil records)) meaning)
    (λ records tie. subst (λ (l : List StoreRecord). IsStoreOf chip store l) (sym (append-nil records)) tie)

-- room is made before
pub room_puts : (items : List StoreRecord) (old mid new : Chip) (before between after : StoreView) → between.persist ≡ before.persist
    → ((records : List StoreRecord) → IsStoreOf old before records → IsStoreOf mid between records) → Puts items mid new between after → Puts items old new before after
room_puts items old mid new before between after stays there puts = record {
  usable = puts.usable;
  change = puts.change ∙ ap (λ (p : Persist). fold changed (config_in p) items) stays;
  value = λ records meaning. puts.value records (subst (λ (p : Persist). IsMeaningOf records p) (sym stays) meaning);
  kept = λ records tie. puts.kept records (there records tie);
  durable = λ records tie. puts.durable records (there records tie);
}

pub put_cut : (old new : Chip) (store : StoreView) (item : StoreRecord) → IsNotBelow store.persist item
    → ((records : List StoreRecord) → IsStoreOf old store records → LeavesOnly old new (IsPut records item)) → CutLeaves (λ records. IsPut records item) old new store
put_cut old new store item rises leaves = record {
  any_moment = leaves;
  mark = λ records tie. put_mark old store records item tie old new rises (leaves records tie);
}
