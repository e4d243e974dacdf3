-- Items are written into a blank bank, one after another.
use Rattle.std.proofs.Common.{◌≡◌, ◌≢◌, ◌⊎◌, ℕ, zero, suc, ◌+◌, ◌-◌, ◌*◌, ◌<◌, ◌≤◌, List, [], ◌∷◌, ◌++◌, length, get_or, take, Some, None, refl, sym, ap, ◌∙◌, subst, inl, inr, ⊎_elim, arith}
use Rattle.std.specs.Prelude.{option_to_list, slice_get}
use Rattle.std.proofs.lemmas.Bool.{cases_lt}
use Rattle.std.proofs.lemmas.List.{take_all}
use Rattle.std.proofs.Math.Seq.{take-suc}
use Rattle.node_limits.specs.declared.TheConstants.{BANK_RECORDS}
use Rattle.mesh_base.specs.declared.slot.Slot.{Slot}
use Rattle.flash_model.specs.Chip.{Chip, IsFresh, LeavesOnly}
use Rattle.flash_model.proofs.Leaves.{IsOnlyNow, leaves_none, leaves_join, leaves_weaker}
use Rattle.slot_definitions.specs.Slots.{text_at, text_of, blank_text, gated, slots_to, slots_of, IsUsed}
use Rattle.slot_definitions.proofs.SlotLaws.{slots_blank, gated_text}
use Rattle.slot_journal.specs.Slots.{IsWritten, IsSlotWrite}
use Rattle.slot_journal.specs.Banks.{StaysOutside, IsBankBare, IsBankFilled}
use Rattle.slot_journal.proofs.Texts.{length_text}

-- behind the last item there is none
pub past_all : (items : List Slot) (k : ℕ) → slice_get items k ≡ None → length items ≤ k
past_all [] k e = omega arith
past_all (x ∷ items) zero e = absurd (no e)
  where
    no : Some x ≡ None → ⊥
    no e = cc
past_all (x ∷ items) (suc k) e = let h : length items ≤ k = past_all items k e in omega (arith, h)

module _ (bank : ℕ) (items : List Slot) (k : ℕ) (base : List ℕ) (chip : Chip) (low : bank ≤ 1) (few : k < BANK_RECORDS) (so : IsBankFilled bank items k base chip) where
  -- the next slot, before it is written
  pub next_item : text_at chip.now (1024 * bank + (k + 1)) ≡ blank_text
  next_item = so.behind (k + 1) (omega arith) (omega arith)

  away : (n : ℕ) → (n < 1024 * bank) ⊎ (1024 * bank + 1024 ≤ n) → n ≢ 1024 * bank + (k + 1)
  away n (inl l) e = absurd (omega (arith, l, e))
  away n (inr r) e = absurd (omega (arith, r, e, few))

  pub filled_more : (new : Chip) (item : Slot) → ((d : Slot) → item ≡ get_or items k d) → IsFresh new → IsWritten (1024 * bank + (k + 1)) (text_of item) chip.now new.now → IsBankFilled bank items (k + 1) base new
  filled_more new item is fresh write = record {
    fresh = fresh;
    whole = write.whole;
    outside = λ n lt out. write.elsewhere n lt (away n out) ∙ so.outside n lt out;
    header = write.elsewhere (1024 * bank) (omega (arith, low)) (λ e. absurd (omega arith)) ∙ so.header;
    written = λ m d less. ⊎_elim
        (λ (before : m < k). write.elsewhere (1024 * bank + (m + 1)) (omega (arith, low, before, few)) (λ e. absurd (omega (arith, e, before))) ∙ so.written m d before)
        (λ (here : k ≤ m). let e : m ≡ k = omega arith in subst (λ (j : ℕ). text_at new.now (1024 * bank + (j + 1)) ≡ text_of (get_or items j d)) (sym e) (write.here ∙ ap text_of (is d)))
        (cases_lt m k);
    behind = λ n above below. write.elsewhere (1024 * bank + n) (omega (arith, low, below)) (λ e. absurd (omega (arith, e, above))) ∙ so.behind n (omega arith) below;
  }

  pub write_bare : (text c : List ℕ) → IsSlotWrite (1024 * bank + (k + 1)) text chip.now c → IsBankBare bank base c
  write_bare text c write = record {
    whole = write.whole;
    outside = λ n lt out. write.elsewhere n lt (away n out) ∙ so.outside n lt out;
    header = write.elsewhere (1024 * bank) (omega (arith, low)) (λ e. absurd (omega arith)) ∙ so.header;
  }

  pub item_leaves : (start new : Chip) (text : List ℕ) → LeavesOnly start chip (IsBankBare bank base) → LeavesOnly chip new (IsSlotWrite (1024 * bank + (k + 1)) text chip.now) → LeavesOnly start new (IsBankBare bank base)
  item_leaves start new text before leaves = leaves_weaker start new (λ c. IsBankBare bank base c ⊎ IsSlotWrite (1024 * bank + (k + 1)) text chip.now c) (IsBankBare bank base)
      (leaves_join start chip new (IsBankBare bank base) (IsSlotWrite (1024 * bank + (k + 1)) text chip.now) before leaves)
      (λ c either. ⊎_elim (λ b. b) (λ write. write_bare text c write) either)

pub filled_bare : (bank : ℕ) (items : List Slot) (k : ℕ) (base : List ℕ) (chip : Chip) → IsBankFilled bank items k base chip → IsBankBare bank base chip.now
filled_bare bank items k base chip so = record { whole = so.whole; outside = so.outside; header = so.header }

pub none_leaves : (bank : ℕ) (items : List Slot) (base : List ℕ) (chip : Chip) → IsOnlyNow chip → IsBankFilled bank items 0 base chip → LeavesOnly chip chip (IsBankBare bank base)
none_leaves bank items base chip only so = leaves_none chip (IsBankBare bank base) only (λ c image. subst (IsBankBare bank base) (sym (so.fresh.only c image)) (filled_bare bank items 0 base chip so))

-- all items are written, and then at most the bank's header differs
module _ (bank : ℕ) (items : List Slot) (base : List ℕ) (chip : Chip) (low : bank ≤ 1) (few : length items ≤ BANK_RECORDS) (so : IsBankFilled bank items (length items) base chip) (c text : List ℕ) (write : IsSlotWrite (1024 * bank) text chip.now c) where
  some_slot : Slot
  some_slot = record { kind = 0; body = [] }

  here : (n : ℕ) → 0 < n → n ≤ 1023 → text_at c (1024 * bank + n) ≡ text_at chip.now (1024 * bank + n)
  here n above below = write.elsewhere (1024 * bank + n) (omega (arith, low, below)) (λ e. absurd (omega (arith, e, above)))

  pub header_outside : StaysOutside bank base c
  header_outside n lt out = write.elsewhere n lt (λ e. ⊎_elim (λ (l : n < 1024 * bank). absurd (omega (arith, l, e))) (λ (r : 1024 * bank + 1024 ≤ n). absurd (omega (arith, r, e))) out) ∙ so.outside n lt out

  holds : (k : ℕ) → k < length items → (n : ℕ) → n ≡ k + 1 → gated (text_at c (1024 * bank + n)) ≡ Some (get_or items k some_slot)
  holds k less n e =
      let is = ap (λ (m : ℕ). text_at c (1024 * bank + m)) e ∙ here (k + 1) (omega arith) (omega arith) ∙ so.written k some_slot less in
      let size = sym (ap (λ (l : List ℕ). length l) is) ∙ length_text c (1024 * bank + n) write.whole (omega (arith, low, less, few, e)) in
      ap gated is ∙ gated_text (get_or items k some_slot) size

  filled_to : (k : ℕ) → k ≤ length items → slots_to c bank k ≡ take k items
  filled_to zero le = refl
  filled_to (suc k) le =
      (λ i. filled_to k (omega arith) i ++ option_to_list (holds k (omega arith) (suc k) (omega arith) i))
      ∙ sym (take-suc items k some_slot (omega arith))

  blank_behind : (m : ℕ) → length items < m → m ≤ 1023 → text_at c (1024 * bank + m) ≡ blank_text
  blank_behind m above below = here m (omega (arith, above)) below ∙ so.behind m above below

  pub all_items : slots_of c bank ≡ items
  unfolding slots_of
  all_items = slots_blank c bank (length items) (1023 - length items) 1023 (omega arith) blank_behind ∙ filled_to (length items) (omega arith) ∙ take_all (length items) items (omega arith)

  pub used_items : IsUsed c bank (length items)
  used_items = record { few = omega arith; blank = blank_behind; last = λ some is. last some (length items - 1) (omega arith) is }
    where
      no_slot : (x : Slot) → Some x ≡ None → ⊥
      no_slot x e = cc

      last : 0 < length items → (k : ℕ) → length items ≡ k + 1 → text_at c (1024 * bank + length items) ≡ blank_text → ⊥
      last some k e is = no_slot (get_or items k some_slot) (sym (holds k (omega arith) (length items) e) ∙ ap gated is)
