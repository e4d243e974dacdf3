-- A bank is erased, sector by sector.
use Rattle.std.proofs.Common.{◌≡◌, ◌⊎◌, ℕ, ◌+◌, ◌*◌, ◌<◌, ◌≤◌, List, get_or, refl, sym, ap, ◌∙◌, subst, inl, inr, ⊎_elim, arith}
use Rattle.std.specs.Int.{bit_at}
use Rattle.std.proofs.lemmas.Bool.{cases_lt}
use Rattle.std.proofs.lemmas.List.{get_or_past, get_or-replicate}
use Rattle.mesh_base.specs.declared.slot.Slot.{Slot}
use Rattle.flash_model.specs.Octets.{IsBetween, IsContent, IsTorn, erased}
use Rattle.flash_model.specs.Chip.{Chip, Cut, IsCut, IsDone, IsFresh, LeavesOnly}
use Rattle.flash_model.proofs.Changed.{blanked_below, blanked_above, blanked_within}
use Rattle.flash_model.proofs.Mixed.{torn_same, torn_content, blanked_content, torn_none}
use Rattle.flash_model.proofs.Leaves.{IsOnlyNow, leaves_none, leaves_more}
use Rattle.slot_definitions.specs.Slots.{text_at, blank_text}
use Rattle.slot_journal.specs.Banks.{StaysOutside, IsErasing, IsErasedTo, IsBankFilled}
use Rattle.slot_journal.proofs.Texts.{get_text, length_text, texts_same, text_blank}

pub erased_none : (bank : ℕ) (chip : Chip) → IsFresh chip → IsContent chip.now → IsErasedTo bank 0 chip.now chip
erased_none bank chip fresh whole = record { fresh = fresh; whole = whole; inside = λ o above below. absurd (omega arith); outside = λ o out. refl }

-- octets outside a bank stay, so its slots do
outside_by : (bank : ℕ) (old c : List ℕ) → bank ≤ 1 → IsContent old → IsContent c → ((o : ℕ) → (o < 32768 * bank) ⊎ (32768 * bank + 32768 ≤ o) → get_or c o 0 ≡ get_or old o 0) → StaysOutside bank old c
outside_by bank old c low whole whole' same n lt out = texts_same c old n whole' whole lt (λ k small. same (32 * n + k) (⊎_elim (λ (l : n < 1024 * bank). inl (omega arith)) (λ (r : 1024 * bank + 1024 ≤ n). inr (omega arith)) out))

module _ (bank k : ℕ) (old : List ℕ) (mid : Chip) (low : bank ≤ 1) (few : k < 8) (whole : IsContent old) (so : IsErasedTo bank k old mid) where
  abbrev next : List ℕ
  next = erased (8 * bank + k) mid.now

  next_whole : IsContent next
  next_whole = blanked_content (4096 * (8 * bank + k)) 4096 mid.now so.whole

  -- an octet of the sector is ff then, and any other stays
  next_octet : (o : ℕ) → (get_or next o 0 ≡ 255) ⊎ (get_or next o 0 ≡ get_or mid.now o 0)
  next_octet o = ⊎_elim
      (λ (below : o < 4096 * (8 * bank + k)). inr (blanked_below (4096 * (8 * bank + k)) 4096 mid.now o below))
      (λ (above : 4096 * (8 * bank + k) ≤ o). ⊎_elim
      (λ (within : o < 4096 * (8 * bank + k) + 4096). inl (blanked_within (4096 * (8 * bank + k)) 4096 mid.now o above within (let size = so.whole.size in omega (arith, size, within, low, few))))
      (λ (behind : 4096 * (8 * bank + k) + 4096 ≤ o). inr (blanked_above (4096 * (8 * bank + k)) 4096 mid.now o behind))
      (cases_lt o (4096 * (8 * bank + k) + 4096)))
      (cases_lt o (4096 * (8 * bank + k)))

  next_outside : (o : ℕ) → (o < 4096 * (8 * bank + k)) ⊎ (4096 * (8 * bank + k) + 4096 ≤ o) → get_or next o 0 ≡ get_or mid.now o 0
  next_outside o (inl below) = blanked_below (4096 * (8 * bank + k)) 4096 mid.now o below
  next_outside o (inr above) = blanked_above (4096 * (8 * bank + k)) 4096 mid.now o above

  -- what was erased so far is ff, and any other octet is the old one
  mid_octet : (o : ℕ) → (get_or mid.now o 0 ≡ 255) ⊎ (get_or mid.now o 0 ≡ get_or old o 0)
  mid_octet o = ⊎_elim
      (λ (below : o < 32768 * bank). inr (so.outside o (inl below)))
      (λ (above : 32768 * bank ≤ o). ⊎_elim
      (λ (within : o < 32768 * bank + 4096 * k). inl (so.inside o above within))
      (λ (behind : 32768 * bank + 4096 * k ≤ o). inr (so.outside o (inr behind)))
      (cases_lt o (32768 * bank + 4096 * k)))
      (cases_lt o (32768 * bank))

  between : (c : List ℕ) → IsTorn mid.now next c → (o : ℕ) → IsBetween (get_or old o 0) 255 (get_or c o 0)
  between c torn o = by_cases (get_or old o 0) (get_or mid.now o 0) (get_or next o 0) (get_or c o 0) (mid_octet o) (next_octet o) (torn.each o)
    where
      by_cases : (a m n x : ℕ) → (m ≡ 255) ⊎ (m ≡ a) → (n ≡ 255) ⊎ (n ≡ m) → IsBetween m n x → IsBetween a 255 x
      by_cases a m n x (inl e) (inl d) by j = inr (⊎_elim (λ h. subst (λ (y : ℕ). bit_at x j ≡ bit_at y j) e h) (λ h. subst (λ (y : ℕ). bit_at x j ≡ bit_at y j) d h) (by j))
      by_cases a m n x (inl e) (inr d) by j = inr (⊎_elim (λ h. subst (λ (y : ℕ). bit_at x j ≡ bit_at y j) e h) (λ h. subst (λ (y : ℕ). bit_at x j ≡ bit_at y j) (d ∙ e) h) (by j))
      by_cases a m n x (inr e) (inl d) by j = ⊎_elim (λ h. inl (subst (λ (y : ℕ). bit_at x j ≡ bit_at y j) e h)) (λ h. inr (subst (λ (y : ℕ). bit_at x j ≡ bit_at y j) d h)) (by j)
      by_cases a m n x (inr e) (inr d) by j = inl (⊎_elim (λ h. subst (λ (y : ℕ). bit_at x j ≡ bit_at y j) e h) (λ h. subst (λ (y : ℕ). bit_at x j ≡ bit_at y j) (d ∙ e) h) (by j))

  -- a cut within the sector's erase
  pub erasing_torn : (c : List ℕ) → IsTorn mid.now next c → IsErasing bank old c
  erasing_torn c torn =
      let content = torn_content mid.now next c so.whole next_whole torn in
      record {
        whole = content;
        outside = outside_by bank old c low whole content (λ o out. torn_same mid.now next c o torn (next_outside o (wider o out)) ∙ so.outside o (wide o out));
        header = record {
          size = length_text c (1024 * bank) content (omega (arith, low)) ∙ sym (length_text old (1024 * bank) whole (omega (arith, low)));
          each = λ j. header_octet content j;
        };
      }
    where
      wider : (o : ℕ) → (o < 32768 * bank) ⊎ (32768 * bank + 32768 ≤ o) → (o < 4096 * (8 * bank + k)) ⊎ (4096 * (8 * bank + k) + 4096 ≤ o)
      wider o (inl l) = inl (omega (arith, l))
      wider o (inr r) = inr (omega (arith, r, few))

      wide : (o : ℕ) → (o < 32768 * bank) ⊎ (32768 * bank + 32768 ≤ o) → (o < 32768 * bank) ⊎ (32768 * bank + 4096 * k ≤ o)
      wide o (inl l) = inl l
      wide o (inr r) = inr (omega (arith, r, few))

      header_octet : IsContent c → (j : ℕ) → IsBetween (get_or (text_at old (1024 * bank)) j 0) (get_or blank_text j 0) (get_or (text_at c (1024 * bank)) j 0)
      header_octet content j = ⊎_elim
          (λ (small : j < 32).
          let was = get_text old (1024 * bank) j small in
          let is = get_text c (1024 * bank) j small in
          let blank : get_or blank_text j 0 ≡ 255 = get_or-replicate 32 j 255 0 small in
          subst (λ (a : ℕ). IsBetween a (get_or blank_text j 0) (get_or (text_at c (1024 * bank)) j 0)) (sym was)
          (subst (λ (b : ℕ). IsBetween (get_or old (32 * (1024 * bank) + j) 0) b (get_or (text_at c (1024 * bank)) j 0)) (sym blank)
          (subst (λ (x : ℕ). IsBetween (get_or old (32 * (1024 * bank) + j) 0) 255 x) (sym is) (between c torn (32 * (1024 * bank) + j)))))
          (λ (past : 32 ≤ j). λ i. inl (ap (λ (x : ℕ). bit_at x i)
          (get_or_past (text_at c (1024 * bank)) j 0 (let size = length_text c (1024 * bank) content (omega (arith, low)) in omega (arith, size))
          ∙ sym (get_or_past (text_at old (1024 * bank)) j 0 (let size = length_text old (1024 * bank) whole (omega (arith, low)) in omega (arith, size))))))
          (cases_lt j 32)

  pub erased_more : (new : Chip) → IsFresh new → new.now ≡ next → IsErasedTo bank (k + 1) old new
  erased_more new fresh is = record {
    fresh = fresh;
    whole = subst IsContent (sym is) next_whole;
    inside = λ o above below. ap (λ (l : List ℕ). get_or l o 0) is ∙ ⊎_elim
        (λ (before : o < 4096 * (8 * bank + k)). next_outside o (inl before) ∙ so.inside o above (omega (arith, before)))
        (λ (here : 4096 * (8 * bank + k) ≤ o). blanked_within (4096 * (8 * bank + k)) 4096 mid.now o here (omega (arith, below)) (let size = so.whole.size in omega (arith, size, below, low, few)))
        (cases_lt o (4096 * (8 * bank + k)));
    outside = λ o out. ap (λ (l : List ℕ). get_or l o 0) is ∙ next_outside o (⊎_elim (λ (l : o < 32768 * bank). inl (omega (arith, l))) (λ (r : 32768 * bank + 4096 * (k + 1) ≤ o). inr (omega (arith, r))) out)
        ∙ so.outside o (⊎_elim (λ (l : o < 32768 * bank). inl l) (λ (r : 32768 * bank + 4096 * (k + 1) ≤ o). inr (omega (arith, r))) out);
  }

  -- over chips
  module _ (start new : Chip) (before : LeavesOnly start mid (IsErasing bank old)) where
    pub erase_leaves : IsCut (erased (8 * bank + k)) mid new → LeavesOnly start new (IsErasing bank old)
    erase_leaves cut = leaves_more start mid new (Cut (erased (8 * bank + k)) mid.images) (IsErasing bank old) before cut.time
        (λ c image. erasing_torn c (subst (λ (d : List ℕ). IsTorn d (erased (8 * bank + k) d) c) (so.fresh.only image.0 image.1) image.2))

  pub erase_fresh : (new : Chip) → new.honest ≡ mid.honest → IsDone (erased (8 * bank + k)) mid new → IsFresh new
  erase_fresh new same done = record {
    honest = same ∙ so.fresh.honest;
    only = λ c image. let from = done.durable c image in from.2 ∙ ap (erased (8 * bank + k)) (so.fresh.only from.0 from.1) ∙ sym done.reads;
  }

-- nothing is erased yet
pub erasing_none : (bank : ℕ) (old : List ℕ) → IsContent old → IsErasing bank old old
erasing_none bank old whole = record { whole = whole; outside = λ n lt out. refl; header = torn_none (text_at old (1024 * bank)) blank_text }

pub none_erased : (bank : ℕ) (chip : Chip) → IsOnlyNow chip → IsFresh chip → IsContent chip.now → LeavesOnly chip chip (IsErasing bank chip.now)
none_erased bank chip only fresh whole = leaves_none chip (IsErasing bank chip.now) only (λ c image. subst (IsErasing bank chip.now) (sym (fresh.only c image)) (erasing_none bank chip.now whole))

-- a bank that is erased is filled with nothing
pub erased_bank : (bank : ℕ) (items : List Slot) (old : List ℕ) (chip : Chip) → bank ≤ 1 → IsContent old → IsErasedTo bank 8 old chip → IsBankFilled bank items 0 old chip
erased_bank bank items old chip low whole so = record {
  fresh = so.fresh;
  whole = so.whole;
  outside = outside_by bank old chip.now low whole so.whole (λ o out. so.outside o (⊎_elim (λ (l : o < 32768 * bank). inl l) (λ (r : 32768 * bank + 32768 ≤ o). inr (omega (arith, r))) out));
  header = text_blank chip.now (1024 * bank) so.whole (omega (arith, low)) (λ k small. so.inside (32 * (1024 * bank) + k) (omega arith) (omega (arith, small)));
  written = λ m d less. absurd (omega arith);
  behind = λ n above below. text_blank chip.now (1024 * bank + n) so.whole (omega (arith, low, below)) (λ k small. so.inside (32 * (1024 * bank + n) + k) (omega arith) (omega (arith, small, below)));
}
