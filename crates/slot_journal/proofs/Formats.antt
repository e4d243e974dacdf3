-- A blank flash is scanned, filled, and given its header.
use Rattle.std.proofs.Common.{◌≡◌, ◌≢◌, ◌⊎◌, ℕ, ◌+◌, ◌-◌, ◌*◌, ◌<◌, ◌≤◌, List, [], length, get_or, Some, None, true, false, refl, sym, ap, ◌∙◌, subst, inl, inr, ⊎_elim, arith}
use Rattle.std.specs.Prelude.{option_map}
use Rattle.std.proofs.lemmas.Bool.{cases_lt}
use Rattle.node_limits.specs.declared.TheConstants.{BANK_RECORDS}
use Rattle.mesh_base.specs.declared.slot.Slot.{Slot}
use Rattle.flash_model.specs.Octets.{IsContent}
use Rattle.flash_model.specs.Chip.{Chip, IsFresh, LeavesOnly, Stays}
use Rattle.flash_model.proofs.Leaves.{IsOnlyNow, leaves_stays, leaves_join, leaves_weaker}
use Rattle.slot_definitions.specs.Slots.{text_at, text_of, blank_text, gate_of, format_of, generation_of, is_sound, header_of, counting, held_by, recovered}
use Rattle.slot_definitions.proofs.SlotLaws.{recovered_at}
use Rattle.slot_journal.specs.Slots.{IsWritten, IsSlotWrite}
use Rattle.slot_journal.specs.Banks.{IsBankBare, IsBankFilled}
use Rattle.slot_journal.specs.Headers.{IsSteady, IsTidy}
use Rattle.slot_journal.specs.Tie.{IsJournalOf, IsMounted}
use Rattle.slot_journal.specs.Format.{IsErased, IsFirstWritten, IsFirstSet, IsFormatted}
use Rattle.slot_journal.proofs.Texts.{get_text, text_blank}
use Rattle.slot_journal.proofs.Steady.{text_small, generation_is, header_sound, open_unsound, blank_unsound, steady_open, steady_blank, steady_sound}
use Rattle.slot_journal.proofs.Counts.{both_banks, counting_none, counts_alone}
use Rattle.slot_journal.proofs.Fills.{header_outside, all_items, used_items}
use Rattle.slot_journal.proofs.Compacts.{whole_write}
use Rattle.slot_journal.proofs.Ties.{fresh_stays}

-- ---- the scan
in_slot : (c text : List ℕ) (n o : ℕ) → text ≡ text_at c n → 32 * n ≤ o → o < 32 * n + 32 → get_or c o 0 ≡ get_or text (o - 32 * n) 0
in_slot c text n o is above below =
    let small : o - 32 * n < 32 = omega arith in
    let place : 32 * n + (o - 32 * n) ≡ o = omega arith in
    ap (λ (p : ℕ). get_or c p 0) (sym place) ∙ sym (get_text c n (o - 32 * n) small) ∙ ap (λ (t : List ℕ). get_or t (o - 32 * n) 0) (sym is)

pub scanned_more : (c text : List ℕ) (n : ℕ) → text ≡ text_at c n → ((o : ℕ) → o < 32 * n → get_or c o 0 ≡ 255) → ((k : ℕ) → k < 32 → get_or text k 0 ≡ 255) → (o : ℕ) → o < 32 * (n + 1) → get_or c o 0 ≡ 255
scanned_more c text n is before all o lt = ⊎_elim
    (λ (low : o < 32 * n). before o low)
    (λ (high : 32 * n ≤ o). in_slot c text n o is high (omega arith) ∙ all (o - 32 * n) (omega arith))
    (cases_lt o (32 * n))

pub scanned_some : (c text : List ℕ) (n k : ℕ) → n < 2048 → text ≡ text_at c n → ((o : ℕ) → o < 32 * n → get_or c o 0 ≡ 255) → IsFirstSet text (Some k) → IsFirstWritten c (32 * n + k)
scanned_some c text n k lt is before first =
    let small = first.0 in
    record {
      within = omega (arith, small);
      written = λ e. first.1 (ap (λ (t : List ℕ). get_or t k 0) is ∙ get_text c n k small ∙ e);
      before = λ o less. ⊎_elim
          (λ (low : o < 32 * n). before o low)
          (λ (high : 32 * n ≤ o). in_slot c text n o is high (omega (arith, small)) ∙ first.2 (o - 32 * n) (omega arith))
          (cases_lt o (32 * n));
    }

-- ---- an erased flash
erased_text : (c : List ℕ) (n : ℕ) → IsContent c → IsErased c → n < 2048 → text_at c n ≡ blank_text
erased_text c n whole erased lt = text_blank c n whole lt (λ k small. erased (32 * n + k) (omega arith))

module _ (format : ℕ) (items : List Slot) (known : (format ≡ 1) ⊎ (format ≡ 2)) (base : List ℕ) (whole : IsContent base) (erased : IsErased base) where
  -- its bank 0 is filled with nothing
  pub erased_filled : (chip : Chip) → IsFresh chip → chip.now ≡ base → IsBankFilled 0 items 0 base chip
  erased_filled chip fresh is = record {
    fresh = fresh;
    whole = subst IsContent (sym is) whole;
    outside = λ n lt out. ap (λ (c : List ℕ). text_at c n) is;
    header = ap (λ (c : List ℕ). text_at c 0) is ∙ erased_text base 0 whole erased (omega arith);
    written = λ m d less. absurd (omega arith);
    behind = λ n above below. ap (λ (c : List ℕ). text_at c (1024 * 0 + n)) is ∙ erased_text base (1024 * 0 + n) whole erased (omega arith);
  }

  second_blank : (c : List ℕ) → text_at c 1024 ≡ text_at base 1024 → text_at c 1024 ≡ blank_text
  second_blank c same = same ∙ erased_text base 1024 whole erased (omega arith)

  both_steady : (c : List ℕ) → IsSteady (text_at c 0) → text_at c 1024 ≡ blank_text → (b : ℕ) → b ≤ 1 → IsSteady (text_at c (1024 * b))
  both_steady c one two = both_banks (λ b. IsSteady (text_at c (1024 * b))) 0 1 refl one (steady_blank (text_at c 1024) two)

  nothing : (c : List ℕ) → is_sound (text_at c 0) ≡ false → text_at c 1024 ≡ blank_text → recovered c ≡ None
  nothing c one two = ap (option_map (held_by c)) (counting_none (text_at c 0) (text_at c 1024) one (blank_unsound (text_at c 1024) two))

  pub bare_formatted : (c : List ℕ) → IsBankBare 0 base c → IsFormatted format items c
  bare_formatted c bare =
      let second = second_blank c (bare.outside 1024 (omega arith) (inr (omega arith))) in
      record {
        tidy = record { whole = bare.whole; steady = both_steady c (steady_blank (text_at c 0) bare.header) second };
        either = inl (nothing c (blank_unsound (text_at c 0) bare.header) second);
      }

  pub base_formatted : IsFormatted format items base
  base_formatted = bare_formatted base (record { whole = whole; outside = λ n lt out. refl; header = erased_text base 0 whole erased (omega arith) })

  -- its header is written
  module _ (chip : Chip) (few : length items ≤ BANK_RECORDS) (so : IsBankFilled 0 items (length items) base chip) (c : List ℕ) (write : IsSlotWrite 0 (text_of (header_of format 1)) chip.now c) where
    second : text_at c 1024 ≡ blank_text
    second = second_blank c (header_outside 0 items base chip (omega arith) few so c (text_of (header_of format 1)) write 1024 (omega arith) (inr (omega arith)))

    module _ (is : text_at c 0 ≡ text_of (header_of format 1)) where
      first_sound : is_sound (text_at c 0) ≡ true
      first_sound = ap is_sound is ∙ header_sound format 1 known (omega arith)

      first_counts : counting c ≡ Some 0
      first_counts = counts_alone c 0 1 refl first_sound (blank_unsound (text_at c 1024) second)

      pub first_tidy : IsTidy c
      first_tidy = record { whole = write.whole; steady = both_steady c (steady_sound (text_at c 0) (λ k. text_small c 0 k write.whole (omega arith)) first_sound) second }

      pub first_recovered : recovered c ≡ Some (record { format = format; slots = items })
      first_recovered =
          let slots = all_items 0 items base chip (omega arith) few so c (text_of (header_of format 1)) write in
          recovered_at c 0 first_counts ∙ (λ i. Some (record { format = format_of (is i); slots = slots i }))

      pub first_kept : (new : Chip) → IsFresh new → new.now ≡ c → IsJournalOf new (record { bank = 0; used = length items; closed = false; generation = 1; version = format })
      first_kept new fresh e = record {
        fresh = fresh;
        tidy = subst IsTidy (sym e) first_tidy;
        mounted = subst (λ (l : List ℕ). IsMounted l (record { bank = 0; used = length items; closed = false; generation = 1; version = format })) (sym e) (record {
          usable = refl;
          low = omega arith;
          bank = first_counts;
          generation = ap generation_of is ∙ generation_is format 1 (omega arith);
          version = ap format_of is;
          used = used_items 0 items base chip (omega arith) few so c (text_of (header_of format 1)) write;
        });
      }

    pub header_formatted : IsFormatted format items c
    header_formatted = ⊎_elim
        (λ (not : gate_of (text_at c 0) ≢ 0). record {
          tidy = record { whole = write.whole; steady = both_steady c (steady_open (text_at c 0) (text_small c 0 31 write.whole (omega arith)) not) second };
          either = inl (nothing c (open_unsound (text_at c 0) not) second);
        })
        (λ (is : text_at c 0 ≡ text_of (header_of format 1)). record { tidy = first_tidy is; either = inr (first_recovered is) })
        write.here

-- an erased flash is tidy
pub erased_tidy : (c : List ℕ) → IsContent c → IsErased c → IsTidy c
erased_tidy c whole erased = (base_formatted 2 [] (inr refl) c whole erased).tidy

-- ---- over chips
module _ (format : ℕ) (items : List Slot) (known : (format ≡ 1) ⊎ (format ≡ 2)) (old : Chip) (fresh : IsFresh old) (whole : IsContent old.now) (erased : IsErased old.now) where
  abbrev Q : List ℕ → Type 0
  Q = IsFormatted format items

  module _ (mid : Chip) (only : IsOnlyNow old) (stays : Stays old mid) where
    pub scan_leaves : LeavesOnly old mid Q
    scan_leaves = leaves_stays old mid Q only (λ c image. subst Q (sym (fresh.only c image)) (base_formatted format items known old.now whole erased)) stays

    pub scanned_filled : mid.honest ≡ old.honest → IsBankFilled 0 items 0 old.now mid
    scanned_filled same = erased_filled format items known old.now whole erased mid (fresh_stays old mid fresh stays same) stays.now

    module _ (full : Chip) (fill : LeavesOnly mid full (IsBankBare 0 old.now)) where
      pub items_leave : LeavesOnly old full Q
      items_leave = leaves_weaker old full (λ c. Q c ⊎ IsBankBare 0 old.now c) Q (leaves_join old mid full Q (IsBankBare 0 old.now) scan_leaves fill)
          (λ c either. ⊎_elim (λ q. q) (bare_formatted format items known old.now whole erased c) either)

      pub header_leaves : (new : Chip) → length items ≤ BANK_RECORDS → IsBankFilled 0 items (length items) old.now full → LeavesOnly full new (IsSlotWrite 0 (text_of (header_of format 1)) full.now) → LeavesOnly old new Q
      header_leaves new few so header = leaves_weaker old new (λ c. Q c ⊎ IsSlotWrite 0 (text_of (header_of format 1)) full.now c) Q
          (leaves_join old full new Q (IsSlotWrite 0 (text_of (header_of format 1)) full.now) items_leave header)
          (λ c either. ⊎_elim (λ q. q) (header_formatted format items known old.now whole erased full few so c) either)

  module _ (full new : Chip) (few : length items ≤ BANK_RECORDS) (so : IsBankFilled 0 items (length items) old.now full) (write : IsWritten 0 (text_of (header_of format 1)) full.now new.now) where
    pub durable : recovered new.now ≡ Some (record { format = format; slots = items })
    durable = first_recovered format items known old.now whole erased full few so new.now (whole_write 0 (text_of (header_of format 1)) full.now new.now write) write.here

    pub kept : IsFresh new → IsJournalOf new (record { bank = 0; used = length items; closed = false; generation = 1; version = format })
    kept made = first_kept format items known old.now whole erased full few so new.now (whole_write 0 (text_of (header_of format 1)) full.now new.now write) write.here new made refl
