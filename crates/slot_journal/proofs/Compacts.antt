-- A compaction: the other bank is erased, filled, and given the next generation.
use Rattle.std.proofs.Common.{◌≡◌, ◌≢◌, ◌⊎◌, ℕ, ◌+◌, ◌*◌, ◌%◌, ◌<◌, ◌≤◌, List, length, Bool, true, false, Some, refl, sym, ap, ◌∙◌, subst, inl, inr, ⊎_elim, arith}
use Rattle.std.proofs.lemmas.Bool.{cases_lt}
use Rattle.node_limits.specs.declared.TheConstants.{BANK_RECORDS}
use Rattle.mesh_base.specs.declared.slot.Slot.{Slot}
use Rattle.flash_model.specs.Octets.{IsContent}
use Rattle.flash_model.specs.Chip.{Chip, IsFresh, LeavesOnly}
use Rattle.flash_model.proofs.Leaves.{IsOnlyNow, leaves_none, leaves_join, leaves_weaker}
use Rattle.slot_definitions.specs.Slots.{text_at, text_of, gate_of, format_of, generation_of, is_sound, header_of, counting, slots_of, recovered}
use Rattle.slot_definitions.proofs.SlotLaws.{slots_same, recovered_at}
use Rattle.slot_journal.specs.Slots.{IsWritten, IsSlotWrite}
use Rattle.slot_journal.specs.Banks.{StaysOutside, IsErasing, IsBankBare, IsBankFilled}
use Rattle.slot_journal.specs.Headers.{IsSteady, IsTidy}
use Rattle.slot_journal.specs.View.{JournalView}
use Rattle.slot_journal.specs.Tie.{IsCompacted, IsJournalOf, IsMounted}
use Rattle.slot_journal.proofs.Steady.{text_small, generation_is, header_sound, open_unsound, blank_unsound, steady_open, steady_blank, steady_sound, steady_torn}
use Rattle.slot_journal.proofs.Counts.{both_banks, own_sound, counts_alone, counts_like, counts_next}
use Rattle.slot_journal.proofs.Fills.{header_outside, all_items, used_items}

-- the header's write, as one that a cut may have torn
pub whole_write : (n : ℕ) (text old new : List ℕ) → IsWritten n text old new → IsSlotWrite n text old new
whole_write n text old new write = record { whole = write.whole; elsewhere = write.elsewhere; here = inr write.here }

generation_small : (c : List ℕ) (n : ℕ) → IsContent c → n < 2048 → generation_of (text_at c n) < 4294967296
generation_small c n whole lt =
    let a = text_small c n 2 whole lt in
    let b = text_small c n 3 whole lt in
    let d = text_small c n 4 whole lt in
    let e = text_small c n 5 whole lt in
    omega (arith, a, b, d, e)

-- over octets
module _ (old : List ℕ) (own other : ℕ) (items : List Slot) (sides : own + other ≡ 1) (tidy : IsTidy old) (counts : counting old ≡ Some own) where
  sound_own : is_sound (text_at old (1024 * own)) ≡ true
  sound_own = own_sound old own (omega arith) counts

  apart : (n m : ℕ) → n ≡ 1024 * own + m → m ≤ 1023 → (n < 1024 * other) ⊎ (1024 * other + 1024 ≤ n)
  apart n m is most = ⊎_elim (λ (l : own < other). inl (omega arith)) (λ (r : other ≤ own). inr (omega arith)) (cases_lt own other)

  -- content in which the bank that counts is as before
  module _ (c : List ℕ) (whole : IsContent c) (outside : StaysOutside other old c) where
    pub own_header : text_at c (1024 * own) ≡ text_at old (1024 * own)
    own_header = outside (1024 * own) (omega arith) (apart (1024 * own) 0 (omega arith) (omega arith))

    own_slots : slots_of c own ≡ slots_of old own
    unfolding slots_of
    own_slots = slots_same c old own 1023 (λ m above below. outside (1024 * own + m) (omega arith) (apart (1024 * own + m) m refl below))

    pub sound_after : is_sound (text_at c (1024 * own)) ≡ true
    sound_after = ap is_sound own_header ∙ sound_own

    recovers : counting c ≡ Some own → recovered c ≡ recovered old
    recovers is = recovered_at c own is ∙ (λ i. Some (record { format = format_of (own_header i); slots = own_slots i })) ∙ sym (recovered_at old own counts)

    pub tidy_by : IsSteady (text_at c (1024 * other)) → IsTidy c
    tidy_by steady = record {
      whole = whole;
      steady = both_banks (λ b. IsSteady (text_at c (1024 * b))) own other sides (subst IsSteady (sym own_header) (tidy.steady own (omega arith))) steady;
    }

    pub stays_compacted : IsSteady (text_at c (1024 * other)) → counting c ≡ Some own → IsCompacted (recovered old) items c
    stays_compacted steady is = record { tidy = tidy_by steady; either = inl (recovers is) }

  -- while the other bank is erased
  pub erasing_compacted : (c : List ℕ) → IsErasing other old c → IsCompacted (recovered old) items c
  erasing_compacted c so = stays_compacted c so.whole so.outside
      (steady_torn (text_at old (1024 * other)) (λ k. text_small old (1024 * other) k tidy.whole (omega arith)) (text_at c (1024 * other)) (λ k. text_small c (1024 * other) k so.whole (omega arith)) (tidy.steady other (omega arith)) so.header)
      (by_test (is_sound (text_at c (1024 * other))) refl)
    where
      by_test : (b : Bool) → is_sound (text_at c (1024 * other)) ≡ b → counting c ≡ Some own
      by_test false is = counts_alone c own other sides (sound_after c so.whole so.outside) is
      by_test true is =
          let was = (tidy.steady other (omega arith)).sound (text_at c (1024 * other)) so.header is in
          let here = both_banks (λ b. is_sound (text_at c (1024 * b)) ≡ true) own other sides (sound_after c so.whole so.outside) is in
          let before = both_banks (λ b. is_sound (text_at old (1024 * b)) ≡ true) own other sides sound_own was.sound in
          let same = both_banks (λ b. generation_of (text_at c (1024 * b)) ≡ generation_of (text_at old (1024 * b))) own other sides (ap generation_of (own_header c so.whole so.outside)) was.generation in
          counts_like c old (here 0 (omega arith)) (here 1 (omega arith)) (before 0 (omega arith)) (before 1 (omega arith)) (same 0 (omega arith)) (same 1 (omega arith)) ∙ counts

  -- while it is filled
  pub bare_compacted : (c : List ℕ) → IsBankBare other old c → IsCompacted (recovered old) items c
  bare_compacted c so = stays_compacted c so.whole so.outside (steady_blank (text_at c (1024 * other)) so.header)
      (counts_alone c own other sides (sound_after c so.whole so.outside) (blank_unsound (text_at c (1024 * other)) so.header))

  -- while its header is written
  module _ (chip : Chip) (few : length items ≤ BANK_RECORDS) (so : IsBankFilled other items (length items) old chip) (g : ℕ) (next : g ≡ (generation_of (text_at old (1024 * own)) + 1) % 4294967296) (c : List ℕ) (write : IsSlotWrite (1024 * other) (text_of (header_of 2 g)) chip.now c) where
    other_low : other ≤ 1
    other_low = omega arith

    beyond : StaysOutside other old c
    beyond = header_outside other items old chip other_low few so c (text_of (header_of 2 g)) write

    module _ (is : text_at c (1024 * other) ≡ text_of (header_of 2 g)) where
      sound_next : is_sound (text_at c (1024 * other)) ≡ true
      sound_next = ap is_sound is ∙ header_sound 2 g (inr refl) (omega (arith, next))

      pub next_generation : generation_of (text_at c (1024 * other)) ≡ g
      next_generation = ap generation_of is ∙ generation_is 2 g (omega (arith, next))

      pub next_counts : counting c ≡ Some other
      next_counts = counts_next c own other (generation_of (text_at old (1024 * own))) sides (generation_small old (1024 * own) tidy.whole (omega arith))
          (sound_after c write.whole beyond) (ap generation_of (own_header c write.whole beyond)) sound_next (next_generation ∙ next)

      pub next_recovered : recovered c ≡ Some (record { format = 2; slots = items })
      next_recovered =
          let slots = all_items other items old chip other_low few so c (text_of (header_of 2 g)) write in
          recovered_at c other next_counts ∙ (λ i. Some (record { format = format_of (is i); slots = slots i }))

      pub next_tidy : IsTidy c
      next_tidy = tidy_by c write.whole beyond (steady_sound (text_at c (1024 * other)) (λ k. text_small c (1024 * other) k write.whole (omega arith)) sound_next)

      pub next_mounted : IsMounted c (record { bank = other; used = length items; closed = false; generation = g; version = 2 })
      next_mounted = record {
        usable = refl;
        low = other_low;
        bank = next_counts;
        generation = next_generation;
        version = ap format_of is;
        used = used_items other items old chip other_low few so c (text_of (header_of 2 g)) write;
      }

    pub header_compacted : IsCompacted (recovered old) items c
    header_compacted = ⊎_elim
        (λ (not : gate_of (text_at c (1024 * other)) ≢ 0). stays_compacted c write.whole beyond
        (steady_open (text_at c (1024 * other)) (text_small c (1024 * other) 31 write.whole (omega arith)) not)
        (counts_alone c own other sides (sound_after c write.whole beyond) (open_unsound (text_at c (1024 * other)) not)))
        (λ (is : text_at c (1024 * other) ≡ text_of (header_of 2 g)). record { tidy = next_tidy is; either = inr (next_recovered is) })
        write.here

-- over chips
module _ (old : Chip) (journal : JournalView) (items : List Slot) (tie : IsJournalOf old journal) where
  abbrev P : List ℕ → Type 0
  P = IsCompacted (recovered old.now) items

  pub unchanged : IsOnlyNow old → LeavesOnly old old P
  unchanged only = leaves_none old P only (λ c image. subst P (sym (tie.fresh.only c image)) (record { tidy = tie.tidy; either = inl refl }))

  module _ (other : ℕ) (sides : journal.bank + other ≡ 1) (mid : Chip) (erase : LeavesOnly old mid (IsErasing other old.now)) where
    pub erase_leaves : LeavesOnly old mid P
    erase_leaves = leaves_weaker old mid (IsErasing other old.now) P erase (erasing_compacted old.now journal.bank other items sides tie.tidy tie.mounted.bank)

    module _ (full : Chip) (fill : LeavesOnly mid full (IsBankBare other old.now)) where
      pub fill_leaves : LeavesOnly old full P
      fill_leaves = leaves_weaker old full (λ c. P c ⊎ IsBankBare other old.now c) P (leaves_join old mid full P (IsBankBare other old.now) erase_leaves fill)
          (λ c either. ⊎_elim (λ p. p) (bare_compacted old.now journal.bank other items sides tie.tidy tie.mounted.bank c) either)

      module _ (few : length items ≤ BANK_RECORDS) (so : IsBankFilled other items (length items) old.now full) (g : ℕ) (next : g ≡ (journal.generation + 1) % 4294967296) (new : Chip) where
        said : g ≡ (generation_of (text_at old.now (1024 * journal.bank)) + 1) % 4294967296
        said = next ∙ ap (λ (n : ℕ). (n + 1) % 4294967296) (sym tie.mounted.generation)

        pub header_leaves : LeavesOnly full new (IsSlotWrite (1024 * other) (text_of (header_of 2 g)) full.now) → LeavesOnly old new P
        header_leaves header = leaves_weaker old new (λ c. P c ⊎ IsSlotWrite (1024 * other) (text_of (header_of 2 g)) full.now c) P
            (leaves_join old full new P (IsSlotWrite (1024 * other) (text_of (header_of 2 g)) full.now) fill_leaves header)
            (λ c either. ⊎_elim (λ p. p) (header_compacted old.now journal.bank other items sides tie.tidy tie.mounted.bank full few so g said c) either)

        module _ (write : IsWritten (1024 * other) (text_of (header_of 2 g)) full.now new.now) where
          torn : IsSlotWrite (1024 * other) (text_of (header_of 2 g)) full.now new.now
          torn = whole_write (1024 * other) (text_of (header_of 2 g)) full.now new.now write

          pub durable : recovered new.now ≡ Some (record { format = 2; slots = items })
          durable = next_recovered old.now journal.bank other items sides tie.tidy tie.mounted.bank full few so g said new.now torn write.here

          pub kept : IsFresh new → IsJournalOf new (record { bank = other; used = length items; closed = false; generation = g; version = 2 })
          kept fresh = record {
            fresh = fresh;
            tidy = next_tidy old.now journal.bank other items sides tie.tidy tie.mounted.bank full few so g said new.now torn write.here;
            mounted = next_mounted old.now journal.bank other items sides tie.tidy tie.mounted.bank full few so g said new.now torn write.here;
          }
