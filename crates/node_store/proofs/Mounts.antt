-- A mount, over the chip before and after.
use Rattle.std.proofs.Common.{◌≡◌, ◌⊎◌, inl, inr, ⊎_elim, ℕ, ◌+◌, ◌*◌, ◌≤◌, List, true, false, Some, None, refl, ap, sym, subst, ◌∙◌, arith}
use Rattle.std.specs.Prelude.{IfErr, IsErrAnd, IsTrue, Result, Ok, Err, OnOk, OnErr, option_map}
use Rattle.flash_model.specs.Chip.{Chip, IsFresh, Keeps, LeavesOnly, Stays}
use Rattle.flash_model.proofs.Leaves.{IsOnlyNow, leaves_join, leaves_stays, leaves_weaker}
use Rattle.flash_model.proofs.Runs.{stays_more}
use Rattle.slot_definitions.specs.Slots.{HasFormat, Held, gated, recovered, slots_to, text_at}
use Rattle.mesh_base.specs.declared.slot.Slot.{Slot}
use Rattle.record_types.specs.declared.records.StoreRecord.{StoreRecord}
use Rattle.node_records.specs.declared.persist.Persist.{Persist}
use Rattle.store_definitions.specs.Alike.{IsAlike}
use Rattle.store_definitions.specs.Config.{Config, config_of}
use Rattle.slot_journal.specs.declared.mounting.NoMount.{NoMount}
use Rattle.slot_journal.specs.declared.mounting.NoMount.TheVariants as N
use Rattle.slot_journal.specs.Causes.{IsMountCause}
use Rattle.slot_journal.specs.Headers.{IsTidy}
use Rattle.slot_journal.specs.Tie.{IsJournalOf, IsMounted as IsJournalMounted}
use Rattle.slot_journal.specs.View.{JournalView}
use Rattle.node_store.specs.declared.mounting.StoreFault.{StoreFault}
use Rattle.node_store.specs.declared.mounting.StoreFault.TheVariants as F
use Rattle.node_store.specs.Causes.{IsFoundAs, IsReadCause, IsReset, IsSlotCause, IsStoreCause}
use Rattle.node_store.specs.Faults.{store_fault_of}
use Rattle.node_store.specs.Mounted.{AreSaid, IsDamaged, IsMounted, IsRead, IsRefused, IsTaken}
use Rattle.node_store.specs.Tie.{HasMark, Holds, IsExactly, IsHeld, IsStoreOf}
use Rattle.node_store.proofs.Found.{found_once, said_damaged, said_gap, said_more, said_read, stands}
use Rattle.node_store.proofs.Holding.{alike_sym, holds_alike, holds_mark, holds_recovered, journal_stays, store_alike}

module _ {T E : Type 0} where
  pub on_ok : (r : Result T E) (P Q : Type 0) → OnOk r P → (P → Q) → OnOk r Q
  on_ok (Ok x) P Q h f = f h
  on_ok (Err e) P Q h f = h

  pub err_of : (r : Result T E) (e : E) → IsErrAnd r (λ x. x ≡ e) → r ≡ Err e
  err_of (Ok x) e h = absurd h
  err_of (Err x) e h = ap (λ y. Err y) h

  pub on_ok_none : (r : Result T E) (e : E) → IsErrAnd r (λ x. x ≡ e) → (P : Type 0) → OnOk r P
  on_ok_none (Ok x) e h P = absurd h
  on_ok_none (Err x) e h P = tt

  pub if_err_all : (r : Result T E) (P : E → Type 0) → ((e : E) → P e) → IfErr r P
  if_err_all (Ok x) P all = tt
  if_err_all (Err e) P all = all e

  pub on_err_all : (r : Result T E) (P : Type 0) → P → OnErr r P
  on_err_all (Ok x) P h = tt
  on_err_all (Err e) P h = h

-- One slot.

pub slot_gap : (content : List ℕ) (bank format n k : ℕ) (p : Persist) → n ≡ k + 1 → AreSaid content bank format k p → gated (text_at content (1024 * bank + n)) ≡ None → AreSaid content bank format n p
slot_gap content bank format n k p is said gate =
    subst (λ (m : ℕ). AreSaid content bank format m p) (sym is) (said_gap content bank format k p said (subst (λ (m : ℕ). gated (text_at content (1024 * bank + m)) ≡ None) is gate))

pub slot_taken : (content : List ℕ) (bank format n k : ℕ) (old new : Persist) (slot : Slot) → n ≡ k + 1 → AreSaid content bank format k old → gated (text_at content (1024 * bank + n)) ≡ Some slot → IsTaken format old slot new → AreSaid content bank format n new
slot_taken content bank format n k old new slot is said gate taken =
    subst (λ (m : ℕ). AreSaid content bank format m new) (sym is) (said_more content bank format k old new slot said (subst (λ (m : ℕ). gated (text_at content (1024 * bank + m)) ≡ Some slot) is gate) taken)

pub slot_refused : (content : List ℕ) (bank format n k : ℕ) (p : Persist) (slot : Slot) → n ≡ k + 1 → n ≤ 1023 → AreSaid content bank format k p → gated (text_at content (1024 * bank + n)) ≡ Some slot → IsRefused format p slot → IsDamaged content bank format n
slot_refused content bank format n k p slot is few said gate refused =
    subst (λ (m : ℕ). IsDamaged content bank format m) (sym is) (said_damaged content bank format k p slot (omega (arith, is, few)) said (subst (λ (m : ℕ). gated (text_at content (1024 * bank + m)) ≡ Some slot) is gate) refused)

-- All slots.

pub read_cause : (start mid new : Chip) (journal : JournalView) (k : ℕ) (p : Persist) → Keeps start mid → (IsTrue start.honest → Stays start mid) → (IsTrue start.honest → AreSaid start.now journal.bank journal.version k p)
    → (e : StoreFault) → IsSlotCause mid new journal (k + 1) p e → IsReadCause start new journal e
read_cause start mid new journal k p keeps stays said F.Flash cause = omega (arith, keeps.later, cause)
read_cause start mid new journal k p keeps stays said F.NoNode cause = cause
read_cause start mid new journal k p keeps stays said (F.Damaged m) cause = λ honest.
    let same = (stays honest).now in
    subst (λ (c : List ℕ). IsDamaged c journal.bank journal.version m) same (cause (keeps.honest ∙ honest) k refl (subst (λ (c : List ℕ). AreSaid c journal.bank journal.version k p) (sym same) (said honest)))
read_cause start mid new journal k p keeps stays said F.WasReset cause = cause

-- The store.

pub mount_cause : (old new : Chip) (e : NoMount) → IsMountCause old new e → IsStoreCause old new (store_fault_of e)
mount_cause old new N.Flash cause = cause
mount_cause old new N.NoBank cause = cause.1

module _ (old mid : Chip) (journal : JournalView) (keeps : Keeps old mid) (stays : IsTrue old.honest → Stays old mid) (mounted : IsTrue old.honest → IsJournalMounted old.now journal) where
  pub store_cause : (new : Chip) (e : StoreFault) → IsReadCause mid new journal e → IsStoreCause old new e
  store_cause new F.Flash cause = omega (arith, keeps.later, cause)
  store_cause new F.NoNode cause = absurd cause
  store_cause new (F.Damaged m) cause = λ honest. record {
    bank = journal.bank;
    counts = (mounted honest).bank;
    damaged = subst (λ (f : ℕ). IsDamaged old.now journal.bank f m) (sym (mounted honest).version)
        (subst (λ (c : List ℕ). IsDamaged c journal.bank journal.version m) (stays honest).now (cause (keeps.honest ∙ honest)));
  }
  store_cause new F.WasReset cause = absurd cause

  module _ (p : Persist) (value : IsTrue old.honest → recovered old.now ≡ Some (record { format = journal.version; slots = slots_to old.now journal.bank journal.used })) (said : IsTrue mid.honest → AreSaid mid.now journal.bank journal.version journal.used p) (honest : IsTrue old.honest) where
    abbrev all : AreSaid old.now journal.bank journal.version journal.used p
    all = subst (λ (c : List ℕ). AreSaid c journal.bank journal.version journal.used p) (stays honest).now (said (keeps.honest ∙ honest))

    all_read : IsRead old.now all.records
    all_read = said_read old.now journal.bank journal.version journal.used p (value honest) all

    same_reset : p.reset ≡ (config_of all.records).reset
    same_reset = ap (λ (c : Config). c.reset) all.meaning.config

    pub was_reset : p.reset ≡ true → IsReset old.now
    was_reset is = record { records = all.records; read = all_read; reset = sym same_reset ∙ is }

    pub store_mounted : p.reset ≡ false → IsMounted old.now p
    store_mounted is = record { records = all.records; read = all_read; meaning = all.meaning; stands = sym same_reset ∙ is }

-- each refusal is the one that the content asks for
pub exact_cause : (old new : Chip) (e : StoreFault) → IsTrue old.honest → IsStoreCause old new e → (fault : StoreFault) → IsFoundAs old.now fault → (e ≡ F.Flash) ⊎ (e ≡ fault)
exact_cause old new F.Flash honest cause fault found = inl refl
exact_cause old new F.NoNode honest cause fault found = inr (found_once old.now F.NoNode fault (cause honest) found)
exact_cause old new (F.Damaged m) honest cause fault found = inr (found_once old.now (F.Damaged m) fault (cause honest) found)
exact_cause old new F.WasReset honest cause fault found = inr (found_once old.now F.WasReset fault (cause honest) found)

pub none_found : (content : List ℕ) (p : Persist) (fault : StoreFault) → IsMounted content p → IsFoundAs content fault → ⊥
none_found content p fault mounted found = stands content mounted.records fault mounted.read mounted.stands found

-- the format that counts is that of the journal
pub format_is : (content : List ℕ) (journal : JournalView) (slots : List Slot) → recovered content ≡ Some (record { format = journal.version; slots = slots }) → HasFormat journal.version content
format_is content journal slots is = ap (option_map (λ (h : Held). h.format)) is

pub not_old : (content : List ℕ) (journal : JournalView) (slots : List Slot) → recovered content ≡ Some (record { format = journal.version; slots = slots }) → (HasFormat 1 content → ⊥) → journal.version ≡ 1 → ⊥
not_old content journal slots is other one = other (subst (λ (f : ℕ). HasFormat f content) one (format_is content journal slots is))

pub is_old : (content : List ℕ) (journal : JournalView) (slots : List Slot) → recovered content ≡ Some (record { format = journal.version; slots = slots }) → HasFormat 1 content → journal.version ≡ 1
is_old content journal slots is one = let e : Some journal.version ≡ Some 1 = sym (format_is content journal slots is) ∙ one in cc

-- reading leaves the content
pub read_moment : (old new : Chip) (records : List StoreRecord) → IsOnlyNow old → IsFresh old → IsTidy old.now → Stays old new → Holds old.now records → LeavesOnly old new (IsHeld records)
read_moment old new records only fresh tidy stays holds =
    leaves_stays old new (IsHeld records) only
    (λ c image. subst (λ (d : List ℕ). IsHeld records d) (sym (fresh.only c image)) (record { tidy = tidy; holds = holds })) stays

-- What was read is the store's, and what the content holds is what was read.
module _ (old mid read : Chip) (journal : JournalView) (p : Persist) (keeps : Keeps mid read) (first : Stays old mid) (second : Stays mid read) (tie : IsJournalOf mid journal) (mounted : IsMounted old.now p) where
  pub read_exactly : IsExactly read (record { journal = journal; persist = p }) mounted.records
  read_exactly = record {
    journal = journal_stays mid read journal keeps.honest second tie;
    read = subst (λ (c : List ℕ). IsRead c mounted.records) (sym (second.now ∙ first.now)) mounted.read;
    meaning = mounted.meaning;
  }

  module _ (records : List StoreRecord) (holds : Holds old.now records) where
    pub read_alike : IsAlike mounted.records records
    read_alike = alike_sym records mounted.records (holds_recovered old.now records mounted.records holds mounted.read.held)

    pub mount_kept : (new : Chip) (after : JournalView) → IsStoreOf new (record { journal = after; persist = p }) mounted.records → IsStoreOf new (record { journal = after; persist = p }) records
    mount_kept new after tie = store_alike new (record { journal = after; persist = p }) mounted.records records read_alike tie

    held_alike : (c : List ℕ) → IsHeld mounted.records c → IsHeld records c
    held_alike c h = record { tidy = h.tidy; holds = holds_alike c mounted.records records read_alike h.holds }

    -- reading leaves the content, and then it is migrated
    pub mount_moment : (new : Chip) → IsOnlyNow old → IsFresh old → IsTidy old.now → LeavesOnly read new (IsHeld mounted.records) → LeavesOnly old new (IsHeld records)
    mount_moment new only fresh tidy leaves =
        leaves_weaker old new (λ c. IsHeld records c ⊎ IsHeld mounted.records c) (IsHeld records)
        (leaves_join old read new (IsHeld records) (IsHeld mounted.records) (read_moment old read records only fresh tidy (stays_more old mid read first second) holds) leaves)
        (λ c either. ⊎_elim (λ h. h) (λ h. held_alike c h) either)

pub held_same_mark : (old new : Chip) (records : List StoreRecord) → LeavesOnly old new (IsHeld records) → LeavesOnly old new (HasMark (config_of records).mark)
held_same_mark old new records leaves = leaves_weaker old new (IsHeld records) (HasMark (config_of records).mark) leaves (λ c h. holds_mark c records h.holds)
