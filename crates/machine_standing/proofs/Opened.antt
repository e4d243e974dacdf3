-- What a life opens with, what a refused opening leaves, and what an arm leaves.
use Rattle.std.proofs.Common.{◌≡◌, ℕ, ◌+◌, ◌≤◌, Bool, true, false, List, [], append-nil, refl, ap, sym, subst, ◌∙◌, arith, true≢false}
use Rattle.std.specs.Prelude.{IsTrue}
use Rattle.flash_model.specs.Chip.{CallCount, Chip, Stays, count_of}
use Rattle.machine_contract.specs.Moved.{IsMoved}
use Rattle.machine_contract.specs.Opening.{FlashFound, IsUnwritten}
use Rattle.machine_contract.specs.Refused.{IsStartCause, IsUntouched, WasReset}
use Rattle.machine_contract.specs.Standing.{IsSameFlash}
use Rattle.machine_standing.proofs.Images.{held_left, store_left, store_mark, store_node}
use Rattle.machine_standing.proofs.Lists.{all_nothing}
use Rattle.machine_standing.proofs.Moved.{moved_none}
use Rattle.machine_standing.specs.Opening.{start_fault_of}
use Rattle.machine_standing.specs.Ties.{IsNodeStore, IsReadyBy, StandsBy, opened_by}
use Rattle.machine_standing.specs.Views.{LifeMachine}
use Rattle.node_records.specs.declared.persist.Persist.{Persist}
use Rattle.node_store.proofs.Holding.{held_node, holds_exactly, holds_recovered}
use Rattle.node_store.specs.Causes.{IsFoundAs, IsNotFlash, IsReset, IsStoreCause}
use Rattle.node_store.specs.declared.mounting.StoreFault.{StoreFault}
use Rattle.node_store.specs.declared.mounting.StoreFault.TheVariants as F
use Rattle.node_store.specs.Mounted.{IsRead}
use Rattle.node_store.specs.Tie.{Holds, IsHeld, IsNode, IsStoreOf}
use Rattle.node_store.specs.View.{StoreView}
use Rattle.record_types.specs.declared.records.StoreRecord.{StoreRecord}
use Rattle.event_definitions.specs.History.{Past}
use Rattle.event_definitions.specs.Role.{Role}
use Rattle.seq_reserve.specs.Reserving.{IsPublished}
use Rattle.seq_reserve.specs.declared.reserve.Reserve.{Reserve}
use Rattle.seq_word.specs.Seen.{last_word, went_to}
use Rattle.slot_journal.specs.Headers.{IsTidy}
use Rattle.slot_journal.specs.Tie.{IsMounted as IsJournalMounted}
use Rattle.store_definitions.specs.Config.{Config, config_of}
use Rattle.store_definitions.specs.Ranges.{IsInRange}
use Rattle.store_definitions.proofs.Wear.{at_most_of}
use Rattle.store_definitions.specs.Wear.{CostsAndUses, CostsAtMost, IsTakenUp, MOUNT_READS}

pub opened_stands : {Memory : Type 0} (role : Role) (Before : Past → LifeMachine Memory → Type 0) (first : FlashFound) (chip : Chip) (over : List StoreRecord) (r : Reserve) (t : Memory) (elements : ℕ)
    → IsStoreOf chip r.store over → IsNodeStore over r.store.persist → Before (record { told = []; records = over }) (opened_by r t elements)
    → IsPublished r.store r.keeper → r.keeper.advances ≡ [] → elements ≡ r.store.persist.elements → chip.setting.faults ≤ chip.faults
    → (used : ℕ) → IsTakenUp first.now used → CostsAndUses used 0 first.count (count_of chip) r.store.journal.used → chip.reads ≤ first.reads + MOUNT_READS → chip.faults ≡ first.faults
    → StandsBy role Before first chip over (opened_by r t elements)
opened_stands role Before first chip over r t elements store node before published none is began used taken_up wear few_reads whole = record {
  life = record {
    told = [];
    entries = refl;
    handled = tt;
    moves = refl;
    few = omega arith;
    elements = is ∙ ap (λ (c : Config). c.elements) node.meaning.config;
    node = store_node chip r.store over store node.whole;
    left = λ image next held found. (store_left chip r.store over store node.ranges image next held found, store_mark chip r.store over r.keeper.mark store published image next held found);
    idle = λ e. refl;
    failed = λ e. absurd (true≢false (sym e));
    no_fault = λ e. whole;
    once = omega (arith, whole);
    in_hand = 0;
    hand = refl;
    paid = record {
      stored = 0;
      behind = omega arith;
      used = used;
      taken_up = taken_up;
      costs = at_most_of used 0 first.count (count_of chip) r.store.journal.used wear;
    };
    reads = few_reads;
  };
  usable = λ e. record { store = store; before = before };
  moved = λ e. subst (λ (a : List (ℕ × ℕ)). IsMoved over over a) (sym none) (moved_none over);
  last = λ e. ap (λ (a : List (ℕ × ℕ)). last_word (went_to a)) none;
  began = began;
  wear = λ e. wear;
}

pub opened_ready : {Memory : Type 0} (Before : Past → LifeMachine Memory → Type 0) (Fits : Memory → Persist → Type 0) (over : List StoreRecord) (r : Reserve) (t : Memory) (elements : ℕ)
    → Before (record { told = []; records = over }) (opened_by r t elements) → IsPublished r.store r.keeper → Fits t r.store.persist
    → r.store.journal.closed ≡ false → elements ≡ r.store.persist.elements
    → IsReadyBy Before Fits (opened_by r t elements)
opened_ready Before Fits over r t elements before published fit usable is = record {
  past = record { told = []; records = over };
  before = before;
  published = published;
  fit = fit;
  usable = usable;
  elements = is;
  paid = omega arith;
}

-- A mount whose every image holds the records leaves the node.
pub untouched : (old new : Chip) (node : IsNode old.now) → ((c : List ℕ) → new.images c → IsHeld node.records c) → IsTrue new.honest → IsUntouched IsNode old new
untouched old new node held honest = record {
  over = node.records;
  read = node.read.held;
  node = record { honest = honest; each = λ image is. held_node image node.records (held image is).tidy (held image is).holds node.whole };
  left = λ image next is found.
      held_left image node.records [] next (all_nothing IsInRange node.records node.read.held.ranges)
      (subst (λ l. Holds image l) (sym (append-nil node.records)) (held image is).holds) found;
}

-- The flash is as it was, but that it may have been given an arm.

store_same : (old new : Chip) (store : StoreView) (records : List StoreRecord) → IsSameFlash old new → IsStoreOf old store records → IsStoreOf new store records
store_same old new store records same tie = record {
  found = tie.found;
  exact = record {
    journal = record {
      fresh = record { honest = same.honest ∙ tie.exact.journal.fresh.honest; only = λ c image. tie.exact.journal.fresh.only c (same.stays c image) ∙ sym same.now };
      tidy = subst IsTidy (sym same.now) tie.exact.journal.tidy;
      mounted = subst (λ (c : List ℕ). IsJournalMounted c store.journal) (sym same.now) tie.exact.journal.mounted;
    };
    read = subst (λ (c : List ℕ). IsRead c tie.found) (sym same.now) tie.exact.read;
    meaning = tie.exact.meaning;
  };
  alike = tie.alike;
}

pub stands_same : {Memory : Type 0} (role : Role) (Before : Past → LifeMachine Memory → Type 0) (first : FlashFound) (old new : Chip) (over : List StoreRecord) (m : LifeMachine Memory) → IsSameFlash old new
    → StandsBy role Before first old over m → StandsBy role Before first new over m
stands_same role Before first old new over m same s = record {
  life = record {
    told = s.life.told;
    entries = s.life.entries;
    handled = s.life.handled;
    moves = s.life.moves;
    few = s.life.few;
    elements = s.life.elements;
    node = record { honest = same.honest ∙ s.life.node.honest; each = λ image is. s.life.node.each image (same.stays image is) };
    left = λ image next is found. s.life.left image next (same.stays image is) found;
    idle = s.life.idle;
    failed = λ e. omega (arith, s.life.failed e, same.faults, same.began);
    no_fault = λ e. same.faults ∙ s.life.no_fault e;
    once = omega (arith, same.faults, s.life.once);
    in_hand = s.life.in_hand;
    hand = s.life.hand;
    paid = record {
      stored = s.life.paid.stored;
      behind = s.life.paid.behind;
      used = s.life.paid.used;
      taken_up = s.life.paid.taken_up;
      costs = subst (λ (n : CallCount). CostsAtMost s.life.paid.used (s.life.paid.stored + s.life.in_hand) first.count n) (sym same.count) s.life.paid.costs;
    };
    reads = omega (arith, same.reads, s.life.reads);
  };
  usable = λ e. record { store = store_same old new m.reserve.store _ same (s.usable e).store; before = (s.usable e).before };
  moved = s.moved;
  last = s.last;
  began = omega (arith, s.began, same.faults, same.began);
  wear = λ e. subst (λ (n : CallCount). CostsAndUses s.life.paid.used s.life.paid.stored first.count n m.reserve.store.journal.used) (sym same.count) (s.wear e);
}

-- The causes of a store that isn't mounted.

abbrev pub AreMounted : Type 0
AreMounted = (content : List ℕ) (records : List StoreRecord) → IsRead content records → (config_of records).reset ≡ false → (fault : StoreFault) → IsFoundAs content fault → ⊥

found_reset : (content : List ℕ) (records : List StoreRecord) (fault : StoreFault) → AreMounted → IsRead content records → IsFoundAs content fault → (config_of records).reset ≡ true
found_reset content records fault law read found = pick (config_of records).reset refl
  where
    pick : (b : Bool) → (config_of records).reset ≡ b → (config_of records).reset ≡ true
    pick true e = e
    pick false e = absurd (law content records read e fault found)

was_reset : (old : Chip) (node : IsNode old.now) (fault : StoreFault) → AreMounted → IsFoundAs old.now fault → WasReset old
was_reset old node fault law found = record { over = node.records; read = node.read.held; reset = found_reset old.now node.records fault law node.read found }

pub start_cause : (old new : Chip) (node : IsNode old.now) (fault : StoreFault) → AreMounted → IsTrue old.honest → IsStoreCause old new fault → IsUntouched IsNode old new
    → (IsNotFlash fault → new.faults ≡ old.faults) → IsStartCause IsNode old new (start_fault_of fault)
start_cause old new node F.Flash law honest cause same sound = (cause, same)
start_cause old new node F.NoNode law honest cause same sound = (was_reset old node F.NoNode law (cause honest), same, sound tt)
start_cause old new node (F.Damaged n) law honest cause same sound = (was_reset old node (F.Damaged n) law (cause honest), same, sound tt)
start_cause old new node F.WasReset law honest cause same sound = (was_reset old node F.WasReset law (cause honest), same, sound tt)

-- Where the records that are read say a Node Reset, nothing is written.
pub unwritten_reset : (old new : Chip) (node : IsNode old.now) → IsTrue old.honest → (IsTrue old.honest → IsReset old.now → Stays old new × (count_of new ≡ count_of old)) → WasReset old
    → IsUnwritten old new
unwritten_reset old new node honest mounted was =
    let alike = holds_recovered old.now node.records was.over (holds_exactly old.now node.records node.read) was.read in
    let both = mounted honest (record { records = node.records; read = node.read; reset = ap (λ (c : Config). c.reset) alike.config ∙ was.reset }) in
    record { stays = both.0; no_calls = both.1 }
