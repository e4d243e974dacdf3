-- What the slots of a bank are read as, one slot after another.
use Rattle.std.proofs.Common.{◌≡◌, ◌⊎◌, inl, inr, ℕ, zero, suc, ◌+◌, ◌*◌, ◌-◌, ◌<◌, ◌≤◌, List, [], ◌∷◌, ◌++◌, Option, Some, None, refl, ap, sym, subst, ◌∙◌, arith, append_assoc, add-one, true≢false}
use Rattle.std.specs.Prelude.{All, map, option_map, option_to_list, true, false}
use Rattle.std.proofs.lemmas.List.{append-nil, map-append}
use Rattle.std.proofs.lemmas.List.Elements.{All-head, All-nil, All-push, All-tail}
use Rattle.mesh_base.specs.declared.slot.Slot.{Slot}
use Rattle.record_types.specs.declared.records.StoreRecord.{StoreRecord}
use Rattle.slot_definitions.specs.Slots.{Held, held_by, format_of, text_at, gated, slots_to, slots_of, counting, recovered}
use Rattle.node_records.specs.declared.persist.Persist.{Persist}
use Rattle.node_records.specs.Meaning.{IsMeaningOf}
use Rattle.store_definitions.specs.Config.{config_of}
use Rattle.store_definitions.specs.Ranges.{IsInRange}
use Rattle.store_definitions.specs.Recovered.{record_text, HasOneName}
use Rattle.node_store.specs.declared.mounting.StoreFault.{StoreFault}
use Rattle.node_store.specs.declared.mounting.StoreFault.TheVariants as F
use Rattle.node_store.specs.Causes.{IsDamagedAt, IsFoundAs}
use Rattle.node_store.specs.Mounted.{AreRead, AreSaid, IsDamaged, IsRead, IsRefused, IsTaken}
use Rattle.store_definitions.specs.Following.{Follows, AreInOrder}
use Rattle.store_definitions.proofs.Texts.{recovered_once}
use Rattle.node_store.proofs.Orders.{in_order_at, in_order_push, splits_at}

slots_next : (content : List ℕ) (bank n : ℕ) (held : Option Slot) → gated (text_at content (1024 * bank + (n + 1))) ≡ held
    → slots_to content bank (n + 1) ≡ slots_to content bank n ++ option_to_list held
slots_next content bank n held gate =
    subst (λ (m : ℕ). gated (text_at content (1024 * bank + m)) ≡ held → slots_to content bank m ≡ slots_to content bank n ++ option_to_list held) (sym (add-one n))
    (λ h. ap (λ (o : Option Slot). slots_to content bank n ++ option_to_list o) h) gate

-- before the first slot
pub said_none : (content : List ℕ) (bank format : ℕ) (p : Persist) → IsMeaningOf [] p → AreSaid content bank format 0 p
said_none content bank format p new = record { records = []; read = record { texts = refl; ranges = All-nil IsInRange; names = λ e. All-nil HasOneName; order = tt }; meaning = new }

-- a slot that isn't gated
pub said_gap : (content : List ℕ) (bank format n : ℕ) (p : Persist) → AreSaid content bank format n p → gated (text_at content (1024 * bank + (n + 1))) ≡ None → AreSaid content bank format (n + 1) p
said_gap content bank format n p said gate = record {
  records = said.records;
  read = record {
    texts = slots_next content bank n None gate ∙ append-nil (slots_to content bank n) ∙ said.read.texts;
    ranges = said.read.ranges;
    names = said.read.names;
    order = said.read.order;
  };
  meaning = said.meaning;
}

-- one that is taken
pub said_more : (content : List ℕ) (bank format n : ℕ) (old new : Persist) (slot : Slot) → AreSaid content bank format n old → gated (text_at content (1024 * bank + (n + 1))) ≡ Some slot → IsTaken format old slot new → AreSaid content bank format (n + 1) new
said_more content bank format n old new slot said gate taken =
    let follows = taken.follows said.records said.meaning in
    record {
      records = said.records ++ taken.item ∷ [];
      read = record {
        texts = slots_next content bank n (Some slot) gate ∙ (λ i. said.read.texts i ++ sym taken.text i ∷ []) ∙ sym (map-append record_text said.records (taken.item ∷ []));
        ranges = All-push IsInRange said.records taken.item said.read.ranges taken.range;
        names = λ e. All-push HasOneName said.records taken.item (said.read.names e) (taken.names e);
        order = in_order_push [] said.records taken.item said.read.order follows.0;
      };
      meaning = follows.1;
    }

-- one that is refused
pub said_damaged : (content : List ℕ) (bank format n : ℕ) (p : Persist) (slot : Slot) → n < 1023 → AreSaid content bank format n p → gated (text_at content (1024 * bank + (n + 1))) ≡ Some slot → IsRefused format p slot → IsDamaged content bank format (n + 1)
said_damaged content bank format n p slot few said gate refused = record {
  before = n;
  number = refl;
  most = omega arith;
  records = said.records;
  read = said.read;
  slot = slot;
  gate = gate;
  none = refused said.records said.meaning;
}

-- the slots of before stand at the front
slots_front : (content : List ℕ) (bank n k total : ℕ) → total ≡ n + k → (rest : List Slot) × (slots_to content bank total ≡ slots_to content bank n ++ rest)
slots_front content bank n zero total is = let e : total ≡ n = omega arith in ([], ap (slots_to content bank) e ∙ sym (append-nil (slots_to content bank n)))
slots_front content bank n (suc k) zero is = absurd (omega arith)
slots_front content bank n (suc k) (suc t) is =
    let inner = slots_front content bank n k t (omega arith) in
    let last = option_to_list (gated (text_at content (1024 * bank + suc t))) in
    (inner.0 ++ last, ap (λ (l : List Slot). l ++ last) inner.1 ∙ append_assoc (slots_to content bank n) inner.0 last)

all_middle : (P : StoreRecord → Type 0) (front more : List StoreRecord) (item : StoreRecord) → All P (front ++ item ∷ more) → P item
all_middle P [] more item h = All-head P item more h
all_middle P (r ∷ front) more item h = all_middle P front more item (All-tail P r (front ++ item ∷ more) h)

-- slots that are all read have none that is damaged
not_damaged : (content : List ℕ) (bank format n : ℕ) (slots rest : List Slot) (rs : List StoreRecord) → IsDamaged content bank format n → slots ≡ slots_to content bank n ++ rest → AreRead format slots rs → ⊥
not_damaged content bank format n slots rest rs damaged front read =
    let here : gated (text_at content (1024 * bank + (damaged.before + 1))) ≡ Some damaged.slot = subst (λ (x : ℕ). gated (text_at content (1024 * bank + x)) ≡ Some damaged.slot) damaged.number damaged.gate in
    let upto : slots_to content bank n ≡ slots_to content bank damaged.before ++ damaged.slot ∷ [] = ap (slots_to content bank) damaged.number ∙ slots_next content bank damaged.before (Some damaged.slot) here in
    let texts : map record_text rs ≡ map record_text damaged.records ++ damaged.slot ∷ rest =
    sym read.texts ∙ front ∙ ap (λ (l : List Slot). l ++ rest) (upto ∙ ap (λ (l : List Slot). l ++ damaged.slot ∷ []) damaged.read.texts) ∙ append_assoc (map record_text damaged.records) (damaged.slot ∷ []) rest in
    let split = splits_at rs damaged.records damaged.slot rest read.ranges damaged.read.ranges texts in
    let follows : Follows damaged.records split.item = in_order_at [] damaged.records split.more split.item (subst (λ (l : List StoreRecord). AreInOrder [] l) split.whole read.order) in
    damaged.none split.item split.range split.text
    (λ e. all_middle HasOneName damaged.records split.more split.item (subst (λ (l : List StoreRecord). All HasOneName l) split.whole (read.names e))) follows

not_before : (content : List ℕ) (bank format n m : ℕ) → IsDamaged content bank format n → IsDamaged content bank format m → n < m → ⊥
not_before content bank format n m a b below =
    let front = slots_front content bank n (b.before - n) b.before (omega (arith, b.number)) in
    not_damaged content bank format n (slots_to content bank b.before) front.0 b.records a front.1 b.read

cases : (n m : ℕ) → (n < m) ⊎ ((m < n) ⊎ (n ≡ m))
cases n m = grind arith

-- only one slot is the first that is damaged
damaged_once : (content : List ℕ) (bank format n m : ℕ) → IsDamaged content bank format n → IsDamaged content bank format m → n ≡ m
damaged_once content bank format n m a b =
    elim (cases n m) as (λ s. n ≡ m) [
      | inl below ↦ absurd (not_before content bank format n m a b below)
      | inr other ↦ elim other as (λ s. n ≡ m) [
        | inl below ↦ absurd (not_before content bank format m n b a below)
        | inr same ↦ same
      ]
    ]

same_bank : (content : List ℕ) (a b : ℕ) → counting content ≡ Some a → counting content ≡ Some b → a ≡ b
same_bank content a b p q = let e : Some a ≡ Some b = sym p ∙ q in cc

-- what is recovered are the slots of the bank that counts
recovered_at : (content : List ℕ) (bank : ℕ) → counting content ≡ Some bank → recovered content ≡ Some (held_by content bank)
recovered_at content bank counts = ap (option_map (held_by content)) counts

slots_whole : (content : List ℕ) (bank n : ℕ) → n ≤ 1023 → (rest : List Slot) × (slots_of content bank ≡ slots_to content bank n ++ rest)
unfolding slots_of
slots_whole content bank n few = slots_front content bank n (1023 - n) 1023 (omega arith)

-- what is read throughout has no damage
read_whole : (content : List ℕ) (rs : List StoreRecord) (n : ℕ) → IsRead content rs → IsDamagedAt content n → ⊥
read_whole content rs n read at =
    let held : held_by content at.bank ≡ record { format = read.held.format; slots = map record_text rs } =
    some_held _ _ (sym (recovered_at content at.bank at.counts) ∙ read.held.texts) in
    let front = slots_whole content at.bank n at.damaged.most in
    not_damaged content at.bank (format_of (text_at content (1024 * at.bank))) n (slots_of content at.bank) front.0 rs at.damaged front.1
    (record {
      texts = ap (λ (h : Held). h.slots) held;
      ranges = read.held.ranges;
      names = λ e. read.held.names (sym (ap (λ (h : Held). h.format) held) ∙ e);
      order = read.order;
    })
  where
    some_held : (a b : Held) → Some a ≡ Some b → a ≡ b
    some_held a b e = cc

damaged_at_once : (content : List ℕ) (n m : ℕ) → IsDamagedAt content n → IsDamagedAt content m → n ≡ m
damaged_at_once content n m a b =
    damaged_once content b.bank (format_of (text_at content (1024 * b.bank))) n m
    (subst (λ (k : ℕ). IsDamaged content k (format_of (text_at content (1024 * k))) n) (same_bank content a.bank b.bank a.counts b.counts) a.damaged) b.damaged

none_bank : (content : List ℕ) (a : ℕ) → counting content ≡ None → counting content ≡ Some a → ⊥
none_bank content a p q = let e : None ≡ Some a = sym p ∙ q in cc

none_read : (content : List ℕ) (rs : List StoreRecord) → counting content ≡ None → IsRead content rs → ⊥
none_read content rs p read = nothing_held _ (sym (ap (option_map (held_by content)) p) ∙ read.held.texts)
  where
    nothing_held : (h : Held) → None ≡ Some h → ⊥
    nothing_held h e = cc

-- content is found as one thing alone
pub found_once : (content : List ℕ) (e f : StoreFault) → IsFoundAs content e → IsFoundAs content f → e ≡ f
found_once content F.Flash f a b = absurd a
found_once content F.NoNode F.Flash a b = absurd b
found_once content F.NoNode F.NoNode a b = refl
found_once content F.NoNode (F.Damaged m) a b = absurd (none_bank content b.bank a b.counts)
found_once content F.NoNode F.WasReset a b = absurd (none_read content b.records a b.read)
found_once content (F.Damaged n) F.Flash a b = absurd b
found_once content (F.Damaged n) F.NoNode a b = absurd (none_bank content a.bank b a.counts)
found_once content (F.Damaged n) (F.Damaged m) a b = ap (λ (k : ℕ). F.Damaged k) (damaged_at_once content n m a b)
found_once content (F.Damaged n) F.WasReset a b = absurd (read_whole content b.records n b.read a)
found_once content F.WasReset F.Flash a b = absurd b
found_once content F.WasReset F.NoNode a b = absurd (none_read content a.records b a.read)
found_once content F.WasReset (F.Damaged m) a b = absurd (read_whole content a.records m a.read b)
found_once content F.WasReset F.WasReset a b = refl

-- a node that stands is found as nothing of this
pub stands : (content : List ℕ) (rs : List StoreRecord) (f : StoreFault) → IsRead content rs → (config_of rs).reset ≡ false → IsFoundAs content f → ⊥
stands content rs F.Flash read here b = b
stands content rs F.NoNode read here b = none_read content rs b read
stands content rs (F.Damaged m) read here b = read_whole content rs m read b
stands content rs F.WasReset read here b =
    true≢false (sym b.reset ∙ ap (λ (l : List StoreRecord). (config_of l).reset) (recovered_once content b.records rs b.read.held read.held) ∙ here)

-- the used slots are all that is recovered
pub said_read : (content : List ℕ) (bank format used : ℕ) (p : Persist) → recovered content ≡ Some (record { format = format; slots = slots_to content bank used })
    → (said : AreSaid content bank format used p) → IsRead content said.records
said_read content bank format used p value said = record {
  held = record {
    format = format;
    texts = value ∙ ap (λ (l : List Slot). let h : Held = record { format = format; slots = l } in Some h) said.read.texts;
    ranges = said.read.ranges;
    names = said.read.names;
  };
  order = said.read.order;
}

-- a node that was reset is found as that alone
pub only_reset : (content : List ℕ) (rs : List StoreRecord) (f : StoreFault) → IsRead content rs → (config_of rs).reset ≡ true → IsFoundAs content f → f ≡ F.WasReset
only_reset content rs f read is found = found_once content f F.WasReset found (record { records = rs; read = read; reset = is })
