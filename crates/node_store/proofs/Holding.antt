-- What an image holds, up to lists that say the same, and the tie of a store and its flash.
use Rattle.std.proofs.Common.{◌≡◌, ⊎_elim, ℕ, List, [], ◌∷◌, ◌++◌, refl, ap, sym, subst, ◌∙◌}
use Rattle.flash_model.specs.Chip.{Chip, LeavesOnly, Stays}
use Rattle.flash_model.proofs.Leaves.{IsOnlyNow, leaves_none, leaves_weaker}
use Rattle.record_types.specs.declared.records.StoreRecord.{StoreRecord}
use Rattle.store_definitions.specs.Alike.{IsAlike}
use Rattle.store_definitions.specs.Config.{Config, config_of}
use Rattle.store_definitions.specs.Node.{IsNodeOrReset, IsWhole}
use Rattle.store_definitions.specs.Recovered.{IsRecovered}
use Rattle.store_definitions.proofs.Texts.{recovered_once}
use Rattle.node_records.specs.declared.persist.Persist.{Persist}
use Rattle.node_records.specs.Meaning.{IsMeaningOf}
use Rattle.node_records.proofs.Alike.{means_alike}
use Rattle.slot_journal.specs.Headers.{IsTidy}
use Rattle.slot_journal.specs.Tie.{IsJournalOf, IsMounted as IsJournalMounted}
use Rattle.slot_journal.specs.View.{JournalView}
use Rattle.node_store.specs.Mounted.{IsRead}
use Rattle.node_store.specs.Tie.{HasMark, Holds, IsExactly, IsHeld, IsNode, IsPut, IsStoreOf}
use Rattle.node_store.specs.View.{StoreView}

-- Lists that say the same.

pub alike_same : (a : List StoreRecord) → IsAlike a a
alike_same a = record { config = refl; entries = λ src. refl }

pub alike_sym : (a b : List StoreRecord) → IsAlike a b → IsAlike b a
alike_sym a b e = record { config = sym e.config; entries = λ src. sym (e.entries src) }

pub alike_then : (a b c : List StoreRecord) → IsAlike a b → IsAlike b c → IsAlike a c
alike_then a b c e f = record { config = e.config ∙ f.config; entries = λ src. e.entries src ∙ f.entries src }

same_alike : (a b : List StoreRecord) → a ≡ b → IsAlike a b
same_alike a b e = subst (λ (l : List StoreRecord). IsAlike a l) e (alike_same a)

-- An image.

pub holds_exactly : (content : List ℕ) (records : List StoreRecord) → IsRead content records → Holds content records
holds_exactly content records read = record { found = records; read = read; alike = alike_same records }

pub holds_alike : (content : List ℕ) (a b : List StoreRecord) → IsAlike a b → Holds content a → Holds content b
holds_alike content a b e h = record { found = h.found; read = h.read; alike = alike_then h.found a b h.alike e }

pub holds_once : (content : List ℕ) (a b : List StoreRecord) → Holds content a → Holds content b → IsAlike a b
holds_once content a b h k =
    alike_then a h.found b (alike_sym h.found a h.alike)
    (alike_then h.found k.found b (same_alike h.found k.found (recovered_once content h.found k.found h.read.held k.read.held)) k.alike)

-- what it holds is what it recovers
pub holds_recovered : (content : List ℕ) (records found : List StoreRecord) → Holds content records → IsRecovered content found → IsAlike records found
holds_recovered content records found h is =
    alike_then records h.found found (alike_sym h.found records h.alike) (same_alike h.found found (recovered_once content h.found found h.read.held is))

pub held_node : (content : List ℕ) (records : List StoreRecord) → IsTidy content → Holds content records → IsNodeOrReset records → IsNode content
held_node content records tidy h whole = record {
  tidy = tidy;
  records = h.found;
  read = h.read;
  whole = λ stands. subst IsWhole (sym h.alike.config) (whole (sym (ap (λ (c : Config). c.reset) h.alike.config) ∙ stands));
}

pub put_node : (content : List ℕ) (records : List StoreRecord) (item : StoreRecord) → IsPut records item content → IsNodeOrReset records → IsNodeOrReset (records ++ item ∷ []) → IsNode content
put_node content records item put before after =
    ⊎_elim (λ h. held_node content records put.tidy h before) (λ h. held_node content (records ++ item ∷ []) put.tidy h after) put.either

pub same_holds : (a b : List ℕ) (records : List StoreRecord) → b ≡ a → Holds a records → Holds b records
same_holds a b records e h = subst (λ (c : List ℕ). Holds c records) (sym e) h

-- The mark.

held_mark : (records found : List StoreRecord) (p : Persist) → IsMeaningOf records p → IsAlike records found → (config_of found).mark ≡ p.mark
held_mark records found p meaning alike = ap (λ (c : Config). c.mark) (sym alike.config ∙ sym meaning.config)

pub holds_mark : (content : List ℕ) (records : List StoreRecord) → Holds content records → HasMark (config_of records).mark content
holds_mark content records h found is = ap (λ (c : Config). c.mark) (sym (holds_recovered content records found h is).config)

-- The tie.

pub journal_stays : (old new : Chip) (journal : JournalView) → new.honest ≡ old.honest → Stays old new → IsJournalOf old journal → IsJournalOf new journal
journal_stays old new journal honest stays tie = record {
  fresh = record { honest = honest ∙ tie.fresh.honest; only = λ c image. tie.fresh.only c (stays.images c image) ∙ sym stays.now };
  tidy = subst IsTidy (sym stays.now) tie.tidy;
  mounted = subst (λ (c : List ℕ). IsJournalMounted c journal) (sym stays.now) tie.mounted;
}

pub exactly_stays : (old new : Chip) (store : StoreView) (records : List StoreRecord) → new.honest ≡ old.honest → Stays old new → IsExactly old store records → IsExactly new store records
exactly_stays old new store records honest stays tie = record {
  journal = journal_stays old new store.journal honest stays tie.journal;
  read = subst (λ (c : List ℕ). IsRead c records) (sym stays.now) tie.read;
  meaning = tie.meaning;
}

pub store_stays : (old new : Chip) (store : StoreView) (records : List StoreRecord) → new.honest ≡ old.honest → Stays old new → IsStoreOf old store records → IsStoreOf new store records
store_stays old new store records honest stays tie = record { found = tie.found; exact = exactly_stays old new store tie.found honest stays tie.exact; alike = tie.alike }

pub exactly_store : (chip : Chip) (store : StoreView) (records : List StoreRecord) → IsExactly chip store records → IsStoreOf chip store records
exactly_store chip store records tie = record { found = records; exact = tie; alike = alike_same records }

pub store_alike : (chip : Chip) (store : StoreView) (a b : List StoreRecord) → IsAlike a b → IsStoreOf chip store a → IsStoreOf chip store b
store_alike chip store a b e tie = record { found = tie.found; exact = tie.exact; alike = alike_then tie.found a b tie.alike e }

pub store_meaning : (chip : Chip) (store : StoreView) (records : List StoreRecord) → IsStoreOf chip store records → IsMeaningOf records store.persist
store_meaning chip store records tie = means_alike tie.found records store.persist tie.alike tie.exact.meaning

-- each image
pub store_images : (chip : Chip) (store : StoreView) (records : List StoreRecord) → IsStoreOf chip store records → (c : List ℕ) → chip.images c → IsHeld records c
store_images chip store records tie c image =
    subst (λ (d : List ℕ). IsHeld records d) (sym (tie.exact.journal.fresh.only c image))
    (record { tidy = tie.exact.journal.tidy; holds = record { found = tie.found; read = tie.exact.read; alike = tie.alike } })

-- nothing is done
pub held_unchanged : (chip : Chip) (store : StoreView) (records : List StoreRecord) → IsStoreOf chip store records → IsOnlyNow chip → LeavesOnly chip chip (IsHeld records)
held_unchanged chip store records tie only = leaves_none chip (IsHeld records) only (store_images chip store records tie)

pub leaves_alike : (old new : Chip) (a b : List StoreRecord) → IsAlike a b → LeavesOnly old new (IsHeld a) → LeavesOnly old new (IsHeld b)
leaves_alike old new a b e leaves = leaves_weaker old new (IsHeld a) (IsHeld b) leaves (λ c h. record { tidy = h.tidy; holds = holds_alike c a b e h.holds })
