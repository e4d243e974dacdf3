-- Records that a value takes, and records that it refuses.
use Rattle.std.proofs.Common.{◌≡◌, ℕ, List, sym, subst, ◌∙◌}
use Rattle.mesh_base.specs.declared.slot.Slot.{Slot}
use Rattle.record_types.specs.declared.records.StoreRecord.{StoreRecord}
use Rattle.node_records.specs.declared.persist.Persist.{Persist}
use Rattle.node_records.specs.Meaning.{IsMeaningOf}
use Rattle.store_definitions.specs.Ranges.{IsInRange}
use Rattle.store_definitions.specs.Recovered.{record_text}
use Rattle.store_definitions.proofs.Texts.{text_once}
use Rattle.node_store.specs.Mounted.{IsRefused}
use Rattle.store_definitions.specs.Following.{Follows}

-- the one record with this text may not follow
pub refused_by : (format : ℕ) (p : Persist) (slot : Slot) (item : StoreRecord) → IsInRange item → record_text item ≡ slot
    → ((records : List StoreRecord) → IsMeaningOf records p → Follows records item → ⊥) → IsRefused format p slot
refused_by format p slot item range text not_after records meaning other other_range other_text names follows =
    not_after records meaning (subst (λ (r : StoreRecord). Follows records r) (text_once other item other_range range (other_text ∙ sym text)) follows)
