-- A compaction to the records that say a value anew, over the chip before and after.
use Rattle.std.proofs.Common.{◌≡◌, ⊎_elim, ℕ, ◌≤◌, List, Bool, true, false, Some, refl, ap, subst, ◌∙◌, arith}
use Rattle.std.specs.Prelude.{map, length, ◌==◌, if◌then◌else◌}
use Rattle.std.proofs.lemmas.Bool.{eqb-true}
use Rattle.node_limits.specs.declared.TheConstants.{SNAPSHOT_RECORDS, COMPACTION_CALLS}
use Rattle.flash_model.specs.Chip.{Chip, LeavesOnly}
use Rattle.flash_model.proofs.Leaves.{leaves_weaker}
use Rattle.mesh_base.specs.declared.slot.Slot.{Slot}
use Rattle.slot_definitions.specs.Slots.{Held, recovered}
use Rattle.record_types.specs.declared.records.StoreRecord.{StoreRecord}
use Rattle.store_definitions.specs.Recovered.{record_text}
use Rattle.node_records.specs.declared.persist.Persist.{Persist}
use Rattle.node_records.proofs.Alike.{alike_by}
use Rattle.node_snapshot.specs.Snapshot.{IsSnapshot, snapshot_of}
use Rattle.slot_journal.specs.Tie.{IsCompacted, IsJournalOf}
use Rattle.slot_journal.specs.View.{JournalView}
use Rattle.node_store.specs.Calls.{compaction, only_slots, room_of}
use Rattle.node_store.specs.Mounted.{IsRead}
use Rattle.node_store.specs.Tie.{IsExactly, IsHeld, IsStoreOf}
use Rattle.node_store.specs.View.{StoreView}
use Rattle.node_store.proofs.Holding.{alike_same}

-- content with the slots of a snapshot in format 02
snapshot_read : (content : List ℕ) (p : Persist) → IsSnapshot (snapshot_of p) p → recovered content ≡ Some (record { format = 2; slots = map record_text (snapshot_of p) }) → IsRead content (snapshot_of p)
snapshot_read content p says is = record { held = record { format = 2; texts = is; ranges = says.ranges; names = λ e. absurd cc }; order = says.order }

module _ (old : Chip) (journal : JournalView) (p : Persist) (found : List StoreRecord) (tie : IsExactly old (record { journal = journal; persist = p }) found) (says : IsSnapshot (snapshot_of p) p) where
  compacted_leaves : (c : List ℕ) → IsCompacted (recovered old.now) (map record_text (snapshot_of p)) c → IsHeld found c
  compacted_leaves c done = record {
    tidy = done.tidy;
    holds = ⊎_elim
        (λ h. record {
          found = found;
          read = record {
            held = record { format = tie.read.held.format; texts = h ∙ tie.read.held.texts; ranges = tie.read.held.ranges; names = tie.read.held.names };
            order = tie.read.order;
          };
          alike = alike_same found;
        })
        (λ h. record { found = snapshot_of p; read = snapshot_read c p says h; alike = alike_by (snapshot_of p) found p says.meaning tie.meaning })
        done.either;
  }

  pub compacted_moment : (new : Chip) (slots : List Slot) → slots ≡ map record_text (snapshot_of p) → LeavesOnly old new (IsCompacted (recovered old.now) slots) → LeavesOnly old new (IsHeld found)
  compacted_moment new slots is leaves =
      leaves_weaker old new (IsCompacted (recovered old.now) (map record_text (snapshot_of p))) (IsHeld found)
      (subst (λ (l : List Slot). LeavesOnly old new (IsCompacted (recovered old.now) l)) is leaves) compacted_leaves

  pub compacted_kept : (new : Chip) (after : JournalView) (slots : List Slot) → slots ≡ map record_text (snapshot_of p) → IsJournalOf new after
      → recovered new.now ≡ Some (record { format = 2; slots = slots }) → IsStoreOf new (record { journal = after; persist = p }) found
  compacted_kept new after slots is kept durable = record {
    found = snapshot_of p;
    exact = record {
      journal = kept;
      read = snapshot_read new.now p says (durable ∙ ap (λ (l : List Slot). let h : Held = record { format = 2; slots = l } in Some h) is);
      meaning = says.meaning;
    };
    alike = alike_by (snapshot_of p) found p says.meaning tie.meaning;
  }

-- the calls for room are at most those of the largest snapshot
pub room_few : (s : StoreView) → (s.journal.used ≡ 1023 → length (snapshot_of s.persist) ≤ SNAPSHOT_RECORDS) → (room_of s).calls ≤ COMPACTION_CALLS
room_few s few = by_test (s.journal.used == 1023) refl
  where
    by_test : (b : Bool) → (s.journal.used == 1023) ≡ b → (if b then compaction s.persist else only_slots 0).calls ≤ COMPACTION_CALLS
    by_test true e = let h = few (eqb-true s.journal.used 1023 e) in omega (arith, h)
    by_test false e = omega arith
