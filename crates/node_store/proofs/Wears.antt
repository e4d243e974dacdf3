-- What a put and a mount cost the flash.
use Rattle.std.proofs.Common.{◌≡◌, ℕ, ◌+◌, ◌≤◌, List, Bool, true, false, Some, inl, inr, refl, ap, ◌∙◌, arith}
use Rattle.std.specs.Prelude.{◌==◌, if◌then◌else◌, length}
use Rattle.std.proofs.lemmas.Bool.{eqb-true, eqb-false}
use Rattle.flash_model.specs.Chip.{CallCount, Chip, count_of}
use Rattle.node_limits.specs.declared.TheConstants.{BANK_SECTORS, COMPACTION_CALLS, SNAPSHOT_RECORDS}
use Rattle.mesh_base.specs.declared.slot.Slot.{Slot}
use Rattle.node_snapshot.specs.Snapshot.{snapshot_of}
use Rattle.slot_definitions.specs.Slots.{recovered}
use Rattle.slot_journal.specs.Tie.{IsMounted as IsJournalMounted}
use Rattle.slot_journal.specs.View.{JournalView}
use Rattle.store_definitions.specs.Wear.{COMPACTION_OCTETS, CostsAndUses, CostsAtMost, RECORD_OCTETS}
use Rattle.node_store.specs.Calls.{IsOpenedWith, calls_of, compaction, only_slots, room_of, used_with_room}
use Rattle.node_store.specs.View.{StoreView}
use Rattle.node_store.proofs.Mounts.{format_is}

-- A put that is refused.
pub none_put : (used : ℕ) (n : CallCount) → CostsAtMost used 1 n n
none_put used n = record { compactions = 0; costs = record { calls = omega arith; erases = omega arith; octets = omega arith; needed = inl refl } }

-- What the calls for room are, by whether all slots of the bank are used.
abbrev room_by : StoreView → Bool → CallCount
room_by s full = if full then compaction s.persist else only_slots 0

-- A put: a compaction where all slots of the bank are used, and the record.
module _ (s : StoreView) (before after : CallCount) where
  pub put_costs : (room_of s).calls ≤ COMPACTION_CALLS → (used : ℕ) → after.calls ≤ before.calls + (calls_of s).calls → after.erases ≤ before.erases + (calls_of s).erases
      → after.octets ≤ before.octets + (calls_of s).octets → used ≡ used_with_room s + 1 → CostsAndUses s.journal.used 1 before after used
  put_costs most used calls erases octets is = by_test (s.journal.used == 1023) refl most calls erases octets is
    where
      by_test : (b : Bool) → (s.journal.used == 1023) ≡ b → (room_by s b).calls ≤ COMPACTION_CALLS → after.calls ≤ before.calls + ((room_by s b).calls + 2) → after.erases ≤ before.erases + (room_by s b).erases
          → after.octets ≤ before.octets + ((room_by s b).octets + RECORD_OCTETS) → used ≡ (if b then length (snapshot_of s.persist) else s.journal.used) + 1 → CostsAndUses s.journal.used 1 before after used
      by_test true e most calls erases octets is =
          let full = eqb-true s.journal.used 1023 e in
          record { compactions = 1; costs = record { calls = omega (arith, most, calls); erases = omega (arith, erases); octets = omega (arith, most, octets); needed = inr (omega (arith, full)) }; room = omega (arith, full, most, is) }
      by_test false e most calls erases octets is = record { compactions = 0; costs = record { calls = omega (arith, calls); erases = omega (arith, erases); octets = omega (arith, octets); needed = inl refl }; room = omega (arith, is) }

  pub put_at_most : (room_of s).calls ≤ COMPACTION_CALLS → after.calls ≤ before.calls + (calls_of s).calls → after.erases ≤ before.erases + (calls_of s).erases
      → after.octets ≤ before.octets + (calls_of s).octets → CostsAtMost s.journal.used 1 before after
  put_at_most most calls erases octets = by_test (s.journal.used == 1023) refl most calls erases octets
    where
      by_test : (b : Bool) → (s.journal.used == 1023) ≡ b → (room_by s b).calls ≤ COMPACTION_CALLS → after.calls ≤ before.calls + ((room_by s b).calls + 2) → after.erases ≤ before.erases + (room_by s b).erases
          → after.octets ≤ before.octets + ((room_by s b).octets + RECORD_OCTETS) → CostsAtMost s.journal.used 1 before after
      by_test true e most calls erases octets =
          let full = eqb-true s.journal.used 1023 e in
          record { compactions = 1; costs = record { calls = omega (arith, most, calls); erases = omega (arith, erases); octets = omega (arith, most, octets); needed = inr (omega (arith, full)) } }
      by_test false e most calls erases octets = record { compactions = 0; costs = record { calls = omega (arith, calls); erases = omega (arith, erases); octets = omega (arith, octets); needed = inl refl } }

-- Where no count rose, all are as they were.
pub same_count : (old new : Chip) → new.changes ≡ old.changes → new.erases ≡ old.erases → new.octets ≡ old.octets → count_of new ≡ count_of old
same_count old new calls erases octets i = record { calls = calls i; erases = erases i; octets = octets i }

-- A mount: a compaction where the bank has format 01.
pub opened_with : (content : List ℕ) (journal : JournalView) (slots : List Slot) → recovered content ≡ Some (record { format = journal.version; slots = slots }) → IsJournalMounted content journal
    → (before after : CallCount) (left : ℕ) → after.calls ≤ before.calls + COMPACTION_CALLS → after.erases ≤ before.erases + BANK_SECTORS → after.octets ≤ before.octets + COMPACTION_OCTETS
    → ((journal.version ≡ 1 → ⊥) → (after ≡ before) × (left ≡ journal.used)) → (journal.version ≡ 1 → left ≤ SNAPSHOT_RECORDS) → IsOpenedWith content before after left
opened_with content journal slots is mounted before after left most erased given same few = by_test (journal.version == 1) refl
  where
    by_test : (b : Bool) → (journal.version == 1) ≡ b → IsOpenedWith content before after left
    by_test true e =
        let one = eqb-true journal.version 1 e in
        let left_few = few one in
        record {
          used = 1024;
          taken_up = inl (format_is content journal slots is ∙ ap (λ (n : ℕ). Some n) one, refl);
          costs = record { compactions = 1; costs = record { calls = omega (arith, most); erases = omega (arith, erased); octets = omega (arith, given); needed = inr (omega arith) }; room = omega (arith, left_few) };
        }
    by_test false e =
        let stays = same (λ one. eqb-false journal.version 1 e one) in
        let calls = ap (λ (n : CallCount). n.calls) stays.0 in
        let erases = ap (λ (n : CallCount). n.erases) stays.0 in
        let octets = ap (λ (n : CallCount). n.octets) stays.0 in
        let used = stays.1 in
        record {
          used = journal.used;
          taken_up = inr (record { bank = journal.bank; counts = mounted.bank; slots = mounted.used });
          costs = record { compactions = 0; costs = record { calls = omega (arith, calls); erases = omega (arith, erases); octets = omega (arith, octets); needed = inl refl }; room = omega (arith, used) };
        }
