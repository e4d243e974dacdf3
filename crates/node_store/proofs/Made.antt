-- The records of provisioning.
use Rattle.std.proofs.Common.{◌≡◌, inl, inr, ⊎_elim, ◌↔◌, ℕ, ◌+◌, ◌*◌, ◌^◌, ◌%◌, ◌<◌, ◌≤◌, List, [], ◌∷◌, length, Some, refl, ap, sym, subst, arith}
use Rattle.std.specs.Prelude.{All, map, option_map, Result, Ok, Err, IsErr, IsOk, OnOk}
use Rattle.std.proofs.lemmas.List.Elements.{All-cons, All-nil}
use Rattle.flash_model.specs.Chip.{Chip, LeavesOnly}
use Rattle.flash_model.proofs.Leaves.{leaves_weaker}
use Rattle.slot_definitions.specs.Slots.{Held, recovered}
use Rattle.mesh_base.specs.IvState.{transmit_of}
use Rattle.mesh_base.specs.declared.iv_state.IvState.{IvState}
use Rattle.mesh_base.specs.declared.keys.NetKeyRow.{NetKeyRow}
use Rattle.record_types.specs.declared.records.StoreRecord.{StoreRecord}
use Rattle.record_types.specs.declared.records.StoreRecord.TheVariants as R
use Rattle.node_records.specs.declared.persist.Persist.{Persist}
use Rattle.node_records.specs.Full.{IsFull}
use Rattle.node_records.specs.Meaning.{IsMeaningOf}
use Rattle.store_definitions.specs.Config.{Config, changed, nets_after}
use Rattle.store_definitions.specs.Ranges.{IsInRange, IsMark}
use Rattle.store_definitions.specs.Recovered.{record_text, HasOneName}
use Rattle.store_definitions.specs.Provisioning.{Provisioning, first_state, provisioned}
use Rattle.slot_journal.specs.Format.{IsFormatted}
use Rattle.slot_journal.specs.Tie.{IsJournalOf}
use Rattle.slot_journal.specs.View.{JournalView}
use Rattle.node_store.specs.Mounted.{IsOldNode, IsRead}
use Rattle.store_definitions.specs.Following.{AreInOrder}
use Rattle.node_store.specs.Tie.{IsMade}

-- a record that passes no limit is applied
module _ {E : Type 0} where
  pub applied : (r : Result (Unit {0}) E) (P Full : Type 0) → OnOk r P → IsErr r ↔ Full → (Full → ⊥) → P
  applied (Ok x) P Full ok limit not_full = ok
  applied (Err e) P Full ok limit not_full = absurd (not_full (limit.0 refl))

  pub applied_ok : (r : Result (Unit {0}) E) (Full : Type 0) → IsErr r ↔ Full → (Full → ⊥) → IsOk r
  applied_ok (Ok x) Full limit not_full = refl
  applied_ok (Err e) Full limit not_full = absurd (not_full (limit.0 refl))

module _ (p : Provisioning) where
  abbrev pub first : StoreRecord
  first = R.Identity p.unicast p.elements p.dev_key

  abbrev pub second : StoreRecord
  second = R.Numbers p.iv p.in_progress (transmit_of (first_state p) * 2 ^ 25) 0 192

  pub first_current : (q : Persist) → IsMeaningOf (first ∷ []) q → q.iv.current ≤ p.iv
  unfolding changed
  first_current q meaning = let e : q.iv.current ≡ 0 = ap (λ (c : Config). c.iv.current) meaning.config in omega arith

  pub no_nets : (q : Persist) → IsMeaningOf (first ∷ second ∷ []) q → q.nets ≡ []
  unfolding changed
  no_nets q meaning = ap (λ (c : Config). c.nets) meaning.config

  pub key_fits : (q : Persist) → IsMeaningOf (first ∷ second ∷ []) q → IsFull q (R.NetKey 1 p.net_index p.net_key) → ⊥
  key_fits q meaning full =
      let more : 4 < length (nets_after 1 p.net_index p.net_key []) = subst (λ (l : List NetKeyRow). 4 < length (nets_after 1 p.net_index p.net_key l)) (no_nets q meaning) full in
      absurd (omega arith)

  pub provisioned_order : AreInOrder [] (provisioned p)
  unfolding changed
  provisioned_order = (
    record { within = λ h. h; rises = tt },
    (
      record { within = λ h. h; rises = omega arith },
      (record { within = λ h. absurd (omega arith); rises = tt }, tt),
    ),
  )

  pub provisioned_names : All HasOneName (provisioned p)
  provisioned_names =
      let key : StoreRecord = R.NetKey 1 p.net_index p.net_key in
      All-cons HasOneName first (second ∷ key ∷ []) tt (All-cons HasOneName second (key ∷ []) tt (All-cons HasOneName key [] tt (All-nil HasOneName)))

-- what a cut leaves while they are written, in either format
module _ (format : ℕ) (old new : Chip) (records : List StoreRecord) (ranges : All IsInRange records) (names : All HasOneName records) (order : AreInOrder [] records) where
  pub made_leaves : LeavesOnly old new (IsFormatted format (map record_text records)) → LeavesOnly old new (IsMade records)
  made_leaves leaves = leaves_weaker old new (IsFormatted format (map record_text records)) (IsMade records) leaves
      (λ c made. record {
        tidy = made.tidy;
        either = ⊎_elim (λ h. inl h) (λ h. inr (record { held = record { format = format; texts = h; ranges = ranges; names = λ e. names }; order = order })) made.either;
      })

  pub made_read : recovered new.now ≡ Some (record { format = format; slots = map record_text records }) → IsRead new.now records
  made_read is = record { held = record { format = format; texts = is; ranges = ranges; names = λ e. names }; order = order }

-- a node in format 01
pub old_images : (p : Provisioning) (new : Chip) → All IsInRange (provisioned p) → {journal : JournalView} → IsJournalOf new journal
    → recovered new.now ≡ Some (record { format = 1; slots = map record_text (provisioned p) }) → (c : List ℕ) → new.images c → IsOldNode (provisioned p) c
old_images p new ranges journal is c image =
    subst (λ (d : List ℕ). IsOldNode (provisioned p) d) (sym (journal.fresh.only c image))
    (record {
      tidy = journal.tidy;
      read = made_read 1 new new (provisioned p) ranges (provisioned_names p) (provisioned_order p) is;
      format = ap (option_map (λ (h : Held). h.format)) is;
    })

-- the mark is a word of SEQ 0
pub first_word : (s : IvState) (from transmit : ℕ) → from ≡ transmit → transmit ≡ transmit_of s → s.current < 2 ^ 32 → from * 33554432 % 18446744073709551616 ≡ transmit_of s * 2 ^ 25 + 0
unfolding transmit_of
first_word s from transmit a b c = omega arith

pub first_mark : (s : IvState) (from transmit : ℕ) → from ≡ transmit → transmit ≡ transmit_of s → s.current < 2 ^ 32 → IsMark s (from * 33554432 % 18446744073709551616)
first_mark s from transmit a b c = record { seq = 0; word = first_word s from transmit a b c; most = omega arith; block = refl }
