-- What a refill leaves, whether its record was stored or not.
use Rattle.std.proofs.Common.{◌≡◌, ℕ, ◌+◌, ◌*◌, ◌≤◌, ◌<◌, ◌^◌, ⊎_elim, false, List, [], ◌∷◌, ◌++◌, append-nil, ap, sym, subst, ◌∙◌, arith}
use Rattle.std.specs.Prelude.{All, IsTrue}
use Rattle.flash_model.specs.Chip.{Chip, Keeps, Setting, count_of}
use Rattle.machine_contract.specs.Opening.{FlashFound}
use Rattle.machine_contract.specs.Standing.{past_now}
use Rattle.machine_contract.specs.declared.answers.Hand.TheVariants as H
use Rattle.machine_standing.proofs.Fronts.{IsSameNode, kept_node_of}
use Rattle.machine_standing.proofs.Standings.{refilled_stands, unfilled_stands}
use Rattle.machine_standing.specs.Kept.{AreKept}
use Rattle.machine_standing.specs.Ties.{IsCutIn, IsKind, IsReadyBy, StandsBy, refilled_by, stopped_by, with_fill}
use Rattle.machine_standing.specs.Views.{LifeMachine}
use Rattle.node_records.proofs.Said.{iv_of}
use Rattle.node_records.specs.Meaning.{IsMeaningOf}
use Rattle.node_records.specs.Tables.{config_in}
use Rattle.node_records.specs.declared.persist.Persist.{Persist}
use Rattle.node_store.specs.Tie.{Holds, IsFront, IsPut, IsStoreOf}
use Rattle.record_types.specs.declared.records.StoreRecord.{StoreRecord}
use Rattle.event_definitions.specs.History.{Past}
use Rattle.event_definitions.specs.Role.{Role}
use Rattle.seq_reserve.proofs.Marks.{mark_more}
use Rattle.seq_reserve.specs.Reserving.{IsDurable, IsPublished}
use Rattle.seq_reserve.specs.declared.reserve.Reserve.{Reserve}
use Rattle.seq_word.specs.Word.{seq_of}
use Rattle.store_definitions.specs.Config.{Config, config_of}
use Rattle.store_definitions.specs.Numbers.{fill_of}
use Rattle.store_definitions.specs.Ranges.{IsInRange}
use Rattle.store_definitions.specs.Wear.{CostsAndUses, CostsAtMost}

pub fill_kept : (records : List StoreRecord) → All IsInRange records → seq_of (config_of records).mark < 2 ^ 24 → AreKept (config_of records) (fill_of (config_of records) ∷ [])
fill_kept records ranges seq =
    let h = iv_of records ranges in
    let c = config_of records in
    ((h.current, h.transmit, mark_more c.iv c.mark h.mark seq, h.hours, h.since), tt, tt, tt)

put_front : (records : List StoreRecord) (item : StoreRecord) (c : List ℕ) → IsPut records item c → IsFront records (item ∷ []) c
put_front records item c h =
    ⊎_elim
    (λ old. record { tidy = h.tidy; n = 0; few = omega arith; holds = subst (λ l. Holds c l) (sym (append-nil records)) old })
    (λ new. record { tidy = h.tidy; n = 1; few = omega arith; holds = new })
    h.either

pub put_cut : (chip : Chip) (records : List StoreRecord) (item : StoreRecord) (mark : ℕ) → IsTrue chip.honest → ((c : List ℕ) → chip.images c → IsPut records item c)
    → IsDurable chip mark → IsCutIn chip records (item ∷ []) mark
put_cut chip records item mark honest puts durable = record {
  honest = honest;
  fronts = λ image is. put_front records item image (puts image is);
  durable = durable;
}

-- a refill more is paid for by its block
pub paid_more : (fills mark next : ℕ) → 256 * fills ≤ seq_of mark → next ≡ mark + 256 → seq_of mark < 2 ^ 24 → 256 * (fills + 1) ≤ seq_of next
paid_more fills mark next paid is left = omega arith

module _ {Memory : Type 0} (role : Role) (Before : Past → LifeMachine Memory → Type 0) (kind : IsKind role Before) (m : LifeMachine Memory) where
  seq_now : (past : Past) → Before past m → m.reserve.keeper.mark ≡ m.reserve.store.persist.mark → seq_of m.reserve.keeper.mark < 2 ^ 24 → seq_of (config_of past.records).mark < 2 ^ 24
  seq_now past h published seq =
      subst (λ n. seq_of n < 2 ^ 24) (published ∙ ap (λ (c : Config). c.mark) (kind.said past m h).meaning.config) seq

  -- a refill may be put behind the records of before
  refill_kept : (past : Past) → Before past m → m.reserve.keeper.mark ≡ m.reserve.store.persist.mark → seq_of m.reserve.keeper.mark < 2 ^ 24
      → AreKept (config_of past.records) (fill_of (config_of past.records) ∷ [])
  refill_kept past h published seq = fill_kept past.records (kind.said past m h).ranges (seq_now past h published seq)

  -- a refill leaves the elements
  pub refill_node : (past : Past) (p : Persist) → Before past m → m.reserve.keeper.mark ≡ m.reserve.store.persist.mark → seq_of m.reserve.keeper.mark < 2 ^ 24
      → IsMeaningOf (past.records ++ fill_of (config_of past.records) ∷ []) p → IsSameNode (config_in m.reserve.store.persist) (config_in p)
  refill_node past p h published seq meaning =
      let c = config_of past.records in
      let same : IsSameNode c (config_of (past.records ++ fill_of c ∷ [])) = kept_node_of past.records (fill_of c ∷ []) (refill_kept past h published seq) in
      subst (λ d. IsSameNode (config_in m.reserve.store.persist) d) (sym meaning.config)
      (subst (λ d. IsSameNode d (config_of (past.records ++ fill_of c ∷ []))) (sym (kind.said past m h).meaning.config) same)

  pub refill_stands : (first : FlashFound) (old new : Chip) (over : List StoreRecord) (s : StandsBy role Before first old over m) → m.closed ≡ false → (r : Reserve)
      → IsPublished m.reserve.store m.reserve.keeper → seq_of m.reserve.keeper.mark < 2 ^ 24
      → IsStoreOf new r.store (with_fill (past_now role over s.life.told m.fills)).records
      → IsMeaningOf (with_fill (past_now role over s.life.told m.fills)).records r.store.persist
      → IsPublished r.store r.keeper → r.keeper.advances ≡ m.reserve.keeper.advances → Keeps old new
      → CostsAndUses m.reserve.store.journal.used 1 (count_of old) (count_of new) r.store.journal.used → new.reads ≡ old.reads → new.faults ≡ old.faults
      → StandsBy role Before first new over (refilled_by m r)
  refill_stands first old new over s runs r before seq store meaning published same keeps wear unread whole =
      let past : Past = past_now role over s.life.told m.fills in
      refilled_stands role Before kind first old new over m s runs r (refill_kept past (s.usable runs).before before seq) store published meaning same
      (omega (arith, s.began, keeps.later, ap (λ (x : Setting). x.faults) keeps.setting)) wear unread whole

  pub refill_stops : (first : FlashFound) (old new : Chip) (over : List StoreRecord) (s : StandsBy role Before first old over m) → m.closed ≡ false → (r : Reserve)
      → IsPublished m.reserve.store m.reserve.keeper → seq_of m.reserve.keeper.mark < 2 ^ 24
      → IsCutIn new (past_now role over s.life.told m.fills).records (fill_of (config_of (past_now role over s.life.told m.fills).records) ∷ []) r.keeper.mark
      → old.faults < new.faults → Keeps old new
      → CostsAtMost m.reserve.store.journal.used 1 (count_of old) (count_of new) → new.reads ≡ old.reads → new.faults ≤ old.faults + 1
      → StandsBy role Before first new over (stopped_by m r m.tables H.OfRefill)
  refill_stops first old new over s runs r before seq cut rose keeps wear unread once =
      let past : Past = past_now role over s.life.told m.fills in
      unfilled_stands role Before kind first old new over m s runs r (refill_kept past (s.usable runs).before before seq) cut
      (omega (arith, s.began, rose, ap (λ (x : Setting). x.faults) keeps.setting)) wear unread once

  pub refill_ready : (Fits : Memory → Persist → Type 0) (ready : IsReadyBy Before Fits m) (r : Reserve) → seq_of m.reserve.keeper.mark < 2 ^ 24
      → IsMeaningOf (with_fill ready.past).records r.store.persist → IsPublished r.store r.keeper → r.store.journal.closed ≡ false
      → Fits m.tables r.store.persist → m.elements ≡ r.store.persist.elements → r.keeper.mark ≡ m.reserve.keeper.mark + 256
      → IsReadyBy Before Fits (refilled_by m r)
  refill_ready Fits ready r seq meaning published usable fit elements rises = record {
    past = with_fill ready.past;
    before = kind.refilled ready.past m r (refill_kept ready.past ready.before ready.published seq) meaning ready.before;
    published = published;
    fit = fit;
    usable = usable;
    elements = elements;
    paid = paid_more m.fills m.reserve.keeper.mark r.keeper.mark ready.paid rises seq;
  }
