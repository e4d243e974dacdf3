-- A journal of a flash: over calls that leave the content, and over an append.
use Rattle.std.proofs.Common.{◌≡◌, ℕ, ◌+◌, ◌*◌, ◌<◌, List, false, refl, sym, ap, ◌∙◌, subst, inl}
use Rattle.mesh_base.specs.declared.slot.Slot.{Slot}
use Rattle.flash_model.specs.Chip.{Chip, IsFresh, LeavesOnly, Stays}
use Rattle.flash_model.proofs.Leaves.{IsOnlyNow, leaves_none, leaves_weaker}
use Rattle.slot_journal.specs.Slots.{IsWritten, IsSlotWrite}
use Rattle.slot_definitions.specs.Slots.{text_at, text_of, blank_text, format_of, generation_of, recovered}
use Rattle.slot_journal.specs.Headers.{IsTidy}
use Rattle.slot_journal.specs.View.{JournalView}
use Rattle.slot_journal.specs.Tie.{IsJournalOf, IsMounted, IsAppended, with_last}
use Rattle.slot_journal.proofs.Appends.{appended_torn, used_after, tidy_after, counts_after, header_same, open_gate, place_blank}

-- calls that leave the content
pub fresh_stays : (old new : Chip) → IsFresh old → Stays old new → new.honest ≡ old.honest → IsFresh new
fresh_stays old new fresh stays same = record { honest = same ∙ fresh.honest; only = λ c image. fresh.only c (stays.images c image) ∙ sym stays.now }

pub mounted_stays : (old new : Chip) (journal : JournalView) → IsFresh old → IsTidy old.now → IsMounted old.now journal → Stays old new → new.honest ≡ old.honest → IsJournalOf new journal
mounted_stays old new journal fresh tidy mounted stays same = record {
  fresh = fresh_stays old new fresh stays same;
  tidy = subst IsTidy (sym stays.now) tidy;
  mounted = subst (λ (l : List ℕ). IsMounted l journal) (sym stays.now) mounted;
}

pub journal_stays : (old new : Chip) (journal : JournalView) → IsJournalOf old journal → Stays old new → new.honest ≡ old.honest → IsJournalOf new journal
journal_stays old new journal tie stays same = mounted_stays old new journal tie.fresh tie.tidy tie.mounted stays same

module _ (old : Chip) (journal : JournalView) (item : Slot) (tie : IsJournalOf old journal) where
  abbrev P : List ℕ → Type 0
  P = IsAppended (recovered old.now) item

  abbrev next : ℕ
  next = 1024 * journal.bank + (journal.used + 1)

  pub unchanged : IsOnlyNow old → LeavesOnly old old P
  unchanged only = leaves_none old P only (λ c image. subst P (sym (tie.fresh.only c image)) (record { tidy = tie.tidy; either = inl refl }))

  module _ (few : journal.used < 1023) where
    pub next_blank : text_at old.now next ≡ blank_text
    next_blank = place_blank old.now journal.bank journal.used item tie.tidy tie.mounted.low tie.mounted.bank tie.mounted.used few

    module _ (new : Chip) where
      pub any_moment : LeavesOnly old new (IsSlotWrite next (text_of item) old.now) → LeavesOnly old new P
      any_moment leaves = leaves_weaker old new (IsSlotWrite next (text_of item) old.now) P leaves
          (λ c write. appended_torn old.now journal.bank journal.used item tie.tidy tie.mounted.low tie.mounted.bank tie.mounted.used few c write)

      pub durable : IsWritten next (text_of item) old.now new.now → recovered new.now ≡ with_last item (recovered old.now)
      durable write = open_gate old.now journal.bank journal.used item tie.tidy tie.mounted.low tie.mounted.bank tie.mounted.used few new.now write.whole write.elsewhere write.here

      pub kept : IsFresh new → IsWritten next (text_of item) old.now new.now
          → IsJournalOf new (record { bank = journal.bank; used = journal.used + 1; closed = false; generation = journal.generation; version = journal.version })
      kept fresh write =
          let header = header_same old.now journal.bank journal.used item tie.tidy tie.mounted.low tie.mounted.bank tie.mounted.used few new.now write.whole write.elsewhere journal.bank tie.mounted.low in
          record {
            fresh = fresh;
            tidy = tidy_after old.now journal.bank journal.used item tie.tidy tie.mounted.low tie.mounted.bank tie.mounted.used few new.now write.whole write.elsewhere;
            mounted = record {
              usable = refl;
              low = tie.mounted.low;
              bank = counts_after old.now journal.bank journal.used item tie.tidy tie.mounted.low tie.mounted.bank tie.mounted.used few new.now write.whole write.elsewhere;
              generation = ap generation_of header ∙ tie.mounted.generation;
              version = ap format_of header ∙ tie.mounted.version;
              used = used_after old.now journal.bank journal.used item tie.tidy tie.mounted.low tie.mounted.bank tie.mounted.used few new.now write;
            };
          }
