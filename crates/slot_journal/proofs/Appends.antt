-- One slot more: what a cut leaves, and what the journal then knows.
use Rattle.std.proofs.Common.{◌≡◌, ◌≢◌, ℕ, suc, ◌+◌, ◌-◌, ◌*◌, ◌<◌, ◌≤◌, List, [], ◌∷◌, ◌++◌, length, Some, None, sym, ap, ◌∙◌, subst, inl, inr, ⊎_elim, arith}
use Rattle.std.specs.Prelude.{option_to_list}
use Rattle.std.proofs.lemmas.List.{append-nil}
use Rattle.mesh_base.specs.declared.slot.Slot.{Slot}
use Rattle.flash_model.specs.Octets.{IsContent}
use Rattle.slot_journal.specs.Slots.{IsElsewhere, IsWritten, IsSlotWrite}
use Rattle.slot_definitions.specs.Slots.{text_at, text_of, blank_text, gate_of, format_of, gated, slots_to, slots_of, counting, counting_by, held_by, recovered, IsUsed}
use Rattle.slot_journal.specs.Headers.{IsSteady, IsTidy}
use Rattle.slot_journal.specs.Tie.{IsAppended, with_last}
use Rattle.slot_journal.proofs.Texts.{length_text}
use Rattle.slot_definitions.proofs.SlotLaws.{slots_same, slots_blank, gated_none, gated_text, recovered_at}

-- no header stands there
is_no_header : (bank used b : ℕ) → used < 1023 → 1024 * b ≢ 1024 * bank + (used + 1)
is_no_header bank used b few e = omega arith

pub same_counting : (c d : List ℕ) → text_at c 0 ≡ text_at d 0 → text_at c 1024 ≡ text_at d 1024 → counting c ≡ counting d
same_counting c d first second = λ i. counting_by (first i) (second i)

module _ (old : List ℕ) (bank used : ℕ) (item : Slot) (tidy : IsTidy old) (low : bank ≤ 1) (counts : counting old ≡ Some bank) (known : IsUsed old bank used) (few : used < 1023) where
  abbrev place : ℕ
  place = 1024 * bank + (used + 1)

  pub place_blank : text_at old place ≡ blank_text
  place_blank = known.blank (used + 1) (omega arith) (omega arith)

  -- content in which at most that slot differs
  module _ (c : List ℕ) (whole : IsContent c) (elsewhere : IsElsewhere place old c) where
    pub header_same : (b : ℕ) → b ≤ 1 → text_at c (1024 * b) ≡ text_at old (1024 * b)
    header_same b lb = elsewhere (1024 * b) (omega arith) (is_no_header bank used b few)

    pub tidy_after : IsTidy c
    tidy_after = record { whole = whole; steady = λ b lb. subst IsSteady (sym (header_same b lb)) (tidy.steady b lb) }

    pub counts_after : counting c ≡ Some bank
    counts_after = same_counting c old (header_same 0 (omega arith)) (header_same 1 (omega arith)) ∙ counts

    pub blank_after : (n : ℕ) → used + 1 < n → n ≤ 1023 → text_at c (1024 * bank + n) ≡ blank_text
    blank_after n above below = elsewhere (1024 * bank + n) (omega arith) (λ e. absurd (omega arith)) ∙ known.blank n (omega arith) below

    slots_old : slots_of old bank ≡ slots_to old bank used
    unfolding slots_of
    slots_old = slots_blank old bank used (1023 - used) 1023 (omega arith) known.blank

    slots_new : slots_of c bank ≡ slots_of old bank ++ option_to_list (gated (text_at c place))
    unfolding slots_of
    slots_new =
        let next : used + 1 ≡ suc used = omega arith in
        let until = slots_blank c bank (used + 1) (1023 - (used + 1)) 1023 (omega arith) blank_after in
        let before = slots_same c old bank used (λ m above below. elsewhere (1024 * bank + m) (omega arith) (λ e. absurd (omega arith))) in
        let at : text_at c (1024 * bank + suc used) ≡ text_at c place = ap (λ k. text_at c (1024 * bank + k)) (sym next) in
        until ∙ ap (slots_to c bank) next ∙ (λ i. before i ++ option_to_list (gated (at i))) ∙ ap (λ (l : List Slot). l ++ option_to_list (gated (text_at c place))) (sym slots_old)

    held_new : (slots : List Slot) → slots_of c bank ≡ slots → held_by c bank ≡ record { format = format_of (text_at old (1024 * bank)); slots = slots }
    held_new slots are = λ i. record { format = format_of (header_same bank low i); slots = are i }

    pub closed_gate : gate_of (text_at c place) ≢ 0 → recovered c ≡ recovered old
    closed_gate not =
        recovered_at c bank counts_after ∙ ap Some (held_new (slots_of old bank) (slots_new ∙ ap (λ o. slots_of old bank ++ option_to_list o) (gated_none (text_at c place) not) ∙ append-nil (slots_of old bank)))
        ∙ sym (recovered_at old bank counts)

    pub open_gate : text_at c place ≡ text_of item → recovered c ≡ with_last item (recovered old)
    open_gate is =
        let size = sym (ap (λ (l : List ℕ). length l) is) ∙ length_text c place whole (omega arith) in
        recovered_at c bank counts_after ∙ ap Some (held_new (slots_of old bank ++ item ∷ []) (slots_new ∙ ap (λ o. slots_of old bank ++ option_to_list o) (ap gated is ∙ gated_text item size)))
        ∙ ap (with_last item) (sym (recovered_at old bank counts))

  pub appended_torn : (c : List ℕ) → IsSlotWrite place (text_of item) old c → IsAppended (recovered old) item c
  appended_torn c write = record {
    tidy = tidy_after c write.whole write.elsewhere;
    either = ⊎_elim (λ not. inl (closed_gate c write.whole write.elsewhere not)) (λ is. inr (open_gate c write.whole write.elsewhere is)) write.here;
  }

  pub used_after : (c : List ℕ) → IsWritten place (text_of item) old c → IsUsed c bank (used + 1)
  used_after c write = record {
    few = omega arith;
    blank = blank_after c write.whole write.elsewhere;
    last = λ some is.
        let size = sym (ap (λ (l : List ℕ). length l) write.here) ∙ length_text c place write.whole (omega arith) in
        let holds = sym (gated_text item size) ∙ ap gated (sym write.here ∙ is) in
        absurd (none_some item holds);
  }
    where
      none_some : (x : Slot) → Some x ≡ None → ⊥
      none_some x e = cc
