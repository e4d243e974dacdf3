-- The used slots of a bank, counted one after another.
use Rattle.std.proofs.Common.{◌≡◌, ◌≢◌, ℕ, zero, suc, ◌+◌, ◌-◌, ◌*◌, ◌<◌, ◌≤◌, List, Some, false, refl, sym, ap, ◌∙◌, subst, ⊎_elim, arith}
use Rattle.std.proofs.lemmas.Bool.{cases_lt}
use Rattle.slot_definitions.specs.Slots.{text_at, blank_text, format_of, generation_of, slots_to, slots_of, counting, counting_by, recovered, IsUsed}
use Rattle.slot_journal.specs.declared.header.Counting.{Counting}
use Rattle.slot_journal.specs.Headers.{header_in, IsSaid}
use Rattle.slot_journal.specs.Tie.{IsMounted, IsUsedBelow}
use Rattle.slot_definitions.proofs.SlotLaws.{slots_blank, recovered_at}

pub below_none : (c : List ℕ) (bank : ℕ) → IsUsedBelow c bank 1 0
below_none c bank = record { few = omega arith; blank = λ m above below. absurd (omega arith); last = λ some. absurd (omega arith) }

pub below_used : (c : List ℕ) (bank n used : ℕ) → IsUsedBelow c bank n used → text_at c (1024 * bank + n) ≢ blank_text → IsUsedBelow c bank (n + 1) n
below_used c bank n used so not = record { few = omega arith; blank = λ m above below. absurd (omega arith); last = λ some. not }

pub below_blank : (c : List ℕ) (bank n used : ℕ) → IsUsedBelow c bank n used → text_at c (1024 * bank + n) ≡ blank_text → IsUsedBelow c bank (n + 1) used
below_blank c bank n used so is = record {
  few = omega (arith, so.few);
  blank = λ m above below. ⊎_elim
      (λ (less : m < n). so.blank m above less)
      (λ (more : n ≤ m). let e : m ≡ n = omega arith in subst (λ (k : ℕ). text_at c (1024 * bank + k) ≡ blank_text) (sym e) is)
      (cases_lt m n);
  last = so.last;
}

pub below_all : (c : List ℕ) (bank n used : ℕ) → n ≡ 1024 → IsUsedBelow c bank n used → IsUsed c bank used
below_all c bank n used all so = record { few = omega (arith, so.few); blank = λ m above below. so.blank m above (omega arith); last = so.last }

-- what is recovered are the used slots
pub recovered_used : (c : List ℕ) (bank used format : ℕ) → counting c ≡ Some bank → IsUsed c bank used → format_of (text_at c (1024 * bank)) ≡ format
    → recovered c ≡ Some (record { format = format; slots = slots_to c bank used })
unfolding slots_of
recovered_used c bank used format counts is says =
    let few = is.few in
    let slots = slots_blank c bank used (1023 - used) 1023 (omega arith) is.blank in
    recovered_at c bank counts ∙ (λ i. Some (record { format = says i; slots = slots i }))

-- the header of a bank, out of both
pub header_at : (c : List ℕ) (bank : ℕ) → bank ≤ 1 → header_in bank (text_at c 0) (text_at c 1024) ≡ text_at c (1024 * bank)
header_at c zero low = refl
header_at c (suc zero) low = refl
header_at c (suc (suc n)) low = absurd (omega arith)

-- what a mount finds by both headers and the count of used slots
pub mounted_by : (c first second : List ℕ) (at : Counting) (used : ℕ) → first ≡ text_at c 0 → second ≡ text_at c 1024 → Some at.bank ≡ counting_by first second
    → IsSaid first second at → IsUsed c at.bank used → IsMounted c (record { bank = at.bank; used = used; closed = false; generation = at.generation; version = at.format })
mounted_by c first second at used one two counts said is =
    let here : header_in at.bank first second ≡ text_at c (1024 * at.bank) = (λ i. header_in at.bank (one i) (two i)) ∙ header_at c at.bank said.low in
    record {
      usable = refl;
      low = said.low;
      bank = (λ i. counting_by (sym one i) (sym two i)) ∙ sym counts;
      generation = sym (ap generation_of here) ∙ said.generation;
      version = sym (ap format_of here) ∙ said.format;
      used = is;
    }
