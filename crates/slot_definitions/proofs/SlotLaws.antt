-- What the slots of a bank hold, one slot after another, and what is then recovered.
use Rattle.std.proofs.Common.{◌≡◌, ◌≢◌, ℕ, zero, suc, ◌+◌, ◌*◌, ◌<◌, ◌≤◌, List, [], ◌∷◌, ◌++◌, length, get_or, take, Option, Some, None, refl, sym, ap, ◌∙◌, subst, arith, add-one, length-append}
use Rattle.std.specs.Prelude.{option_to_list, option_map, if◌then◌else◌, slice_range}
use Rattle.std.proofs.lemmas.List.{append-nil, take-append-le, take_all}
use Rattle.std.proofs.lemmas.Bool.{eq-eqb, ne_eqb}
use Rattle.std.proofs.Math.Seq.{get_or-append_seam}
use Rattle.mesh_base.specs.declared.slot.Slot.{Slot}
use Rattle.slot_definitions.specs.Slots.{text_at, text_of, blank_text, gate_of, gated, slots_to, slots_of, counting, Held, held_by, recovered}

-- slots with the same texts hold the same
pub slots_same : (c d : List ℕ) (bank n : ℕ) → ((m : ℕ) → 0 < m → m ≤ n → text_at c (1024 * bank + m) ≡ text_at d (1024 * bank + m)) → slots_to c bank n ≡ slots_to d bank n
slots_same c d bank zero same = refl
slots_same c d bank (suc n) same = λ i.
    slots_same c d bank n (λ m above below. same m above (omega arith)) i ++ option_to_list (gated (same (suc n) (omega arith) (omega arith) i))

pub gated_none : (text : List ℕ) → gate_of text ≢ 0 → gated text ≡ None
gated_none text not = ap (λ b. if b then Some (record { kind = get_or text 0 0; body = slice_range text 1 31 }) else None) (ne_eqb (gate_of text) 0 not)

-- blank slots hold nothing
pub slots_blank : (c : List ℕ) (bank n k total : ℕ) → total ≡ n + k → ((m : ℕ) → n < m → m ≤ total → text_at c (1024 * bank + m) ≡ blank_text) → slots_to c bank total ≡ slots_to c bank n
slots_blank c bank n zero total is blank = let e : total ≡ n = omega arith in ap (slots_to c bank) e
slots_blank c bank n (suc k) zero is blank = absurd (omega arith)
slots_blank c bank n (suc k) (suc t) is blank =
    let rest = slots_blank c bank n k t (omega arith) (λ m above below. blank m above (omega arith)) in
    ap (λ (text : List ℕ). slots_to c bank t ++ option_to_list (gated text)) (blank (suc t) (omega arith) (omega arith)) ∙ append-nil (slots_to c bank t) ∙ rest

-- a slot that was written whole holds its record
pub gated_text : (slot : Slot) → length (text_of slot) ≡ 32 → gated (text_of slot) ≡ Some slot
gated_text slot size =
    let long : length slot.body ≡ 30 = omega (arith, size, length-append (slot.kind ∷ slot.body) (0 ∷ [])) in
    let front : length (slot.kind ∷ slot.body) ≡ 31 = omega arith in
    let closed : gate_of (text_of slot) ≡ 0 = subst (λ (k : ℕ). get_or ((slot.kind ∷ slot.body) ++ 0 ∷ []) k 0 ≡ 0) front (get_or-append_seam (slot.kind ∷ slot.body) 0 [] 0) in
    let inner : take 30 (slot.body ++ 0 ∷ []) ≡ slot.body = take-append-le 30 slot.body (0 ∷ []) (omega arith) ∙ take_all 30 slot.body (omega arith) in
    ap (λ b. if b then Some (record { kind = slot.kind; body = slice_range (text_of slot) 1 31 }) else None) (eq-eqb (gate_of (text_of slot)) 0 closed)
    ∙ (λ i. Some (record { kind = slot.kind; body = inner i }))

-- one slot more
pub slots_next : (content : List ℕ) (bank n : ℕ) (held : Option Slot) → gated (text_at content (1024 * bank + (n + 1))) ≡ held
    → slots_to content bank (n + 1) ≡ slots_to content bank n ++ option_to_list held
slots_next content bank n held gate =
    subst (λ (m : ℕ). gated (text_at content (1024 * bank + m)) ≡ held → slots_to content bank m ≡ slots_to content bank n ++ option_to_list held) (sym (add-one n))
    (λ h. ap (λ (o : Option Slot). slots_to content bank n ++ option_to_list o) h) gate

-- what is recovered is what the bank that counts holds
pub recovered_at : (content : List ℕ) (bank : ℕ) → counting content ≡ Some bank → recovered content ≡ Some (held_by content bank)
recovered_at content bank is = ap (option_map (held_by content)) is

-- an image recovers one thing
pub held_once : (content : List ℕ) (a b : Held) → recovered content ≡ Some a → recovered content ≡ Some b → a ≡ b
held_once content a b one two = let same : Some a ≡ Some b = sym one ∙ two in by_cc a b same
  where
    by_cc : (x y : Held) → Some x ≡ Some y → x ≡ y
    by_cc x y h = cc
