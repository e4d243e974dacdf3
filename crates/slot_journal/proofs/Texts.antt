-- The text of a slot, octet by octet.
use Rattle.std.proofs.Common.{◌≡◌, ◌≢◌, ◌⊎◌, ℕ, ◌+◌, ◌-◌, ◌*◌, ◌<◌, ◌≤◌, List, length, get_or, drop, sym, ap, ◌∙◌, subst, inl, inr, ⊎_elim, arith, length-take, length-drop}
use Rattle.std.proofs.lemmas.Bool.{cases_lt}
use Rattle.std.proofs.lemmas.List.{get_or-take, get_or-drop, get_or-replicate, length-replicate, ext_get_or}
use Rattle.flash_model.specs.Octets.{IsContent}
use Rattle.slot_journal.specs.Slots.{IsElsewhere}
use Rattle.slot_definitions.specs.Slots.{text_at, blank_text}

pub get_text : (c : List ℕ) (n k : ℕ) → k < 32 → get_or (text_at c n) k 0 ≡ get_or c (32 * n + k) 0
get_text c n k lt =
    let inside : k < (32 * n + 32) - 32 * n = omega arith in
    get_or-take ((32 * n + 32) - 32 * n) (drop (32 * n) c) k 0 inside ∙ get_or-drop (32 * n) c k 0

pub length_text : (c : List ℕ) (n : ℕ) → IsContent c → n < 2048 → length (text_at c n) ≡ 32
length_text c n whole lt = omega (arith, length-take ((32 * n + 32) - 32 * n) (drop (32 * n) c), length-drop (32 * n) c, whole.size)

pub texts_same : (c d : List ℕ) (n : ℕ) → IsContent c → IsContent d → n < 2048 → ((k : ℕ) → k < 32 → get_or c (32 * n + k) 0 ≡ get_or d (32 * n + k) 0) → text_at c n ≡ text_at d n
texts_same c d n whole_c whole_d lt same =
    let len = length_text c n whole_c lt in
    ext_get_or 0 (text_at c n) (text_at d n) (len ∙ sym (length_text d n whole_d lt))
    (λ i h. let small : i < 32 = subst (λ (m : ℕ). i < m) len h in get_text c n i small ∙ same i small ∙ sym (get_text d n i small))

pub blank_octet : (c : List ℕ) (n k : ℕ) → text_at c n ≡ blank_text → k < 32 → get_or c (32 * n + k) 0 ≡ 255
blank_octet c n k blank lt = sym (get_text c n k lt) ∙ ap (λ (t : List ℕ). get_or t k 0) blank ∙ get_or-replicate 32 k 255 0 lt

pub text_blank : (c : List ℕ) (n : ℕ) → IsContent c → n < 2048 → ((k : ℕ) → k < 32 → get_or c (32 * n + k) 0 ≡ 255) → text_at c n ≡ blank_text
text_blank c n whole lt all =
    let len = length_text c n whole lt in
    ext_get_or 0 (text_at c n) blank_text (len ∙ sym (length-replicate {A = ℕ} 32 255))
    (λ i h. let small : i < 32 = subst (λ (m : ℕ). i < m) len h in get_text c n i small ∙ all i small ∙ sym (get_or-replicate 32 i 255 0 small))

sides : (m n k : ℕ) → m ≢ n → k < 32 → (32 * m + k < 32 * n) ⊎ (32 * n + 32 ≤ 32 * m + k)
sides m n k apart small = ⊎_elim (λ (below : m < n). inl (omega arith)) (λ (above : n ≤ m). let more : n < m = omega (arith, apart) in inr (omega arith)) (cases_lt m n)

-- octets outside a slot stay, so the other slots do
pub elsewhere_by : (n : ℕ) (old new : List ℕ) → IsContent old → IsContent new → ((o : ℕ) → (o < 32 * n) ⊎ (32 * n + 32 ≤ o) → get_or new o 0 ≡ get_or old o 0) → IsElsewhere n old new
elsewhere_by n old new whole whole' same m lt apart = texts_same new old m whole' whole lt (λ k small. same (32 * m + k) (sides m n k apart small))
