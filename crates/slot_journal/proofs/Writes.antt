-- A slot is written in two calls: all but its gate, and then the gate.
use Rattle.std.proofs.Common.{◌≡◌, ◌⊎◌, ℕ, ◌+◌, ◌*◌, ◌%◌, ◌<◌, ◌≤◌, List, [], ◌∷◌, ◌++◌, length, get_or, refl, sym, ap, ◌∙◌, subst, inl, inr, ⊎_elim, arith, length-append}
use Rattle.std.specs.Prelude.{bit_and, Result, Ok, Err, OnOk}
use Rattle.std.proofs.lemmas.Bool.{cases_eq, cases_lt}
use Rattle.std.proofs.lemmas.List.{ext_get_or, get_or_append_left}
use Rattle.std.proofs.Math.Seq.{get_or-append_seam}
use Rattle.std.proofs.lemmas.Nat.{and_comm, and_mask, and_le_r}
use Rattle.flash_model.specs.Octets.{IsContent, IsTorn, programmed}
use Rattle.flash_model.specs.Chip.{Chip, Cut, IsCut, IsDone, IsFresh, LeavesOnly}
use Rattle.flash_model.proofs.Changed.{programmed_below, programmed_above, programmed_within}
use Rattle.flash_model.proofs.Mixed.{torn_same, torn_content, programmed_content}
use Rattle.flash_model.proofs.Leaves.{IsOnlyNow, leaves_first, leaves_more}
use Rattle.slot_journal.specs.Slots.{IsWritten, IsSlotWrite}
use Rattle.slot_definitions.specs.Slots.{text_at, blank_text, gate_of}
use Rattle.slot_journal.proofs.Texts.{get_text, length_text, blank_octet, elsewhere_by}

and_blank : (b : ℕ) → b < 256 → bit_and 255 b ≡ b
and_blank b lt = let e : bit_and b 255 ≡ b % 256 = and_mask b 8 in and_comm 255 b ∙ omega (arith, e)

and_zero : (a : ℕ) → bit_and a 0 ≡ 0
and_zero a = let le = and_le_r a 0 in omega (arith, le)

-- over octets
module _ (old : List ℕ) (n : ℕ) (bytes : List ℕ) (whole : IsContent old) (lt : n < 2048) (len : length bytes ≡ 31) (small : (k : ℕ) → get_or bytes k 0 < 256) (blank : text_at old n ≡ blank_text) where
  abbrev first_part : List ℕ → List ℕ
  first_part = programmed (32 * n) bytes

  abbrev gate : List ℕ → List ℕ
  gate = programmed (32 * n + 31) (0 ∷ [])

  first_outside : (o : ℕ) → (o < 32 * n) ⊎ (32 * n + 32 ≤ o) → get_or (first_part old) o 0 ≡ get_or old o 0
  first_outside o (inl below) = programmed_below (32 * n) bytes old o below
  first_outside o (inr above) = programmed_above (32 * n) bytes old o (omega arith)

  gate_outside : (o : ℕ) → (o < 32 * n) ⊎ (32 * n + 32 ≤ o) → get_or (gate (first_part old)) o 0 ≡ get_or (first_part old) o 0
  gate_outside o (inl below) = programmed_below (32 * n + 31) (0 ∷ []) (first_part old) o (omega arith)
  gate_outside o (inr above) = programmed_above (32 * n + 31) (0 ∷ []) (first_part old) o (omega arith)

  first_octet : (k : ℕ) → k < 31 → get_or (first_part old) (32 * n + k) 0 ≡ get_or bytes k 0
  first_octet k lk =
      programmed_within (32 * n) bytes old k (32 * n + k) refl (omega arith) (omega (arith, whole.size))
      ∙ ap (λ (x : ℕ). bit_and x (get_or bytes k 0)) (blank_octet old n k blank (omega arith)) ∙ and_blank (get_or bytes k 0) (small k)

  gate_before : get_or (first_part old) (32 * n + 31) 0 ≡ 255
  gate_before = programmed_above (32 * n) bytes old (32 * n + 31) (omega arith) ∙ blank_octet old n 31 blank (omega arith)

  abbrev text : List ℕ
  text = bytes ++ 0 ∷ []

  size_of : length text ≡ 32
  size_of = omega (arith, length-append bytes (0 ∷ []))

  octet_of : (i : ℕ) → i < 31 → get_or text i 0 ≡ get_or bytes i 0
  octet_of i li = get_or_append_left bytes (0 ∷ []) 0 i (omega arith)

  last_of : get_or text 31 0 ≡ 0
  last_of = subst (λ (k : ℕ). get_or text k 0 ≡ 0) len (get_or-append_seam bytes 0 [] 0)

  -- all but the gate, and a gate of 0, is the whole slot
  text_is : (c : List ℕ) → IsContent c → ((k : ℕ) → k < 31 → get_or c (32 * n + k) 0 ≡ get_or bytes k 0) → get_or c (32 * n + 31) 0 ≡ 0 → text_at c n ≡ text
  text_is c content octets closed =
      let long = length_text c n content lt in
      ext_get_or 0 (text_at c n) (text) (long ∙ sym size_of) (λ i h.
      let within : i < 32 = subst (λ (m : ℕ). i < m) long h in
      get_text c n i within ∙ ⊎_elim
      (λ (low : i < 31). octets i low ∙ sym (octet_of i low))
      (λ (high : 31 ≤ i). let e : i ≡ 31 = omega arith in subst (λ (j : ℕ). get_or c (32 * n + j) 0 ≡ get_or (text) j 0) (sym e) (closed ∙ sym last_of))
      (cases_lt i 31))

  pub none_written : IsSlotWrite n text old old
  none_written = record {
    whole = whole;
    elsewhere = λ m lm apart. refl;
    here = inl (λ e. let open_gate = sym (get_text old n 31 (omega arith)) ∙ e in let was = blank_octet old n 31 blank (omega arith) in absurd (omega (arith, open_gate, was)));
  }

  pub first_torn : (c : List ℕ) → IsTorn old (first_part old) c → IsSlotWrite n text old c
  first_torn c torn =
      let content = torn_content old (first_part old) c whole (programmed_content (32 * n) bytes old whole) torn in
      record {
        whole = content;
        elsewhere = elsewhere_by n old c whole content (λ o out. torn_same old (first_part old) c o torn (first_outside o out));
        here = inl (λ e.
            let closed = sym (get_text c n 31 (omega arith)) ∙ e in
            let stays = torn_same old (first_part old) c (32 * n + 31) torn (programmed_above (32 * n) bytes old (32 * n + 31) (omega arith)) ∙ blank_octet old n 31 blank (omega arith) in
            absurd (omega (arith, closed, stays)));
      }

  pub gate_torn : (c : List ℕ) → IsTorn (first_part old) (gate (first_part old)) c → IsSlotWrite n text old c
  gate_torn c torn =
      let mid_whole = programmed_content (32 * n) bytes old whole in
      let content = torn_content (first_part old) (gate (first_part old)) c mid_whole (programmed_content (32 * n + 31) (0 ∷ []) (first_part old) mid_whole) torn in
      record {
        whole = content;
        elsewhere = elsewhere_by n old c whole content (λ o out. torn_same (first_part old) (gate (first_part old)) c o torn (gate_outside o out) ∙ first_outside o out);
        here = ⊎_elim
            (λ (closed : gate_of (text_at c n) ≡ 0). inr (text_is c content
            (λ k lk. torn_same (first_part old) (gate (first_part old)) c (32 * n + k) torn (programmed_below (32 * n + 31) (0 ∷ []) (first_part old) (32 * n + k) (omega arith)) ∙ first_octet k lk)
            (sym (get_text c n 31 (omega arith)) ∙ closed)))
            (λ (not : gate_of (text_at c n) ≡ 0 → ⊥). inl not)
            (cases_eq (gate_of (text_at c n)) 0);
      }

  pub both_written : IsWritten n text old (gate (first_part old))
  both_written =
      let mid_whole = programmed_content (32 * n) bytes old whole in
      let content = programmed_content (32 * n + 31) (0 ∷ []) (first_part old) mid_whole in
      record {
        whole = content;
        elsewhere = elsewhere_by n old (gate (first_part old)) whole content (λ o out. gate_outside o out ∙ first_outside o out);
        here = text_is (gate (first_part old)) content
            (λ k lk. programmed_below (32 * n + 31) (0 ∷ []) (first_part old) (32 * n + k) (omega arith) ∙ first_octet k lk)
            (programmed_within (32 * n + 31) (0 ∷ []) (first_part old) 0 (32 * n + 31) (omega arith) (omega arith) (omega (arith, mid_whole.size)) ∙ and_zero (get_or (first_part old) (32 * n + 31) 0));
      }

-- over chips
module _ (old mid new : Chip) (n : ℕ) (bytes : List ℕ) (fresh : IsFresh old) (only : IsOnlyNow old) (whole : IsContent old.now) (lt : n < 2048) (len : length bytes ≡ 31) (small : (k : ℕ) → get_or bytes k 0 < 256) (blank : text_at old.now n ≡ blank_text) where
  abbrev P : List ℕ → Type 0
  P = IsSlotWrite n (bytes ++ 0 ∷ []) old.now

  pub first_leaves : IsCut (programmed (32 * n) bytes) old mid → LeavesOnly old mid P
  first_leaves cut = leaves_first old mid (Cut (programmed (32 * n) bytes) old.images) P only
      (λ c image. subst P (sym (fresh.only c image)) (none_written old.now n bytes whole lt len small blank))
      cut.time
      (λ c image. first_torn old.now n bytes whole lt len small blank c (subst (λ (d : List ℕ). IsTorn d (programmed (32 * n) bytes d) c) (fresh.only image.0 image.1) image.2))

  pub both_leave : IsCut (programmed (32 * n) bytes) old mid → IsDone (programmed (32 * n) bytes) old mid → IsCut (programmed (32 * n + 31) (0 ∷ [])) mid new → LeavesOnly old new P
  both_leave cut done cut' = leaves_more old mid new (Cut (programmed (32 * n + 31) (0 ∷ [])) mid.images) P (first_leaves cut) cut'.time
      (λ c image.
      let from = done.durable image.0 image.1 in
      let e : image.0 ≡ programmed (32 * n) bytes old.now = from.2 ∙ ap (programmed (32 * n) bytes) (fresh.only from.0 from.1) in
      gate_torn old.now n bytes whole lt len small blank c (subst (λ (d : List ℕ). IsTorn d (programmed (32 * n + 31) (0 ∷ []) d) c) e image.2))

  pub both_done : IsDone (programmed (32 * n) bytes) old mid → IsDone (programmed (32 * n + 31) (0 ∷ [])) mid new → IsWritten n (bytes ++ 0 ∷ []) old.now new.now
  both_done done done' =
      let e : new.now ≡ programmed (32 * n + 31) (0 ∷ []) (programmed (32 * n) bytes old.now) = done'.reads ∙ ap (programmed (32 * n + 31) (0 ∷ [])) done.reads in
      subst (λ (c : List ℕ). IsWritten n (bytes ++ 0 ∷ []) old.now c) (sym e) (both_written old.now n bytes whole lt len small blank)

  pub both_done_on : {T E : Type 0} (result : Result T E) → IsDone (programmed (32 * n) bytes) old mid → OnOk result (IsDone (programmed (32 * n + 31) (0 ∷ [])) mid new) → OnOk result (IsWritten n (bytes ++ 0 ∷ []) old.now new.now)
  both_done_on (Ok x) done done' = both_done done done'
  both_done_on (Err e) done done' = tt
