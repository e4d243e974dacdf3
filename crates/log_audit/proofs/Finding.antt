-- What is wrong at a line comes first.
use Rattle.std.proofs.Common.{◌≡◌, ℕ, ◌+◌, ◌<◌, ◌≤◌, ◌⊎◌, min, Bool, true, false, List, length, take, map, Option, Some, None, refl, sym, ap, subst, ◌∙◌, inl, inr, arith}
use Rattle.std.specs.List.{slice_get, list_any}
use Rattle.std.proofs.lemmas.Bool.{cases_lt}
use Rattle.mesh_types.specs.declared.report.ReportLine.{ReportLine}
use Rattle.script_definitions.specs.Events.{material_of}
use Rattle.script_definitions.specs.declared.line.ScriptNet.{ScriptNet}
use Rattle.audit_definitions.specs.Seals.{IsOwn}
use Rattle.audit_definitions.specs.Verdicts.{Reuses, IsWrong, place, IsUpTo, IsVerdictOf}
use Rattle.audit_definitions.specs.declared.verdict.Verdict.{Verdict}
use Rattle.audit_definitions.specs.declared.verdict.Verdict.TheVariants as V
use Rattle.log_audit.specs.Facts.{Key, same_key, pdu_fact, message_fact, accepted_fact, is_own_source}
use Rattle.log_audit.specs.Uses.{first, clash_of}
use Rattle.log_audit.specs.Wrong.{least, IsBadUnder}
use Rattle.log_audit.proofs.Assembly.{always, always_steady, under_bad}
use Rattle.log_audit.proofs.Clashes.{IsClean, LeastClash, clash_none, clash_some, clean_more}
use Rattle.log_audit.proofs.Deciding.{Clash, Again, Clean, reuse_clash, again_of, later}
use Rattle.log_audit.proofs.KeyOrder.{same_key-Decides}
use Rattle.log_audit.proofs.Meanings.{octets_differ, octets_steady, reuse_of_pdus, reuse_of_messages, twice_of, own_found}

-- what a fact of the line at place j clashes with
abbrev pub clash_at : (ReportLine → Option (Key × List ℕ)) → ℕ → List ReportLine → ℕ → ReportLine → Option ℕ
clash_at f n lines j l = clash_of octets_differ (λ q. first same_key f n q (take j lines)) (f l)

abbrev pub again_at : ℕ → List ReportLine → ℕ → ReportLine → Option ℕ
again_at n lines j l = clash_of always (λ q. first same_key accepted_fact n q (take j lines)) (accepted_fact l)

-- the first line whose nonce the line at place j uses again
record LeastReuse (own : ℕ → Bool) (nets : List ScriptNet) (lines : List ReportLine) (j : ℕ) (l : ReportLine) (a : ℕ) : Type 0 where
  before : ReportLine
  at : ℕ
  below : at < j
  number : a ≡ length nets + at + 1
  found : slice_get lines at ≡ Some before
  are : Reuses (IsOwn lines) before l
  least_pdu : (i : ℕ) → i < j → Clash (pdu_fact own) lines i j → at ≤ i
  least_message : (i : ℕ) → i < j → Clash message_fact lines i j → at ≤ i

module _ (own : ℕ → Bool) (nets : List ScriptNet) (lines : List ReportLine) (own_is : (a : ℕ) → own a ≡ list_any (is_own_source a) lines)
    (j : ℕ) (l : ReportLine) (at_j : slice_get lines j ≡ Some l) (clean : Clean own (map material_of nets) lines j) where
  no_clash : (f : ReportLine → Option (Key × List ℕ)) → IsClean same_key same_key-Decides f octets_differ octets_steady lines j
      → clash_at f (length nets) lines j l ≡ None → (i : ℕ) → i < j → Clash f lines i j → ⊥
  no_clash f c none i lt h =
      let same : octets_differ h.one h.two ≡ false = clash_none same_key same_key-Decides f octets_differ octets_steady (length nets) lines j l c at_j none i h.key h.one h.two lt h.first h.second in
      let clash : true ≡ false = sym h.differ ∙ same in
      cc

  no_again : again_at (length nets) lines j l ≡ None → (i : ℕ) → i < j → Again lines i j → ⊥
  no_again none i lt h =
      let clash : true ≡ false = clash_none same_key same_key-Decides accepted_fact always always_steady (length nets) lines j l clean.names at_j none i h.key h.one h.two lt h.first h.second in
      cc

  second_is : (y : ReportLine) → slice_get lines j ≡ Some y → y ≡ l
  second_is y e = let both : Some y ≡ Some l = sym e ∙ at_j in cc

  of_pdu : (a : ℕ) → (c : LeastClash same_key same_key-Decides (pdu_fact own) octets_differ octets_steady (length nets) lines j a)
      → ((i : ℕ) → i < j → Clash message_fact lines i j → c.place ≤ i) → LeastReuse own nets lines j l a
  of_pdu a c other =
      let reuse = reuse_of_pdus own (IsOwn lines) (λ x t. own_found lines x (sym (own_is x.0) ∙ t)) c.first_has.line c.second_has.line c.key c.one c.two c.first_has.fact c.second_has.fact c.differ in
      record {
        before = c.first_has.line;
        at = c.place;
        below = c.below;
        number = c.number;
        found = c.first_has.at;
        are = subst (λ (y : ReportLine). Reuses (IsOwn lines) c.first_has.line y) (second_is c.second_has.line c.second_has.at) (inl reuse);
        least_pdu = λ i lt d. c.least i d.key d.one d.two lt d.first d.second;
        least_message = other;
      }

  of_message : (a : ℕ) → (c : LeastClash same_key same_key-Decides message_fact octets_differ octets_steady (length nets) lines j a)
      → ((i : ℕ) → i < j → Clash (pdu_fact own) lines i j → c.place ≤ i) → LeastReuse own nets lines j l a
  of_message a c other =
      let reuse = reuse_of_messages c.first_has.line c.second_has.line c.key c.one c.two c.first_has.fact c.second_has.fact c.differ in
      record {
        before = c.first_has.line;
        at = c.place;
        below = c.below;
        number = c.number;
        found = c.first_has.at;
        are = subst (λ (y : ReportLine). Reuses (IsOwn lines) c.first_has.line y) (second_is c.second_has.line c.second_has.at) (inr reuse);
        least_pdu = other;
        least_message = λ i lt d. c.least i d.key d.one d.two lt d.first d.second;
      }

  pdu_clash : (a : ℕ) → clash_at (pdu_fact own) (length nets) lines j l ≡ Some a
      → LeastClash same_key same_key-Decides (pdu_fact own) octets_differ octets_steady (length nets) lines j a
  pdu_clash a e = clash_some same_key same_key-Decides (pdu_fact own) octets_differ octets_steady (length nets) lines j l a at_j e

  message_clash : (a : ℕ) → clash_at message_fact (length nets) lines j l ≡ Some a
      → LeastClash same_key same_key-Decides message_fact octets_differ octets_steady (length nets) lines j a
  message_clash a e = clash_some same_key same_key-Decides message_fact octets_differ octets_steady (length nets) lines j l a at_j e

  find : (p m : Option ℕ) (a : ℕ) → clash_at (pdu_fact own) (length nets) lines j l ≡ p → clash_at message_fact (length nets) lines j l ≡ m → least p m ≡ Some a
      → LeastReuse own nets lines j l a
  find None None a e g h = cc
  find (Some x) None a e g h =
      let same : x ≡ a = cc in
      of_pdu a (pdu_clash a (e ∙ ap Some same)) (λ i lt d. absurd (no_clash message_fact clean.messages g i lt d))
  find None (Some y) a e g h =
      let same : y ≡ a = cc in
      of_message a (message_clash a (g ∙ ap Some same)) (λ i lt d. absurd (no_clash (pdu_fact own) clean.pdus e i lt d))
  find (Some x) (Some y) a e g h =
      let one = pdu_clash x e in
      let two = message_clash y g in
      let lesser : min x y ≡ a = cc in
      let n = one.number in
      let k = two.number in
      elim (cases_lt y x) [
        | inl lt ↦
            let same : y ≡ a = omega arith in
            let mine = message_clash a (g ∙ ap Some same) in
            of_message a mine (λ i below d. let le = one.least i d.key d.one d.two below d.first d.second in let q = mine.number in omega arith)
        | inr le ↦
            let same : x ≡ a = omega arith in
            let mine = pdu_clash a (e ∙ ap Some same) in
            of_pdu a mine (λ i below d. let more = two.least i d.key d.one d.two below d.first d.second in let q = mine.number in omega arith)
      ]

  -- what is wrong with the line at place j

  reuse_here : (a b : ℕ) → IsWrong nets lines (V.Reuse a b) → b ≡ length nets + j + 1
      → (i : ℕ) × (i < j) × (a ≡ length nets + i + 1) × (Clash (pdu_fact own) lines i j ⊎ Clash message_fact lines i j)
  reuse_here a b h e =
      let f = h.first_at in
      let s = h.second_at in
      let order = h.order in
      let here : s.0 ≡ j = omega (arith, s.2) in
      let second : slice_get lines j ≡ Some h.second = subst (λ (p : ℕ). slice_get lines p ≡ Some h.second) here s.1 in
      (f.0, omega (arith, f.2), f.2, reuse_clash own nets lines own_is f.0 j h.first h.second f.1 second h.are)

  again_here : (a b : ℕ) → IsWrong nets lines (V.Twice a b) → b ≡ length nets + j + 1 → (i : ℕ) × (i < j) × (a ≡ length nets + i + 1) × Again lines i j
  again_here a b h e =
      let f = h.first_at in
      let s = h.second_at in
      let order = h.order in
      let here : s.0 ≡ j = omega (arith, s.2) in
      let second : slice_get lines j ≡ Some h.second = subst (λ (p : ℕ). slice_get lines p ≡ Some h.second) here s.1 in
      (f.0, omega (arith, f.2), f.2, again_of own nets lines own_is f.0 j h.first h.second f.1 second h.are)

  here_or_later : (w : Verdict) → IsWrong nets lines w → (length nets + j + 1 < (place w).line) ⊎ ((place w).line ≡ length nets + j + 1)
  here_or_later w h =
      let lt = later own nets lines own_is j w clean h in
      elim (cases_lt (length nets + j + 1) (place w).line) [
        | inl more ↦ inl more
        | inr le ↦ inr (omega arith)
      ]

  pub reuse_first : (a : ℕ) → least (clash_at (pdu_fact own) (length nets) lines j l) (clash_at message_fact (length nets) lines j l) ≡ Some a
      → IsVerdictOf nets lines (V.Reuse a (length nets + j + 1))
  reuse_first a e = (wrong, λ w h. up_to w h (here_or_later w h))
    where
      r : LeastReuse own nets lines j l a
      r = find (clash_at (pdu_fact own) (length nets) lines j l) (clash_at message_fact (length nets) lines j l) a refl refl e

      wrong : IsWrong nets lines (V.Reuse a (length nets + j + 1))
      wrong = record {
        first = r.before;
        second = l;
        first_at = (r.at, r.found, r.number);
        second_at = (j, at_j, refl);
        order = let n = r.number in let b = r.below in omega arith;
        are = r.are;
      }

      up_to : (w : Verdict) → IsWrong nets lines w → (length nets + j + 1 < (place w).line) ⊎ ((place w).line ≡ length nets + j + 1)
          → IsUpTo (place (V.Reuse a (length nets + j + 1))) (place w)
      up_to w h (inl lt) = inl lt
      up_to (V.Sound n) h (inr f) = absurd h
      up_to (V.Reuse c d) h (inr f) =
          let k = reuse_here c d h f in
          let n = r.number in
          let q = k.2 in
          elim k.3 [
            | inl x ↦ let le = r.least_pdu k.0 k.1 x in inr (sym f, inr (refl, omega arith))
            | inr x ↦ let le = r.least_message k.0 k.1 x in inr (sym f, inr (refl, omega arith))
          ]
      up_to (V.Twice c d) h (inr f) = inr (sym f, inl (omega arith))
      up_to (V.Bad d) h (inr f) = inr (sym f, inl (omega arith))

  no_reuse_here : clash_at (pdu_fact own) (length nets) lines j l ≡ None → clash_at message_fact (length nets) lines j l ≡ None
      → (c d : ℕ) → IsWrong nets lines (V.Reuse c d) → d ≡ length nets + j + 1 → ⊥
  no_reuse_here p m c d h f =
      let k = reuse_here c d h f in
      elim k.3 [
        | inl x ↦ no_clash (pdu_fact own) clean.pdus p k.0 k.1 x
        | inr x ↦ no_clash message_fact clean.messages m k.0 k.1 x
      ]

  pub twice_first : (a : ℕ) → clash_at (pdu_fact own) (length nets) lines j l ≡ None → clash_at message_fact (length nets) lines j l ≡ None
      → again_at (length nets) lines j l ≡ Some a → IsVerdictOf nets lines (V.Twice a (length nets + j + 1))
  twice_first a p m e = (wrong, λ w h. up_to w h (here_or_later w h))
    where
      c : LeastClash same_key same_key-Decides accepted_fact always always_steady (length nets) lines j a
      c = clash_some same_key same_key-Decides accepted_fact always always_steady (length nets) lines j l a at_j e

      wrong : IsWrong nets lines (V.Twice a (length nets + j + 1))
      wrong =
          let twice = twice_of c.first_has.line c.second_has.line c.key c.one c.two c.first_has.fact c.second_has.fact in
          record {
            first = c.first_has.line;
            second = c.second_has.line;
            first_at = (c.place, c.first_has.at, c.number);
            second_at = (j, c.second_has.at, refl);
            order = let n = c.number in let b = c.below in omega arith;
            are = twice;
          }

      up_to : (w : Verdict) → IsWrong nets lines w → (length nets + j + 1 < (place w).line) ⊎ ((place w).line ≡ length nets + j + 1)
          → IsUpTo (place (V.Twice a (length nets + j + 1))) (place w)
      up_to w h (inl lt) = inl lt
      up_to (V.Sound n) h (inr f) = absurd h
      up_to (V.Reuse x y) h (inr f) = absurd (no_reuse_here p m x y h f)
      up_to (V.Twice x y) h (inr f) =
          let k = again_here x y h f in
          let n = c.number in
          let q = k.2 in
          let d = k.3 in
          let le = c.least k.0 d.key d.one d.two k.1 d.first d.second in
          inr (sym f, inr (refl, omega arith))
      up_to (V.Bad y) h (inr f) = inr (sym f, inl (omega arith))

  pub bad_first : clash_at (pdu_fact own) (length nets) lines j l ≡ None → clash_at message_fact (length nets) lines j l ≡ None
      → again_at (length nets) lines j l ≡ None → IsBadUnder (map material_of nets) l → IsVerdictOf nets lines (V.Bad (length nets + j + 1))
  bad_first p m e bad = (wrong, λ w h. up_to w h (here_or_later w h))
    where
      wrong : IsWrong nets lines (V.Bad (length nets + j + 1))
      wrong = (l, (j, at_j, refl), under_bad nets l bad)

      up_to : (w : Verdict) → IsWrong nets lines w → (length nets + j + 1 < (place w).line) ⊎ ((place w).line ≡ length nets + j + 1)
          → IsUpTo (place (V.Bad (length nets + j + 1))) (place w)
      up_to w h (inl lt) = inl lt
      up_to (V.Sound n) h (inr f) = absurd h
      up_to (V.Reuse x y) h (inr f) = absurd (no_reuse_here p m x y h f)
      up_to (V.Twice x y) h (inr f) = let k = again_here x y h f in absurd (no_again e k.0 k.1 k.3)
      up_to (V.Bad y) h (inr f) = inr (sym f, inr (refl, omega arith))

  pub next_clean : clash_at (pdu_fact own) (length nets) lines j l ≡ None → clash_at message_fact (length nets) lines j l ≡ None
      → again_at (length nets) lines j l ≡ None → (IsBadUnder (map material_of nets) l → ⊥) → Clean own (map material_of nets) lines (j + 1)
  next_clean p m e good = record {
    pdus = clean_more same_key same_key-Decides (pdu_fact own) octets_differ octets_steady lines j clean.pdus
        (λ i q v w lt a b. clash_none same_key same_key-Decides (pdu_fact own) octets_differ octets_steady (length nets) lines j l clean.pdus at_j p i q v w lt a b);
    messages = clean_more same_key same_key-Decides message_fact octets_differ octets_steady lines j clean.messages
        (λ i q v w lt a b. clash_none same_key same_key-Decides message_fact octets_differ octets_steady (length nets) lines j l clean.messages at_j m i q v w lt a b);
    names = clean_more same_key same_key-Decides accepted_fact always always_steady lines j clean.names
        (λ i q v w lt a b. clash_none same_key same_key-Decides accepted_fact always always_steady (length nets) lines j l clean.names at_j e i q v w lt a b);
    good = λ i x lt f bad.
        elim (cases_lt i j) [
          | inl less ↦ clean.good i x less f bad
          | inr top ↦
              let here : i ≡ j = omega arith in
              let line : x ≡ l = second_is x (subst (λ (k : ℕ). slice_get lines k ≡ Some x) here f) in
              good (subst (λ (y : ReportLine). IsBadUnder (map material_of nets) y) line bad)
        ];
  }
