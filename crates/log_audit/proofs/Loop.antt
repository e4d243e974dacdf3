-- One line of the loop that looks for the verdict.
use Rattle.std.proofs.Common.{◌≡◌, ℕ, zero, suc, ◌+◌, ◌<◌, Bool, true, false, List, [], ◌∷◌, ◌++◌, length, get_or, take, map, Option, Some, None, refl, sym, ap, subst, ◌∙◌, arith}
use Rattle.std.specs.Bool.{OnTrue, OnFalse}
use Rattle.std.specs.List.{slice_get, list_any}
use Rattle.std.proofs.lemmas.List.{take_more}
use Rattle.mesh_types.specs.declared.report.ReportLine.{ReportLine}
use Rattle.script_definitions.specs.Events.{material_of}
use Rattle.script_definitions.specs.declared.line.ScriptNet.{ScriptNet}
use Rattle.audit_definitions.specs.Verdicts.{IsVerdictOf}
use Rattle.audit_definitions.specs.declared.verdict.Verdict.{Verdict}
use Rattle.audit_definitions.specs.declared.verdict.Verdict.TheVariants as V
use Rattle.log_audit.specs.Facts.{Key, same_key, known_of, pdu_fact, message_fact, accepted_fact, is_own_source}
use Rattle.log_audit.specs.Uses.{first, pick, or_else, clash_of}
use Rattle.log_audit.specs.Wrong.{differing, least, wrong_at, IsBadUnder}
use Rattle.log_audit.proofs.Assembly.{always, differs_as, known_as, line_of_known}
use Rattle.log_audit.proofs.Deciding.{Clean}
use Rattle.log_audit.proofs.Finding.{clash_at, again_at, reuse_first, twice_first, bad_first, next_clean}
use Rattle.log_audit.proofs.Firsts.{first_push}
use Rattle.log_audit.proofs.KeyOrder.{same_key-Decides}
use Rattle.log_audit.proofs.Meanings.{octets_differ}

-- the line at a place
pub place_get : (ls : List ReportLine) (i : ℕ) (l : ReportLine) → i < length ls → l ≡ get_or ls i l → slice_get ls i ≡ Some l
place_get [] i l lt e = absurd (omega arith)
place_get (x ∷ ls) zero l lt e = ap Some (sym e)
place_get (x ∷ ls) (suc i) l lt e = place_get ls i l (omega arith) e

length_front : (ls : List ReportLine) (j : ℕ) → j < length ls → length (take j ls) ≡ j
length_front [] j lt = absurd (omega arith)
length_front (x ∷ ls) zero lt = refl
length_front (x ∷ ls) (suc j) lt = let more = length_front ls j (omega arith) in omega (arith, more)

-- a map of the first uses, with one line more
pub map_step : (f : ReportLine → Option (Key × List ℕ)) (n : ℕ) (ls : List ReportLine) (j : ℕ) (l : ReportLine) (g h : Key → Option (ℕ × List ℕ)) (number : ℕ)
    → j < length ls → l ≡ get_or ls j l → number ≡ n + j + 1
    → ((q : Key) → g q ≡ first same_key f n q (take j ls)) → ((q : Key) → h q ≡ or_else (g q) (pick same_key (f l) q number None))
    → (q : Key) → h q ≡ first same_key f n q (take (j + 1) ls)
map_step f n ls j l g h number lt at count old new q =
    let front : take (j + 1) ls ≡ take j ls ++ l ∷ [] = take_more ls j l lt ∙ ap (λ (x : ReportLine). take j ls ++ x ∷ []) (sym at) in
    let place : n + length (take j ls) + 1 ≡ number = let long = length_front ls j lt in omega (arith, long, count) in
    new q ∙ ap (λ (o : Option (ℕ × List ℕ)). or_else o (pick same_key (f l) q number None)) (old q)
    ∙ sym (ap (λ (xs : List ReportLine). first same_key f n q xs) front ∙ first_push same_key same_key-Decides f n q (take j ls) l
    ∙ ap (λ (k : ℕ). or_else (first same_key f n q (take j ls)) (pick same_key (f l) q k None)) place)

-- what clashes, by functions that agree
clash_by : (d : List ℕ → List ℕ → Bool) (g h : Key → Option (ℕ × List ℕ)) (fact : Option (Key × List ℕ)) → ((q : Key) → g q ≡ h q) → clash_of d g fact ≡ clash_of d h fact
clash_by d g h None e = refl
clash_by d g h (Some x) e = rw (e x.0) refl

none_least : (p m : Option ℕ) → least p m ≡ None → (p ≡ None) × (m ≡ None)
none_least None None e = (refl, refl)
none_least None (Some y) e = cc
none_least (Some x) None e = cc
none_least (Some x) (Some y) e = cc

module _ (own : ℕ → Bool) (nets : List ScriptNet) (lines : List ReportLine) (own_is : (a : ℕ) → own a ≡ list_any (is_own_source a) lines)
    (j : ℕ) (l : ReportLine) (at_j : slice_get lines j ≡ Some l) (clean : Clean own (map material_of nets) lines j)
    (pdus messages names : Key → Option (ℕ × List ℕ))
    (pdus_are : (q : Key) → pdus q ≡ first same_key (pdu_fact own) (length nets) q (take j lines))
    (messages_are : (q : Key) → messages q ≡ first same_key message_fact (length nets) q (take j lines))
    (names_are : (q : Key) → names q ≡ first same_key accepted_fact (length nets) q (take j lines)) where
  reuse_is : least (differing (known_of pdus (pdu_fact own l))) (differing (known_of messages (message_fact l)))
      ≡ least (clash_at (pdu_fact own) (length nets) lines j l) (clash_at message_fact (length nets) lines j l)
  reuse_is =
      let one = differs_as pdus (pdu_fact own l) ∙ clash_by octets_differ pdus (λ q. first same_key (pdu_fact own) (length nets) q (take j lines)) (pdu_fact own l) pdus_are in
      let two = differs_as messages (message_fact l) ∙ clash_by octets_differ messages (λ q. first same_key message_fact (length nets) q (take j lines)) (message_fact l) messages_are in
      rw (one, two) refl

  name_is : line_of_known (known_of names (accepted_fact l)) ≡ again_at (length nets) lines j l
  name_is = known_as names (accepted_fact l) ∙ clash_by always names (λ q. first same_key accepted_fact (length nets) q (take j lines)) (accepted_fact l) names_are

  pub decide_some : (r : Option ℕ) (n : Option (ℕ × Bool)) (bad : Bool) (v : Verdict)
      → r ≡ least (differing (known_of pdus (pdu_fact own l))) (differing (known_of messages (message_fact l))) → n ≡ known_of names (accepted_fact l)
      → (bad ≡ true → IsBadUnder (map material_of nets) l) → wrong_at r n bad (length nets + j + 1) ≡ Some v → IsVerdictOf nets lines v
  decide_some (Some a) n bad v e g h is =
      let same : V.Reuse a (length nets + j + 1) ≡ v = cc in
      subst (λ (w : Verdict). IsVerdictOf nets lines w) same (reuse_first own nets lines own_is j l at_j clean a (sym reuse_is ∙ sym e))
  decide_some None (Some u) bad v e g h is =
      let none : (clash_at (pdu_fact own) (length nets) lines j l ≡ None) × (clash_at message_fact (length nets) lines j l ≡ None) = none_least _ _ (sym reuse_is ∙ sym e) in
      let same : V.Twice u.0 (length nets + j + 1) ≡ v = cc in
      subst (λ (w : Verdict). IsVerdictOf nets lines w) same (twice_first own nets lines own_is j l at_j clean u.0 none.0 none.1 (sym name_is ∙ ap line_of_known (sym g)))
  decide_some None None true v e g h is =
      let none : (clash_at (pdu_fact own) (length nets) lines j l ≡ None) × (clash_at message_fact (length nets) lines j l ≡ None) = none_least _ _ (sym reuse_is ∙ sym e) in
      let same : V.Bad (length nets + j + 1) ≡ v = cc in
      subst (λ (w : Verdict). IsVerdictOf nets lines w) same (bad_first own nets lines own_is j l at_j clean none.0 none.1 (sym name_is ∙ ap line_of_known (sym g)) (h refl))
  decide_some None None false v e g h is = cc

  pub decide_none : (r : Option ℕ) (n : Option (ℕ × Bool)) (bad : Bool)
      → r ≡ least (differing (known_of pdus (pdu_fact own l))) (differing (known_of messages (message_fact l))) → n ≡ known_of names (accepted_fact l)
      → (bad ≡ false → IsBadUnder (map material_of nets) l → ⊥) → wrong_at r n bad (length nets + j + 1) ≡ None → Clean own (map material_of nets) lines (j + 1)
  decide_none (Some a) n bad e g h is = cc
  decide_none None (Some u) bad e g h is = cc
  decide_none None None true e g h is = cc
  decide_none None None false e g h is =
      let none : (clash_at (pdu_fact own) (length nets) lines j l ≡ None) × (clash_at message_fact (length nets) lines j l ≡ None) = none_least _ _ (sym reuse_is ∙ sym e) in
      next_clean own nets lines own_is j l at_j clean none.0 none.1 (sym name_is ∙ ap line_of_known (sym g)) (h refl)

-- what is said where a test holds, and where it doesn't
pub on_true : (b : Bool) (P : Type 0) → OnTrue b P → b ≡ true → P
on_true true P h e = h
on_true false P h e = cc

pub on_false : (b : Bool) (P : Type 0) → OnFalse b P → b ≡ false → P
on_false true P h e = cc
on_false false P h e = h
