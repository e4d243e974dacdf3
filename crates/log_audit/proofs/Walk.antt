-- The report lines of a text, walked over: first to know that they are lines and what their own sources are, and then to judge them.
use Rattle.std.proofs.Common.{◌≡◌, ℕ, zero, suc, ◌+◌, ◌<◌, ◌≤◌, ◌||◌, Bool, List, [], ◌∷◌, ◌++◌, length, get_or, take, drop, map, Option, Some, None, true, false, refl, sym, ap, subst, ◌∙◌, arith}
use Rattle.std.proofs.lemmas.List.Folds.{list_any-append}
use Rattle.std.specs.List.{list_any, slice_get}
use Rattle.mesh_types.specs.declared.report.ReportLine.{ReportLine}
use Rattle.report_reader.specs.ReportLine.{IsReportLine}
use Rattle.report_reader.proofs.LinesBack.{one_line}
use Rattle.script_definitions.specs.Events.{material_of}
use Rattle.script_definitions.specs.declared.line.ScriptNet.{ScriptNet}
use Rattle.audit_definitions.specs.Input.{AreReportLines, lines_of}
use Rattle.audit_definitions.specs.Verdicts.{IsVerdictOf}
use Rattle.audit_definitions.specs.declared.verdict.Verdict.{Verdict}
use Rattle.audit_definitions.specs.declared.verdict.Verdict.TheVariants as V
use Rattle.log_audit.specs.Facts.{Key, same_key, known_of, pdu_fact, message_fact, accepted_fact, is_own_source}
use Rattle.log_audit.specs.Reading.{IsRead}
use Rattle.log_audit.specs.Uses.{first, or_else, pick}
use Rattle.log_audit.specs.Wrong.{differing, least, wrong_at, IsBadUnder}
use Rattle.log_audit.proofs.Deciding.{Clean, all_sound}
use Rattle.log_audit.proofs.Inputs.{no_line_left, reports_end, reports_step}
use Rattle.log_audit.proofs.Loop.{decide_none, decide_some, map_step, place_get}

-- Sources.

or_none : (b : Bool) → (b || false) ≡ b
or_none true = refl
or_none false = refl

-- these lines of a text are read up to this rest, and their own sources are known
pub record ReadUpTo (own : ℕ → Bool) (text rest : List ℕ) (before number : ℕ) : Type 0 where
  pub lines : List ReportLine
  pub are : AreReportLines (take (length lines) (lines_of text)) lines
  pub behind : lines_of rest ≡ drop (length lines) (lines_of text)
  pub count : number ≡ before + length lines
  pub sources : (a : ℕ) → own a ≡ list_any (is_own_source a) lines

pub read_none : (own : ℕ → Bool) (text : List ℕ) (before : ℕ) → ((a : ℕ) → own a ≡ false) → ReadUpTo own text text before before
read_none own text before none =
    record { lines = []; are = tt; behind = refl; count = omega arith; sources = none }

pub read_more : (own new : ℕ → Bool) (text rest more line : List ℕ) (before number : ℕ) (l : ReportLine) → ReadUpTo own text rest before number
    → lines_of rest ≡ line ∷ lines_of more → IsReportLine line l → ((a : ℕ) → new a ≡ (own a || is_own_source a l))
    → ReadUpTo new text more before (number + 1)
read_more own new text rest more line before number l h cut is noted =
    let step = reports_step text rest more line h.lines (h.lines ++ l ∷ []) l refl cut h.are h.behind is in
    record {
      lines = h.lines ++ l ∷ [];
      are = step.0;
      behind = step.1;
      count = let e = step.2 in let n = h.count in omega (arith, e, n);
      sources = λ a.
          noted a ∙ ap (λ (b : Bool). b || is_own_source a l) (h.sources a)
          ∙ ap (λ (b : Bool). list_any (is_own_source a) h.lines || b) (sym (or_none (is_own_source a l)))
          ∙ sym (list_any-append (is_own_source a) h.lines (l ∷ []));
    }

pub read_whole : (own : ℕ → Bool) (text rest : List ℕ) (before number : ℕ) → length rest ≤ 0 → ReadUpTo own text rest before number
    → (lines : List ReportLine) × IsRead own text lines
read_whole own text rest before number none h =
    (h.lines, record { are = reports_end (lines_of text) h.lines h.are (sym h.behind ∙ no_line_left rest none); sources = h.sources })

-- Judging.

-- the line at the front of those that are left
next_line : (lines : List ReportLine) (j : ℕ) (t : List ℕ) (ts : List (List ℕ)) (l : ReportLine) → AreReportLines (t ∷ ts) (drop j lines) → IsReportLine t l
    → (j < length lines) × (l ≡ get_or lines j l) × AreReportLines ts (drop (suc j) lines)
next_line [] zero t ts l h k = absurd h
next_line [] (suc j) t ts l h k = absurd h
next_line (x ∷ lines) zero t ts l h k = (omega arith, one_line t l x k h.0, h.1)
next_line (x ∷ lines) (suc j) t ts l h k = let more = next_line lines j t ts l h k in (let lt = more.0 in omega arith, more.1, more.2)

-- what is known behind the lines before this place, and nothing is wrong with them
pub record Judged (own : ℕ → Bool) (nets : List ScriptNet) (lines : List ReportLine) (rest : List ℕ) (number : ℕ)
    (pdus messages names : Key → Option (ℕ × List ℕ)) : Type 0 where
  pub place : ℕ
  pub count : number ≡ length nets + place
  pub within : place ≤ length lines
  pub left : AreReportLines (lines_of rest) (drop place lines)
  pub pdus_are : (q : Key) → pdus q ≡ first same_key (pdu_fact own) (length nets) q (take place lines)
  pub messages_are : (q : Key) → messages q ≡ first same_key message_fact (length nets) q (take place lines)
  pub names_are : (q : Key) → names q ≡ first same_key accepted_fact (length nets) q (take place lines)
  pub clean : Clean own (map material_of nets) lines place

-- before the first line
pub judged_none : (own : ℕ → Bool) (nets : List ScriptNet) (lines : List ReportLine) (report : List ℕ) (number : ℕ) (pdus messages names : Key → Option (ℕ × List ℕ))
    → number ≡ length nets → IsRead own report lines
    → ((q : Key) → pdus q ≡ None) → ((q : Key) → messages q ≡ None) → ((q : Key) → names q ≡ None)
    → Judged own nets lines report number pdus messages names
judged_none own nets lines report number pdus messages names count read one two three = record {
  place = 0;
  count = omega (arith, count);
  within = omega arith;
  left = read.are;
  pdus_are = one;
  messages_are = two;
  names_are = three;
  clean = record {
    pdus = record { clean = λ i m q v w lt below a b. absurd (omega arith) };
    messages = record { clean = λ i m q v w lt below a b. absurd (omega arith) };
    names = record { clean = λ i m q v w lt below a b. absurd (omega arith) };
    good = λ i l lt e bad. absurd (omega arith);
  };
}

-- A line more was read, and what is known of it is this.
module _ (own : ℕ → Bool) (nets : List ScriptNet) (lines : List ReportLine) (report rest more text : List ℕ) (number : ℕ) (l : ReportLine)
    (pdus messages names : Key → Option (ℕ × List ℕ)) (read : IsRead own report lines) (h : Judged own nets lines rest number pdus messages names)
    (cut : lines_of rest ≡ text ∷ lines_of more) (is : IsReportLine text l)
    (r : Option ℕ) (n : Option (ℕ × Bool)) (bad : Bool)
    (reuse : r ≡ least (differing (known_of pdus (pdu_fact own l))) (differing (known_of messages (message_fact l))))
    (name : n ≡ known_of names (accepted_fact l)) where
  next : (h.place < length lines) × (l ≡ get_or lines h.place l) × AreReportLines (lines_of more) (drop (suc h.place) lines)
  next = next_line lines h.place text (lines_of more) l (subst (λ (ts : List (List ℕ)). AreReportLines ts (drop h.place lines)) cut h.left) is

  at : slice_get lines h.place ≡ Some l
  at = place_get lines h.place l next.0 next.1

  number_is : length nets + h.place + 1 ≡ number + 1
  number_is = let e = h.count in omega (arith, e)

  -- something is wrong with it
  pub judged_wrong : (v : Verdict) → (bad ≡ true → IsBadUnder (map material_of nets) l) → wrong_at r n bad (number + 1) ≡ Some v → IsVerdictOf nets lines v
  judged_wrong v is_bad wrong =
      decide_some own nets lines read.sources h.place l at h.clean pdus messages names h.pdus_are h.messages_are h.names_are r n bad v reuse name is_bad
      (ap (wrong_at r n bad) number_is ∙ wrong)

  -- nothing is
  pub judged_more : (new_pdus new_messages new_names : Key → Option (ℕ × List ℕ)) → (bad ≡ false → IsBadUnder (map material_of nets) l → ⊥)
      → wrong_at r n bad (number + 1) ≡ None
      → ((q : Key) → new_pdus q ≡ or_else (pdus q) (pick same_key (pdu_fact own l) q (number + 1) None))
      → ((q : Key) → new_messages q ≡ or_else (messages q) (pick same_key (message_fact l) q (number + 1) None))
      → ((q : Key) → new_names q ≡ or_else (names q) (pick same_key (accepted_fact l) q (number + 1) None))
      → Judged own nets lines more (number + 1) new_pdus new_messages new_names
  judged_more new_pdus new_messages new_names is_good wrong one two three =
      let count : number + 1 ≡ length nets + h.place + 1 = sym number_is in
      record {
        place = h.place + 1;
        count = omega (arith, count);
        within = let lt = next.0 in omega arith;
        left = let e : suc h.place ≡ h.place + 1 = omega arith in subst (λ (i : ℕ). AreReportLines (lines_of more) (drop i lines)) e next.2;
        pdus_are = map_step (pdu_fact own) (length nets) lines h.place l pdus new_pdus (number + 1) next.0 next.1 count h.pdus_are one;
        messages_are = map_step message_fact (length nets) lines h.place l messages new_messages (number + 1) next.0 next.1 count h.messages_are two;
        names_are = map_step accepted_fact (length nets) lines h.place l names new_names (number + 1) next.0 next.1 count h.names_are three;
        clean = decide_none own nets lines read.sources h.place l at h.clean pdus messages names h.pdus_are h.messages_are h.names_are r n bad reuse name is_good
            (ap (wrong_at r n bad) number_is ∙ wrong);
      }

-- behind the last line
pub judged_whole : (own : ℕ → Bool) (nets : List ScriptNet) (lines : List ReportLine) (report rest : List ℕ) (number : ℕ) (pdus messages names : Key → Option (ℕ × List ℕ))
    → IsRead own report lines → Judged own nets lines rest number pdus messages names → length rest ≤ 0 → IsVerdictOf nets lines (V.Sound number)
judged_whole own nets lines report rest number pdus messages names read h none =
    let left : AreReportLines [] (drop h.place lines) = subst (λ (ts : List (List ℕ)). AreReportLines ts (drop h.place lines)) (no_line_left rest none) h.left in
    let end : h.place ≡ length lines = let within = h.within in let past = all_past lines h.place left in omega arith in
    let sound = all_sound own nets lines read.sources (subst (λ (j : ℕ). Clean own (map material_of nets) lines j) end h.clean) in
    (let e = h.count in omega (arith, e, end), sound.1)
  where
    all_past : (ls : List ReportLine) (j : ℕ) → AreReportLines [] (drop j ls) → length ls ≤ j
    all_past [] j k = omega arith
    all_past (x ∷ ls) zero k = absurd k
    all_past (x ∷ ls) (suc j) k = let more = all_past ls j k in omega arith
