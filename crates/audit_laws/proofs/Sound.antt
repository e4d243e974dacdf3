-- What is read from the report of a run is neither a nonce used twice nor a message accepted twice.
use Rattle.std.proofs.Common.{◌≡◌, ◌≢◌, ℕ, zero, suc, ◌+◌, ◌^◌, ◌<◌, inl, inr, true, false, List, [], ◌∷◌, map, length, Option, Some, None, refl, sym, ap, subst, ◌∙◌, arith}
use Rattle.std.specs.Prelude.{slice_get}
use Rattle.std.specs.List.{AllByRecursion as Every, filter_map}
use Rattle.std.specs.Option.{option_map}
use Rattle.std.proofs.lemmas.List.Elements.{All-contains, All-from_recursion}
use Rattle.audit_definitions.specs.Input.{AreReportLines}
use Rattle.audit_definitions.specs.Seals.{Message, Sealed, accepted, message, own_source, sealed, sealed_by, message_by, IsOwn}
use Rattle.audit_definitions.specs.Verdicts.{Accepts, IsVerdictOf, IsWrong, Reuses, ReusesNetworkNonce, ReusesUpperNonce}
use Rattle.audit_definitions.specs.declared.verdict.Verdict.{Verdict}
use Rattle.audit_definitions.specs.declared.verdict.Verdict.TheVariants as V
use Rattle.layer_laws.proofs.Lists.{Inside, every_chosen}
use Rattle.mesh_base.specs.declared.address.Address.{Address}
use Rattle.mesh_base.specs.declared.pair.Name.{Name}
use Rattle.mesh_base.specs.declared.pair.Pair.{Pair}
use Rattle.mesh_types.specs.declared.answers.Answer.{Answer}
use Rattle.mesh_types.specs.declared.answers.Answer.TheVariants as A
use Rattle.mesh_types.specs.declared.lines.Outcome.{Outcome}
use Rattle.mesh_types.specs.declared.lines.Outcome.TheVariants as O
use Rattle.mesh_types.specs.declared.report.ReportLine.{ReportLine}
use Rattle.mesh_types.specs.declared.report.ReportLine.TheVariants as L
use Rattle.report_definitions.specs.Report.{line_text, lives_lines}
use Rattle.report_definitions.specs.Text.{hex_digits}
use Rattle.report_reader.proofs.Back.{number_back}
use Rattle.event_definitions.proofs.Accepting.{some_is}
use Rattle.run_definitions.specs.Uses.{node_of}
use Rattle.run_safety.proofs.Lists.{Apart}
use Rattle.run_safety.proofs.Nonces.{Wide}
use Rattle.run_safety.proofs.Walking.{Tag, network_tag, tags_of, upper_tag}
use Rattle.script_definitions.specs.Digits.{number_word}
use Rattle.script_definitions.specs.declared.line.ScriptNet.{ScriptNet}
use Rattle.store_definitions.specs.Config.{Config, is_element}
use Rattle.store_definitions.specs.Ranges.{IsNameInRange}
use Rattle.audit_laws.specs.Laws.{AreReportsSafeOf, AreVerdictsSafeOf, ReportsAreSafe, TellsNothingTwice, VerdictsAreSafe}
use Rattle.audit_laws.proofs.OwnedRoles.{Owned, node_owned}
use Rattle.event_definitions.specs.Role.{Role, node_role}
use Rattle.audit_laws.proofs.Lines.{read_report}
use Rattle.audit_laws.proofs.Parts.{every_at}
use Rattle.audit_laws.proofs.ReportLines.{IsHomeSource, LineFits, OutcomeFits, line_tags}
use Rattle.audit_laws.proofs.Runs.{AcceptApart, SafeLines, SealApart, kind_lines}
use Rattle.audit_laws.proofs.Words.{NameDigits, Said, name_digits, said_of, same_told, source_digits}

-- Numbers by their digits.

same_number : (k a b : ℕ) → a < 16 ^ k → b < 16 ^ k → hex_digits k a ≡ hex_digits k b → a ≡ b
same_number k a b h l e = let same : Some a ≡ Some b = sym (number_back k a h) ∙ ap (number_word k) e ∙ number_back k b l in cc

same_source : (a b : Address) → a.0 < 2 ^ 16 → b.0 < 2 ^ 16 → source_digits a ≡ source_digits b → a ≡ b
same_source a b h l e = let same : a.0 ≡ b.0 = same_number 4 a.0 b.0 h l e in λ i. record { 0 = same i }

same_pair : (p q : Pair) → Wide p → Wide q → hex_digits 8 p.iv ≡ hex_digits 8 q.iv → hex_digits 6 p.seq ≡ hex_digits 6 q.seq → p ≡ q
same_pair p q h l e f =
    let iv : p.iv ≡ q.iv = same_number 8 p.iv q.iv h.iv l.iv e in
    let seq : p.seq ≡ q.seq = same_number 6 p.seq q.seq h.seq l.seq f in
    λ i. record { iv = iv i; seq = seq i }

same_name : (m n : Name) → IsNameInRange m → IsNameInRange n → name_digits m ≡ name_digits n → m ≡ n
same_name m n h l e =
    let src : m.src ≡ n.src = same_source m.src n.src h.src l.src (ap (λ (d : NameDigits). d.src) e) in
    let pair : m.pair ≡ n.pair = same_pair m.pair n.pair (record { seq = h.seq; iv = h.iv }) (record { seq = l.seq; iv = l.iv }) (ap (λ (d : NameDigits). d.iv) e) (ap (λ (d : NameDigits). d.seq) e) in
    λ i. record { src = src i; pair = pair i }

-- what is the same in digits
record Likewise {A B : Type 0} (f : A → B) (x : A) (p : Option A) : Type 0 where
  is : A
  some : p ≡ Some is
  alike : f x ≡ f is

likewise : {A B : Type 0} (f : A → B) (x : A) (o p : Option A) → o ≡ Some x → option_map f o ≡ option_map f p → Likewise f x p
likewise f x o None e h = let none : Some (f x) ≡ None = ap (option_map f) (sym e) ∙ h in cc
likewise f x o (Some y) e h = let some : Some (f x) ≡ Some (f y) = ap (option_map f) (sym e) ∙ h in let same : f x ≡ f y = cc in record { is = y; some = refl; alike = same }

-- Lines that were read, and the report lines of the run that they are read from.

record ReadAt (written : List ReportLine) (i : ℕ) (l : ReportLine) : Type 0 where
  line : ReportLine
  at : slice_get written i ≡ Some line
  told : said_of l ≡ said_of line

read_at : (written lines : List ReportLine) (i : ℕ) (l : ReportLine) → AreReportLines (map line_text written) lines → slice_get lines i ≡ Some l → ReadAt written i l
read_at [] [] i l h e = absurd cc
read_at [] (y ∷ ys) i l h e = absurd h
read_at (x ∷ xs) [] i l h e = absurd h
read_at (x ∷ xs) (y ∷ ys) zero l h e =
    let same : y ≡ l = cc in
    record { line = x; at = refl; told = subst (λ z. said_of z ≡ said_of x) same (same_told y x h.0.text) }
read_at (x ∷ xs) (y ∷ ys) (suc i) l h e = let rest = read_at xs ys i l h.1 e in record { line = rest.line; at = rest.at; told = rest.told }

-- an own source that was read
record IsHomeRead (own : Config) (a : Address) : Type 0 where
  home : Address
  fits : IsHomeSource own home
  alike : source_digits a ≡ source_digits home

source_home : (own : Config) (x : ReportLine) → LineFits own x → (a : Address) → own_source x ≡ Some a → IsHomeSource own a
source_home own (L.Sent bearer entry job outcome hex) h a e = by_outcome outcome h e
  where
    by_outcome : (o : Outcome) → OutcomeFits own o → own_source (L.Sent bearer entry job o hex) ≡ Some a → IsHomeSource own a
    by_outcome (O.Ctl pair ttl src dst tpdu pdu) h e = let same : src ≡ a = cc in subst (IsHomeSource own) same h
    by_outcome (O.Msg pair ttl src dst key payload pdu) h e = let same : src ≡ a = cc in subst (IsHomeSource own) same h
    by_outcome (O.Long pair ttl src dst key payload) h e = let same : src ≡ a = cc in subst (IsHomeSource own) same h
    by_outcome (O.Seg pair ttl src dst seg_o seg_n auth pdu) h e = let same : src ≡ a = cc in subst (IsHomeSource own) same h
    by_outcome (O.Relay pair ctl ttl src dst tpdu pdu) h e = absurd cc
    by_outcome (O.Rep name pdu) h e = absurd cc
    by_outcome (O.Bcn octets) h e = absurd cc
    by_outcome (O.Spent iv) h e = absurd cc
    by_outcome (O.Late pair) h e = absurd cc
source_home own _ h a e = absurd cc

source_read : (own : Config) (x y : ReportLine) → LineFits own x → said_of y ≡ said_of x → Inside (IsHomeRead own) (own_source y)
source_read own x y h t = by_source (own_source y) refl
  where
    by_source : (o : Option Address) → own_source y ≡ o → Inside (IsHomeRead own) o
    by_source None e = tt
    by_source (Some a) e =
        let k = likewise source_digits a (own_source y) (own_source x) e (ap (λ (s : Said). s.own) t) in
        record { home = k.is; fits = source_home own x h k.is k.some; alike = k.alike }

homes_read : (own : Config) (written lines : List ReportLine) → AreReportLines (map line_text written) lines → Every (LineFits own) written → Every (λ l. Inside (IsHomeRead own) (own_source l)) lines
homes_read own [] [] h k = tt
homes_read own [] (y ∷ ys) h k = absurd h
homes_read own (x ∷ xs) [] h k = absurd h
homes_read own (x ∷ xs) (y ∷ ys) h k = (source_read own x y k.0 (same_told y x h.0.text), homes_read own xs ys h.1 k.1)

-- each two at their places
apart_at : {A : Type 0} (R : A → A → Type 0) (xs : List A) (i j : ℕ) (x y : A) → Apart R xs → i < j → slice_get xs i ≡ Some x → slice_get xs j ≡ Some y → R x y
apart_at R [] i j x y h l e f = absurd cc
apart_at R (z ∷ zs) zero zero x y h l e f = absurd (omega arith)
apart_at R (z ∷ zs) (suc i) zero x y h l e f = absurd (omega arith)
apart_at R (z ∷ zs) zero (suc j) x y h l e f = let same : z ≡ x = cc in subst (λ a. R a y) same (every_at (R z) zs j y h.0 f)
apart_at R (z ∷ zs) (suc i) (suc j) x y h l e f = apart_at R zs i j x y h.1 (omega arith) e f

-- What a line seals with.

data Among (t : Tag) : List Tag → Type 0 where
  here : {ts : List Tag} → Among t (t ∷ ts)
  behind : {s : Tag} {ts : List Tag} → Among t ts → Among t (s ∷ ts)

among : (P : Tag → Type 0) (t : Tag) (ts : List Tag) → Among t ts → Every P ts → P t
among P t _ here h = h.0
among P t _ (behind k) h = among P t _ k h.1

-- a network PDU of an element, and a message
own_seal : (own : Config) (x : ReportLine) (s : Sealed) → LineFits own x → sealed x ≡ Some s → is_element own s.name.src.0 ≡ true → Among (network_tag s.name.pair) (line_tags x)
own_seal own (L.Sent bearer entry job outcome hex) s h e k = by_outcome outcome h e
  where
    by_outcome : (o : Outcome) → OutcomeFits own o → sealed_by o ≡ Some s → Among (network_tag s.name.pair) (tags_of o)
    by_outcome (O.Ctl pair ttl src dst tpdu pdu) h e = let same : pair ≡ s.name.pair = ap (λ (z : Sealed). z.name.pair) (some_is e) in subst (λ p. Among (network_tag p) (network_tag pair ∷ [])) same here
    by_outcome (O.Msg pair ttl src dst key payload pdu) h e = let same : pair ≡ s.name.pair = ap (λ (z : Sealed). z.name.pair) (some_is e) in subst (λ p. Among (network_tag p) (upper_tag pair ∷ network_tag pair ∷ [])) same (behind here)
    by_outcome (O.Seg pair ttl src dst seg_o seg_n auth pdu) h e = let same : pair ≡ s.name.pair = ap (λ (z : Sealed). z.name.pair) (some_is e) in subst (λ p. Among (network_tag p) (network_tag pair ∷ [])) same here
    by_outcome (O.Relay pair ctl ttl src dst tpdu pdu) h e = let same : src ≡ s.name.src = ap (λ (z : Sealed). z.name.src) (some_is e) in let foreign : is_element own s.name.src.0 ≡ false = subst (λ a. is_element own a.0 ≡ false) same h.0 in cc
    by_outcome (O.Long pair ttl src dst key payload) h e = absurd cc
    by_outcome (O.Rep name pdu) h e = absurd cc
    by_outcome (O.Bcn octets) h e = absurd cc
    by_outcome (O.Spent iv) h e = absurd cc
    by_outcome (O.Late pair) h e = absurd cc
own_seal own _ s h e k = absurd cc

upper_seal : (x : ReportLine) (m : Message) → message x ≡ Some m → Among (upper_tag m.name.pair) (line_tags x)
upper_seal (L.Sent bearer entry job outcome hex) m e = by_outcome outcome e
  where
    by_outcome : (o : Outcome) → message_by o ≡ Some m → Among (upper_tag m.name.pair) (tags_of o)
    by_outcome (O.Msg pair ttl src dst key payload pdu) e = let same : pair ≡ m.name.pair = ap (λ (z : Message). z.name.pair) (some_is e) in subst (λ p. Among (upper_tag p) (upper_tag pair ∷ network_tag pair ∷ [])) same here
    by_outcome (O.Long pair ttl src dst key payload) e = let same : pair ≡ m.name.pair = ap (λ (z : Message). z.name.pair) (some_is e) in subst (λ p. Among (upper_tag p) (upper_tag pair ∷ [])) same here
    by_outcome _ e = absurd cc
upper_seal _ m e = absurd cc

-- the source of a PDU is within its width
sealed_wide : (own : Config) (x : ReportLine) (s : Sealed) → LineFits own x → sealed x ≡ Some s → s.name.src.0 < 2 ^ 16
sealed_wide own (L.Sent bearer entry job outcome hex) s h e = by_outcome outcome h e
  where
    by_outcome : (o : Outcome) → OutcomeFits own o → sealed_by o ≡ Some s → s.name.src.0 < 2 ^ 16
    by_outcome (O.Ctl pair ttl src dst tpdu pdu) h e = let same : src ≡ s.name.src = ap (λ (z : Sealed). z.name.src) (some_is e) in subst (λ a. a.0 < 2 ^ 16) same h.1
    by_outcome (O.Msg pair ttl src dst key payload pdu) h e = let same : src ≡ s.name.src = ap (λ (z : Sealed). z.name.src) (some_is e) in subst (λ a. a.0 < 2 ^ 16) same h.1
    by_outcome (O.Seg pair ttl src dst seg_o seg_n auth pdu) h e = let same : src ≡ s.name.src = ap (λ (z : Sealed). z.name.src) (some_is e) in subst (λ a. a.0 < 2 ^ 16) same h.1
    by_outcome (O.Relay pair ctl ttl src dst tpdu pdu) h e = let same : src ≡ s.name.src = ap (λ (z : Sealed). z.name.src) (some_is e) in subst (λ a. a.0 < 2 ^ 16) same h.1
    by_outcome (O.Long pair ttl src dst key payload) h e = absurd cc
    by_outcome (O.Rep name pdu) h e = absurd cc
    by_outcome (O.Bcn octets) h e = absurd cc
    by_outcome (O.Spent iv) h e = absurd cc
    by_outcome (O.Late pair) h e = absurd cc
sealed_wide own _ s h e = absurd cc

accepted_wide : (own : Config) (x : ReportLine) (n : Name) → LineFits own x → accepted x ≡ Some n → IsNameInRange n
accepted_wide own (L.Entry at bearer number kind answer) n h e = by_answer answer h e
  where
    by_answer : (a : Answer) → LineFits own (L.Entry at bearer number kind a) → accepted (L.Entry at bearer number kind a) ≡ Some n → IsNameInRange n
    by_answer (A.Delivered name dst key payload) h e = let same : name ≡ n = cc in subst IsNameInRange same h
    by_answer (A.Control name dst opcode params) h e = let same : name ≡ n = cc in subst IsNameInRange same h
    by_answer _ h e = absurd cc
accepted_wide own _ n h e = absurd cc

-- Two lines of a report.

in_order : (keys a b i j : ℕ) → a < b → a ≡ keys + i + 1 → b ≡ keys + j + 1 → i < j
in_order keys a b i j h e f = omega arith

module _ (own : Config) (written lines : List ReportLine) (safe : SafeLines own written) (are : AreReportLines (map line_text written) lines) where
  own_is_home : (a : Address) → IsOwn lines a → IsHomeRead own a
  own_is_home a h =
      let each : Every (IsHomeRead own) (filter_map own_source lines) =
      every_chosen (λ l. Inside (IsHomeRead own) (own_source l)) (IsHomeRead own) own_source (λ l k. k) lines (homes_read own written lines are safe.fits) in
      All-contains (IsHomeRead own) (filter_map own_source lines) a (All-from_recursion (IsHomeRead own) (filter_map own_source lines) each) h

  -- no two seal with one tag
  seals_once : (i j : ℕ) (x y : ReportLine) (s t : Tag) → i < j → slice_get written i ≡ Some x → slice_get written j ≡ Some y → Among s (line_tags x) → Among t (line_tags y) → s ≢ t
  seals_once i j x y s t l e f a b =
      let apart : SealApart x y = apart_at SealApart written i j x y safe.seals l e f in
      among (λ u. s ≢ u) t (line_tags y) b (among (λ u. Every (λ v. u ≢ v) (line_tags y)) s (line_tags x) a apart)

  wide_at : (i : ℕ) (x : ReportLine) (s : Tag) → slice_get written i ≡ Some x → Among s (line_tags x) → Wide s.pair
  wide_at i x s e a = among (λ (u : Tag). Wide u.pair) s (line_tags x) a (every_at (λ z. Every (λ (u : Tag). Wide u.pair) (line_tags z)) written i x safe.wide e)

  -- a PDU read whose source is an own one is sealed by an element
  record OwnSeal (i : ℕ) (s : Sealed) : Type 0 where
    line : ReportLine
    at : slice_get written i ≡ Some line
    pair : Pair
    tagged : Among (network_tag pair) (line_tags line)
    alike_iv : hex_digits 8 s.name.pair.iv ≡ hex_digits 8 pair.iv
    alike_seq : hex_digits 6 s.name.pair.seq ≡ hex_digits 6 pair.seq

  own_seal_at : (i : ℕ) (l : ReportLine) (s : Sealed) → slice_get lines i ≡ Some l → sealed l ≡ Some s → IsHomeRead own s.name.src → OwnSeal i s
  own_seal_at i l s e f home =
      let read = read_at written lines i l are e in
      let fits : LineFits own read.line = every_at (LineFits own) written i read.line safe.fits read.at in
      let k = likewise (λ (z : Sealed). name_digits z.name) s (sealed l) (sealed read.line) f (ap (λ (z : Said). z.sealed) read.told) in
      let digits : source_digits home.home ≡ source_digits k.is.name.src = sym home.alike ∙ ap (λ (d : NameDigits). d.src) k.alike in
      let same : home.home ≡ k.is.name.src = same_source home.home k.is.name.src home.fits.1 (sealed_wide own read.line k.is fits k.some) digits in
      let element : is_element own k.is.name.src.0 ≡ true = subst (λ (a : Address). is_element own a.0 ≡ true) same home.fits.0 in
      record {
        line = read.line;
        at = read.at;
        pair = k.is.name.pair;
        tagged = own_seal own read.line k.is fits k.some element;
        alike_iv = ap (λ (d : NameDigits). d.iv) k.alike;
        alike_seq = ap (λ (d : NameDigits). d.seq) k.alike;
      }

  no_network_reuse : (i j : ℕ) (l m : ReportLine) → i < j → slice_get lines i ≡ Some l → slice_get lines j ≡ Some m → ReusesNetworkNonce (IsOwn lines) l m → ⊥
  no_network_reuse i j l m lt e f r =
      let home : IsHomeRead own r.one.name.src = own_is_home r.one.name.src r.own in
      let one : OwnSeal i r.one = own_seal_at i l r.one e r.first home in
      let two : OwnSeal j r.two = own_seal_at j m r.two f r.second (subst (λ (n : Name). IsHomeRead own n.src) r.name home) in
      let iv : hex_digits 8 one.pair.iv ≡ hex_digits 8 two.pair.iv = sym one.alike_iv ∙ ap (λ (n : Name). hex_digits 8 n.pair.iv) r.name ∙ two.alike_iv in
      let seq : hex_digits 6 one.pair.seq ≡ hex_digits 6 two.pair.seq = sym one.alike_seq ∙ ap (λ (n : Name). hex_digits 6 n.pair.seq) r.name ∙ two.alike_seq in
      let pair : one.pair ≡ two.pair = same_pair one.pair two.pair (wide_at i one.line (network_tag one.pair) one.at one.tagged) (wide_at j two.line (network_tag two.pair) two.at two.tagged) iv seq in
      seals_once i j one.line two.line (network_tag one.pair) (network_tag two.pair) lt one.at two.at one.tagged two.tagged (ap network_tag pair)

  no_upper_reuse : (i j : ℕ) (l m : ReportLine) → i < j → slice_get lines i ≡ Some l → slice_get lines j ≡ Some m → ReusesUpperNonce l m → ⊥
  no_upper_reuse i j l m lt e f r =
      let one = read_at written lines i l are e in
      let two = read_at written lines j m are f in
      let k = likewise (λ (z : Message). name_digits z.name) r.one (message l) (message one.line) r.first (ap (λ (z : Said). z.message) one.told) in
      let n = likewise (λ (z : Message). name_digits z.name) r.two (message m) (message two.line) r.second (ap (λ (z : Said). z.message) two.told) in
      let digits : name_digits k.is.name ≡ name_digits n.is.name = sym k.alike ∙ ap name_digits r.name ∙ n.alike in
      let a : Among (upper_tag k.is.name.pair) (line_tags one.line) = upper_seal one.line k.is k.some in
      let b : Among (upper_tag n.is.name.pair) (line_tags two.line) = upper_seal two.line n.is n.some in
      let pair : k.is.name.pair ≡ n.is.name.pair =
      same_pair k.is.name.pair n.is.name.pair (wide_at i one.line (upper_tag k.is.name.pair) one.at a) (wide_at j two.line (upper_tag n.is.name.pair) two.at b)
      (ap (λ (d : NameDigits). d.iv) digits) (ap (λ (d : NameDigits). d.seq) digits) in
      seals_once i j one.line two.line (upper_tag k.is.name.pair) (upper_tag n.is.name.pair) lt one.at two.at a b (ap upper_tag pair)

  accepts_once : (i j : ℕ) (l m : ReportLine) → i < j → slice_get lines i ≡ Some l → slice_get lines j ≡ Some m → Accepts l m → ⊥
  accepts_once i j l m lt e f r =
      let one = read_at written lines i l are e in
      let two = read_at written lines j m are f in
      let k = likewise name_digits r.name (accepted l) (accepted one.line) r.first (ap (λ (z : Said). z.accepted) one.told) in
      let n = likewise name_digits r.name (accepted m) (accepted two.line) r.second (ap (λ (z : Said). z.accepted) two.told) in
      let fits_one : LineFits own one.line = every_at (LineFits own) written i one.line safe.fits one.at in
      let fits_two : LineFits own two.line = every_at (LineFits own) written j two.line safe.fits two.at in
      let same : k.is ≡ n.is = same_name k.is n.is (accepted_wide own one.line k.is fits_one k.some) (accepted_wide own two.line n.is fits_two n.some) (sym k.alike ∙ n.alike) in
      apart_at AcceptApart written i j one.line two.line safe.accepts lt one.at two.at k.is n.is k.some n.some same

  reuse_at : (i j : ℕ) (l m : ReportLine) → i < j → slice_get lines i ≡ Some l → slice_get lines j ≡ Some m → Reuses (IsOwn lines) l m → ⊥
  reuse_at i j l m lt e f (inl r) = no_network_reuse i j l m lt e f r
  reuse_at i j l m lt e f (inr r) = no_upper_reuse i j l m lt e f r

  pub none_wrong : (nets : List ScriptNet) (v : Verdict) → IsWrong nets lines v → TellsNothingTwice v
  none_wrong nets (V.Sound count) two = tt
  none_wrong nets (V.Bad line) two = tt
  none_wrong nets (V.Reuse a b) two =
      let i : ℕ = two.first_at.0 in
      let j : ℕ = two.second_at.0 in
      reuse_at i j two.first two.second (in_order (length nets) a b i j two.order two.first_at.2 two.second_at.2) two.first_at.1 two.second_at.1 two.are
  none_wrong nets (V.Twice a b) two =
      let i : ℕ = two.first_at.0 in
      let j : ℕ = two.second_at.0 in
      accepts_once i j two.first two.second (in_order (length nets) a b i j two.order two.first_at.2 two.second_at.2) two.first_at.1 two.second_at.1 two.are

-- The law.

pub kind_reports_safe : (role : Role) → Owned role → AreReportsSafeOf role
kind_reports_safe role kind s r asks run keys nets front hex given lines input v h =
    let written : List ReportLine = lives_lines hex 1 r.lives in
    let are : AreReportLines (map line_text written) lines = read_report keys nets given r hex lines front input in
    none_wrong (node_of r) written lines (kind_lines role kind s r asks run hex) are given v h

pub reports_safe : ReportsAreSafe
reports_safe layers safe sends = kind_reports_safe (node_role layers) (node_owned layers safe sends)

-- what a verdict tells is wrong, if it tells anything
pub verdict_wrong : (nets : List ScriptNet) (lines : List ReportLine) → ((v : Verdict) → IsWrong nets lines v → TellsNothingTwice v) → (v : Verdict) → IsVerdictOf nets lines v → TellsNothingTwice v
verdict_wrong nets lines k (V.Sound count) h = tt
verdict_wrong nets lines k (V.Reuse a b) h = k (V.Reuse a b) h.0
verdict_wrong nets lines k (V.Twice a b) h = k (V.Twice a b) h.0
verdict_wrong nets lines k (V.Bad line) h = tt

pub kind_verdicts_safe : (role : Role) → Owned role → AreVerdictsSafeOf role
kind_verdicts_safe role kind s r asks run keys nets front hex v h =
    verdict_wrong h.nets h.lines (kind_reports_safe role kind s r asks run keys nets front hex h.nets h.lines h.input) v h.verdict

pub verdicts_safe : VerdictsAreSafe
verdicts_safe layers safe sends = kind_verdicts_safe (node_role layers) (node_owned layers safe sends)
