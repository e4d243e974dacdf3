-- What a run says of the lines of its report: whose each PDU is, that no pair seals twice for one layer, and which names were accepted.
use Rattle.std.proofs.Common.{◌≡◌, ℕ, ◌+◌, ◌^◌, ◌<◌, ◌≤◌, Bool, true, leb, ltb, ◌&&◌, List, [], ◌∷◌, ◌++◌, map, refl, ap, sym, subst, ◌∙◌, arith, Some, None}
use Rattle.std.specs.Bool.{⊤}
use Rattle.std.specs.List.{AllByRecursion as Every, cons_option, filter_map, flat_map}
use Rattle.std.proofs.lemmas.Bool.Decides.{nat_tests}
use Rattle.std.proofs.lemmas.Grind.{flat_map-append}
use Rattle.std.proofs.lemmas.List.Elements.{filter_map-append, recursion_from_All}
use Rattle.audit_definitions.specs.Seals.{accepted, accepted_as}
use Rattle.layer_laws.proofs.Node.{IsSameNode}
use Rattle.mesh_base.specs.declared.address.Address.{Address}
use Rattle.mesh_base.specs.declared.pair.Name.{Name}
use Rattle.mesh_types.specs.declared.answers.Answer.{Answer}
use Rattle.mesh_types.specs.declared.answers.Answer.TheVariants as A
use Rattle.mesh_types.specs.declared.events.Event.{Event}
use Rattle.mesh_types.specs.declared.history.Entry.{Entry}
use Rattle.mesh_types.specs.declared.history.Sent.{Sent}
use Rattle.mesh_types.specs.declared.jobs.Job.{Job}
use Rattle.mesh_types.specs.declared.lines.Outcome.{Outcome}
use Rattle.mesh_types.specs.declared.lines.Outcome.TheVariants as O
use Rattle.mesh_types.specs.declared.report.End.{End}
use Rattle.mesh_types.specs.declared.report.End.TheVariants as F
use Rattle.mesh_types.specs.declared.report.Opened.{Opened}
use Rattle.mesh_types.specs.declared.report.Opened.TheVariants as W
use Rattle.mesh_types.specs.declared.report.ReportLine.{ReportLine}
use Rattle.mesh_types.specs.declared.report.ReportLine.TheVariants as L
use Rattle.record_types.specs.declared.records.StoreRecord.{StoreRecord}
use Rattle.record_types.specs.declared.records.StoreRecord.TheVariants as R
use Rattle.report_definitions.specs.Record.{Life, LifeOver, first_over, shown, shown_of}
use Rattle.report_definitions.specs.Report.{bearer_lines, end_lines, entry_lines, life_lines, lives_lines, opened_line, send_lines}
use Rattle.event_definitions.specs.Answers.{accepted as accepted_by}
use Rattle.event_definitions.specs.Fit.{IsOwn}
use Rattle.event_definitions.specs.Handling.{AreHandled, past_of, records_after, records_left}
use Rattle.event_definitions.specs.History.{Insight, Past, Told}
use Rattle.run_definitions.specs.Lines.{Shows, shows_bcn, shows_ctl, shows_first, shows_late, shows_long, shows_msg, shows_relay, shows_rep, shows_seg, shows_sent, shows_sent_long, shows_spent}
use Rattle.run_definitions.specs.Order.{Step, phases_of, placed_from}
use Rattle.run_definitions.specs.RunOf.{LifeOf, LivesOf, draws}
use Rattle.run_definitions.specs.Uses.{life_delivered}
use Rattle.event_definitions.proofs.Accepting.{some_is}
use Rattle.run_safety.proofs.LifeLines as lines
use Rattle.run_safety.proofs.Lists.{Sub, no_part, sub_append}
use Rattle.event_definitions.proofs.Each.{every_append, every_back, every_front}
use Rattle.run_safety.proofs.Lives.{life_later}
use Rattle.run_safety.proofs.Names.{filled_is, left_is}
use Rattle.run_safety.proofs.Rising.{Later, later_after}
use Rattle.run_safety.specs.SafeRole.{Foreign, IsSafeRole}
use Rattle.run_safety.proofs.Walking.{ForeignJob, ShownFits, Tag, doubled, tags, tags_of}
use Rattle.run_safety.specs.Rules.{LifeBy, LivesBy, enough_rules}
use Rattle.run_safety.specs.Safety.{all_draws}
use Rattle.event_definitions.specs.Role.{Role}
use Rattle.mesh_base.proofs.Every.{option_cases}
use Rattle.store_definitions.specs.Config.{Config, config_of, is_element}
use Rattle.store_definitions.specs.Ranges.{IsInRange, IsNameInRange}
use Rattle.audit_laws.specs.Laws.{NamesElement}
use Rattle.audit_laws.proofs.OwnedRoles.{Owned}
use Rattle.audit_laws.proofs.Origins.{HasOrigin, IsShown, Traced, life_traced}
use Rattle.audit_laws.proofs.Owners.{OwnEntry, life_own}
use Rattle.audit_laws.proofs.Parts.{every_at, every_list}
use Rattle.audit_laws.proofs.Shown.{LineIs, all_hold, all_tagged, life_is, sent_tags}

-- What is known of a line.

-- an element's address
abbrev pub IsHomeSource : Config → Address → Type 0
IsHomeSource own src = (is_element own src.0 ≡ true) × (src.0 < 2 ^ 16)

abbrev pub OutcomeFits : Config → Outcome → Type 0
OutcomeFits own (O.Ctl pair ttl src dst tpdu pdu) = IsHomeSource own src
OutcomeFits own (O.Msg pair ttl src dst key payload pdu) = IsHomeSource own src
OutcomeFits own (O.Long pair ttl src dst key payload) = IsHomeSource own src
OutcomeFits own (O.Seg pair ttl src dst seg_o seg_n auth pdu) = IsHomeSource own src
OutcomeFits own (O.Relay pair ctl ttl src dst tpdu pdu) = Foreign own src
OutcomeFits own _ = ⊤

abbrev pub AnswerFits : Answer → Type 0
AnswerFits (A.Delivered name dst key payload) = IsNameInRange name
AnswerFits (A.Control name dst opcode params) = IsNameInRange name
AnswerFits _ = ⊤

abbrev pub LineFits : Config → ReportLine → Type 0
LineFits own line = LineIs AnswerFits (OutcomeFits own) line

-- what a line seals with
abbrev pub line_tags : ReportLine → List Tag
line_tags (L.Sent bearer entry job outcome hex) = tags_of outcome
line_tags _ = []

-- The lines of jobs.

-- the node has an element, and its elements' addresses are unicast
pub record HasElement (own : Config) : Type 0 where
  pub some : 1 ≤ own.elements
  pub most : own.unicast.0 + own.elements ≤ 2 ^ 15

home_source : (own : Config) (src : Address) → HasElement own → is_element own src.0 ≡ true → IsHomeSource own src
home_source own src n h = (h, let m = n.most in below own.unicast.0 own.elements src.0 m h)
  where
    below : (unicast elements a : ℕ) → unicast + elements ≤ 2 ^ 15 → (leb unicast a && ltb a (unicast + elements)) ≡ true → a < 2 ^ 16
    below unicast elements a m h = grind (arith, nat_tests, m, h)

outcome_fits : (own : Config) → HasElement own → (event : Event) (job : Job) (outcome : Outcome) → Shows event job outcome → IsOwn own job → ForeignJob own job → OutcomeFits own outcome
outcome_fits own n event _ _ (shows_ctl {src = src}) o f = home_source own src n o
outcome_fits own n event _ _ (shows_msg {src = src} short) o f = home_source own src n o
outcome_fits own n event _ _ (shows_long {src = src} long) o f = home_source own src n o
outcome_fits own n event _ _ (shows_sent {src = src} short) o f = home_source own src n o
outcome_fits own n event _ _ (shows_sent_long {src = src} long) o f = home_source own src n o
outcome_fits own n event _ _ (shows_first {s = s} first) o f = home_source own s.name.src n o
outcome_fits own n event _ _ (shows_seg {s = s} later intime) o f = home_source own s.name.src n o
outcome_fits own n event _ _ (shows_late later late) o f = tt
outcome_fits own n event _ _ shows_relay o f = f
outcome_fits own n event _ _ shows_rep o f = tt
outcome_fits own n event _ _ shows_bcn o f = tt
outcome_fits own n event job _ (shows_spent draws) o f = tt

module _ (own : Config) (n : HasElement own) (entries : List Entry) (owned : Every (OwnEntry own) entries) where
  job_own : (s : Sent) (h : IsShown entries s) → IsOwn own h.job
  job_own s h = every_at (IsOwn own) h.found.entry.jobs s.job h.job (every_at (OwnEntry own) entries s.entry h.found.entry owned h.found.at).jobs h.found.job_at

  all_fit : (sends : List (List Sent)) → Every (Every (IsShown entries)) sends → Every (ShownFits own) (flat_map (filter_map (shown_of entries)) sends)
      → Every (Every (λ (s : Sent). OutcomeFits own s.outcome)) sends
  all_fit sends h k =
      all_hold entries (ShownFits own) (OutcomeFits own)
      (λ s is fits. outcome_fits own n is.found.entry.event is.job s.outcome fits.0 (job_own s is) fits.1) sends h k

-- The names accepted are within their widths, since they are stored.

unaccepted_fits : (a : Answer) → accepted_by a ≡ None → AnswerFits a
unaccepted_fits (A.Delivered name dst key payload) e = absurd cc
unaccepted_fits (A.Control name dst opcode params) e = absurd cc
unaccepted_fits _ e = tt

named_fits : (a : Answer) (n : Name) → accepted_by a ≡ Some n → IsNameInRange n → AnswerFits a
named_fits (A.Delivered name dst key payload) n e h = subst IsNameInRange (sym (some_is e)) h
named_fits (A.Control name dst opcode params) n e h = subst IsNameInRange (sym (some_is e)) h
named_fits _ n e h = absurd cc

answer_fits : (role : Role) → IsSafeRole role → (past : Past) (event : Event) (insight : Insight) (answer : Answer) → role.sees past event insight
    → answer ≡ role.answer past event insight → Every IsInRange (role.stores past event insight answer) → AnswerFits answer
answer_fits role safe past event insight answer sees e h =
    option_cases (AnswerFits answer) (accepted_by answer) (λ none. unaccepted_fits answer none)
    (λ n some.
    let replay = safe.replay past event insight n sees (ap accepted_by (sym e) ∙ some) in
    let stored : Every IsInRange (R.Replay n None ∷ replay.0) =
    subst (Every IsInRange) replay.1 (subst (λ (a : Answer). Every IsInRange (role.stores past event insight a)) e h) in
    named_fits answer n some stored.0.0)

answers_fit : (role : Role) → IsSafeRole role → (records : List StoreRecord) (before ts : List Told) → AreHandled role records before ts → Every IsInRange (records_left role records before ts)
    → Every (λ (e : Entry). AnswerFits e.answer) (map (λ t. t.entry) ts)
answers_fit role safe records before [] h r = tt
answers_fit role safe records before (t ∷ ts) h r =
    let past : Past = past_of before t in
    let left = left_is role (records_after role past t) (before ++ t ∷ []) ts h.2 in
    let after : Every IsInRange (records_after role past t) = every_front IsInRange (records_after role past t) left.0 (subst (Every IsInRange) left.1 r) in
    let stored : Every IsInRange (role.stores past t.entry.event t.insight t.entry.answer) = every_back IsInRange t.records _ after in
    (answer_fits role safe past t.entry.event t.insight t.entry.answer h.1.sees h.1.answer stored, answers_fit role safe (records_after role past t) (before ++ t ∷ []) ts h.2 r)

-- A life.

record LifeFits (own : Config) (l : Life) : Type 0 where
  entries : Every (λ (e : Entry). AnswerFits e.answer) l.entries
  sends : Every (Every (λ (s : Sent). OutcomeFits own s.outcome)) l.sends
  tagged : flat_map sent_tags l.sends ≡ tags (shown l)

same_by : (own c : Config) → Later own c → IsSameNode own c
same_by own c h = record { unicast = h.unicast; elements = h.elements }

module _ (role : Role) (kind : Owned role) (own : Config) (has : HasElement own) (plan : List Step) (over : List StoreRecord) (l : Life) (next : List StoreRecord)
    (h : LifeOf role plan over l next) (by : LifeBy enough_rules role plan over l next) (later : Later own (config_of over)) (asks : Every (Every (Every (NamesElement own.elements))) (phases_of plan)) where
  trace : Traced own.elements l
  trace = life_traced own.elements plan l asks h.order h.idle

  owned : Every (OwnEntry own) l.entries
  owned =
      subst (Every (OwnEntry own)) h.entries
      (life_own role kind own over h.told has.some (same_by own (config_of over) later) h.handled
      (subst (λ es. Every (HasOrigin own.elements es) (placed_from 0 es)) (sym h.entries) trace.origins))

  ranges : Every IsInRange (records_left role over [] h.told)
  ranges =
      let whole = recursion_from_All IsInRange _ h.leaves.ranges in
      let left : List StoreRecord = records_left role over [] h.told in
      let filled = filled_is l.refills left in
      every_front IsInRange left filled.0 (subst (Every IsInRange) filled.1 (every_front IsInRange _ h.leaves.more whole))

  shown_all : Every (Every (IsShown l.entries)) l.sends
  shown_all = every_list (IsShown l.entries) l.sends trace.shown

  life_fits : LifeFits own l
  life_fits = record {
    entries = subst (Every (λ (e : Entry). AnswerFits e.answer)) h.entries (answers_fit role kind.safe over [] h.told h.handled ranges);
    sends = all_fit own has l.entries owned l.sends shown_all (lines.life_lines role kind.safe plan over l next by own later).shown;
    tagged = all_tagged l.entries l.sends shown_all;
  }

-- The lines of a life.

tag_entries : (n : ℕ) (es : List Entry) → flat_map line_tags (entry_lines n es) ≡ []
tag_entries n [] = refl
tag_entries n (e ∷ es) = tag_entries (n + 1) es

tag_bearer : (hex : Bool) (k : ℕ) (ss : List Sent) → flat_map line_tags (bearer_lines hex k ss) ≡ sent_tags ss
tag_bearer hex k [] = refl
tag_bearer hex k (s ∷ ss) = ap (λ l. tags_of s.outcome ++ l) (tag_bearer hex k ss)

tag_sends : (hex : Bool) (k : ℕ) (sends : List (List Sent)) → flat_map line_tags (send_lines hex k sends) ≡ flat_map sent_tags sends
tag_sends hex k [] = refl
tag_sends hex k (ss ∷ more) =
    flat_map-append line_tags (bearer_lines hex k ss) (send_lines hex (k + 1) more) ∙ ap (λ l. l ++ flat_map line_tags (send_lines hex (k + 1) more)) (tag_bearer hex k ss)
    ∙ ap (λ l. sent_tags ss ++ l) (tag_sends hex (k + 1) more)

tag_end : (opened : Opened) (end : End) → flat_map line_tags (end_lines opened end) ≡ []
tag_end W.WasReset end = refl
tag_end (W.On state mark) F.Ended = refl
tag_end (W.On state mark) (F.Cut calls) = refl
tag_end W.CutAtStart F.Ended = refl
tag_end W.CutAtStart (F.Cut calls) = refl

tag_opened : (n : ℕ) (opened : Opened) → line_tags (opened_line n opened) ≡ []
tag_opened n (W.On state mark) = refl
tag_opened n W.WasReset = refl
tag_opened n W.CutAtStart = refl

tag_life : (own : Config) (hex : Bool) (n : ℕ) (l : Life) → LifeFits own l → flat_map line_tags (life_lines hex n l) ≡ tags (shown l)
unfolding life_lines
tag_life own hex n l h =
    let entries : List ReportLine = entry_lines 1 l.entries in
    let sends : List ReportLine = send_lines hex 0 l.sends in
    let end : List ReportLine = end_lines l.opened l.end in
    ap (λ ts. ts ++ flat_map line_tags ((entries ++ sends) ++ end)) (tag_opened n l.opened)
    ∙ flat_map-append line_tags (entries ++ sends) end
    ∙ ap (λ ts. ts ++ flat_map line_tags end) (flat_map-append line_tags entries sends)
    ∙ ap (λ ts. (ts ++ flat_map line_tags sends) ++ flat_map line_tags end) (tag_entries 1 l.entries)
    ∙ ap (λ ts. flat_map line_tags sends ++ ts) (tag_end l.opened l.end)
    ∙ nothing_behind (flat_map line_tags sends) ∙ tag_sends hex 0 l.sends ∙ h.tagged
  where
    nothing_behind : (xs : List Tag) → xs ++ [] ≡ xs
    nothing_behind [] = refl
    nothing_behind (x ∷ xs) = ap (λ l. x ∷ l) (nothing_behind xs)

-- The names accepted.

same_accepted : (a : Answer) → accepted_as a ≡ accepted_by a
same_accepted (A.Delivered name dst key payload) = refl
same_accepted (A.Control name dst opcode params) = refl
same_accepted _ = refl

accepted_entries : (n : ℕ) (es : List Entry) → filter_map accepted (entry_lines n es) ≡ filter_map (λ (e : Entry). accepted_by e.answer) es
accepted_entries n [] = refl
accepted_entries n (e ∷ es) = rw (same_accepted e.answer) (ap (cons_option (accepted_by e.answer)) (accepted_entries (n + 1) es))

accepted_bearer : (hex : Bool) (k : ℕ) (ss : List Sent) → filter_map accepted (bearer_lines hex k ss) ≡ []
accepted_bearer hex k [] = refl
accepted_bearer hex k (s ∷ ss) = accepted_bearer hex k ss

accepted_sends : (hex : Bool) (k : ℕ) (sends : List (List Sent)) → filter_map accepted (send_lines hex k sends) ≡ []
accepted_sends hex k [] = refl
accepted_sends hex k (ss ∷ more) = rw (filter_map-append, accepted_bearer hex k ss) (accepted_sends hex (k + 1) more)

accepted_end : (opened : Opened) (end : End) → filter_map accepted (end_lines opened end) ≡ []
accepted_end W.WasReset end = refl
accepted_end (W.On state mark) F.Ended = refl
accepted_end (W.On state mark) (F.Cut calls) = refl
accepted_end W.CutAtStart F.Ended = refl
accepted_end W.CutAtStart (F.Cut calls) = refl

accepted_opened : (n : ℕ) (opened : Opened) → accepted (opened_line n opened) ≡ None
accepted_opened n (W.On state mark) = refl
accepted_opened n W.WasReset = refl
accepted_opened n W.CutAtStart = refl

accepted_life : (hex : Bool) (n : ℕ) (l : Life) → filter_map accepted (life_lines hex n l) ≡ life_delivered l
unfolding life_lines
accepted_life hex n l =
    let entries : List ReportLine = entry_lines 1 l.entries in
    let sends : List ReportLine = send_lines hex 0 l.sends in
    let end : List ReportLine = end_lines l.opened l.end in
    ap (λ o. cons_option o (filter_map accepted ((entries ++ sends) ++ end))) (accepted_opened n l.opened)
    ∙ filter_map-append accepted (entries ++ sends) end
    ∙ ap (λ ns. ns ++ filter_map accepted end) (filter_map-append accepted entries sends)
    ∙ ap (λ ns. (filter_map accepted entries ++ ns) ++ filter_map accepted end) (accepted_sends hex 0 l.sends)
    ∙ ap (λ ns. (filter_map accepted entries ++ []) ++ ns) (accepted_end l.opened l.end)
    ∙ nothing_behind (filter_map accepted entries ++ []) ∙ nothing_behind (filter_map accepted entries) ∙ accepted_entries 1 l.entries
  where
    nothing_behind : (xs : List Name) → xs ++ [] ≡ xs
    nothing_behind [] = refl
    nothing_behind (x ∷ xs) = ap (λ l. x ∷ l) (nothing_behind xs)

pub accepted_lives : (hex : Bool) (n : ℕ) (lives : List LifeOver) → filter_map accepted (lives_lines hex n lives) ≡ flat_map (λ x. life_delivered x.life) lives
unfolding lives_lines
accepted_lives hex n [] = refl
accepted_lives hex n (x ∷ xs) =
    filter_map-append accepted (life_lines hex n x.life) (lives_lines hex (n + 1) xs) ∙ ap (λ l. l ++ filter_map accepted (lives_lines hex (n + 1) xs)) (accepted_life hex n x.life)
    ∙ ap (λ l. life_delivered x.life ++ l) (accepted_lives hex (n + 1) xs)

-- All lives.

abbrev pub all_tags : List LifeOver → List Tag
all_tags lives = flat_map (λ x. tags (shown x.life)) lives

pub record LivesFit (own : Config) (lives : List LifeOver) : Type 0 where
  pub fits : (hex : Bool) (n : ℕ) → Every (LineFits own) (lives_lines hex n lives)
  pub tagged : (hex : Bool) (n : ℕ) → flat_map line_tags (lives_lines hex n lives) ≡ all_tags lives
  pub sub : Sub Tag (all_tags lives) (doubled (all_draws lives))

pub no_life : (own : Config) → LivesFit own []
unfolding lives_lines
no_life own = record { fits = λ hex n. tt; tagged = λ hex n. refl; sub = no_part }

life_more : (own : Config) (x : LifeOver) (xs : List LifeOver) → LifeFits own x.life → Sub Tag (tags (shown x.life)) (doubled (draws (shown x.life))) → LivesFit own xs → LivesFit own (x ∷ xs)
unfolding lives_lines
life_more own x xs h s k = record {
  fits = λ hex n. every_append (LineFits own) (life_lines hex n x.life) _ (life_is AnswerFits (OutcomeFits own) hex n x.life h.entries h.sends) (k.fits hex (n + 1));
  tagged = λ hex n.
      flat_map-append line_tags (life_lines hex n x.life) (lives_lines hex (n + 1) xs) ∙ ap (λ l. l ++ flat_map line_tags (lives_lines hex (n + 1) xs)) (tag_life own hex n x.life h)
      ∙ ap (λ l. tags (shown x.life) ++ l) (k.tagged hex (n + 1));
  sub = rw flat_map-append (sub_append s k.sub);
}

abbrev pub AskPlans : ℕ → List (List Step) → Type 0
AskPlans elements plans = Every (λ plan. Every (Every (Every (NamesElement elements))) (phases_of plan)) plans

pub lives_fit : (role : Role) → Owned role → (own : Config) → HasElement own → (plans : List (List Step)) (lives : List LifeOver) (last : List StoreRecord)
    → LivesOf role plans lives last → LivesBy enough_rules role plans lives last → AskPlans own.elements plans → Later own (config_of (first_over lives last)) → LivesFit own lives
lives_fit role kind own has [] [] last h by asks later = no_life own
lives_fit role kind own has [] (x ∷ xs) last h by asks later = absurd h
lives_fit role kind own has (plan ∷ plans) [] last h by asks later = no_life own
lives_fit role kind own has (plan ∷ plans) (x ∷ xs) last h by asks later =
    let next : List StoreRecord = first_over xs last in
    let after : Later own (config_of next) = later_after own (config_of x.over) (config_of next) later (life_later role kind.safe plan x.over x.life next by.0) in
    life_more own x xs (life_fits role kind own has plan x.over x.life next h.0 by.0 later asks.0) (lines.life_lines role kind.safe plan x.over x.life next by.0 own later).sub
    (lives_fit role kind own has plans xs last h.1 by.1 asks.1 after)
