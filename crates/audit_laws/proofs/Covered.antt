-- Under the keys that sealed a report nothing is wrong with it.
use Rattle.std.proofs.Common.{◌≡◌, ℕ, zero, suc, ◌+◌, Bool, true, false, List, [], ◌∷◌, ◌++◌, map, length, refl, ap, subst, ◌∙◌, Some}
use Rattle.std.specs.Bool.{⊤}
use Rattle.std.specs.Prelude.{slice_get}
use Rattle.std.specs.List.{All, AllByRecursion as Every}
use Rattle.std.proofs.lemmas.List.{length-map}
use Rattle.std.proofs.lemmas.List.Elements.{recursion_from_All}
use Rattle.audit_definitions.proofs.OneVerdict.{one_input}
use Rattle.audit_definitions.specs.Seals.{AreToldBy, IsSealedSo, Sealed, result_of, sealed_by}
use Rattle.audit_definitions.specs.Verdicts.{IsBadLine, IsVerdictOf}
use Rattle.audit_definitions.specs.declared.verdict.Verdict.{Verdict}
use Rattle.audit_definitions.specs.declared.verdict.Verdict.TheVariants as V
use Rattle.layer_definitions.specs.Network.{HasPdu, IsInWidths, net_text}
use Rattle.mesh_base.specs.declared.fields.NetFields.{NetFields}
use Rattle.mesh_base.specs.declared.fields.NetMaterial.{NetMaterial}
use Rattle.mesh_types.specs.declared.answers.Answer.{Answer}
use Rattle.mesh_types.specs.declared.events.Event.{Event}
use Rattle.mesh_types.specs.declared.history.Entry.{Entry}
use Rattle.mesh_types.specs.declared.jobs.Job.{Job}
use Rattle.mesh_types.specs.declared.lines.Outcome.{Outcome}
use Rattle.mesh_types.specs.declared.report.ReportLine.{ReportLine}
use Rattle.mesh_types.specs.declared.report.ReportLine.TheVariants as L
use Rattle.record_types.specs.declared.records.StoreRecord.{StoreRecord}
use Rattle.report_definitions.specs.Record.{Life, LifeOver, shown}
use Rattle.report_definitions.specs.Report.{life_lines, lives_lines, report_text}
use Rattle.event_definitions.specs.Answers.{pair_of}
use Rattle.run_definitions.specs.Lines.{Shows, shows_bcn, shows_ctl, shows_first, shows_late, shows_long, shows_msg, shows_relay, shows_rep, shows_seg, shows_sent, shows_sent_long, shows_spent}
use Rattle.run_definitions.specs.Order.{Step}
use Rattle.run_definitions.specs.RunOf.{LivesOf}
use Rattle.run_definitions.specs.Seals.{message_fields, own_fields}
use Rattle.event_definitions.proofs.Accepting.{some_is}
use Rattle.event_definitions.proofs.Each.{every_append, every_map}
use Rattle.event_definitions.specs.Role.{Role, node_role}
use Rattle.audit_laws.proofs.OwnedRoles.{Owned, node_owned}
use Rattle.script_definitions.specs.declared.line.ScriptNet.{ScriptNet}
use Rattle.audit_laws.specs.Covered.{AreReportsSoundOf, HasKey, IsCovered, ReportsAreSound}
use Rattle.audit_laws.specs.Laws.{TellsNothingTwice}
use Rattle.audit_laws.specs.Reading.{as_told}
use Rattle.audit_laws.proofs.Origins.{IsShown, Traced, life_traced}
use Rattle.audit_laws.proofs.Parts.{every_at, every_list}
use Rattle.audit_laws.proofs.Readable.{reports_read}
use Rattle.audit_laws.proofs.ReportLines.{AskPlans}
use Rattle.audit_laws.proofs.Runs.{ask_plans}
use Rattle.audit_laws.proofs.Shown.{LineIs, all_hold, life_is}
use Rattle.audit_laws.proofs.Sound.{kind_verdicts_safe}

-- The octets of a line are those of the PDU that it tells.

abbrev PduGiven : List ScriptNet → Outcome → Type 0
PduGiven nets outcome = (x : Sealed) → sealed_by outcome ≡ Some x → IsSealedSo nets outcome x.octets

sealed_so : (nets : List ScriptNet) (outcome : Outcome) (m : NetMaterial) (f : NetFields) (octets : List ℕ) → HasKey nets m → HasPdu f × IsInWidths f → AreToldBy outcome f
    → net_text m f ≡ octets → IsSealedSo nets outcome octets
sealed_so nets outcome m f octets key fits told text = record {
  net = key.0;
  given = key.1;
  fields = f;
  told = told;
  has_pdu = fits.0;
  in_widths = fits.1;
  text = ap (λ (k : NetMaterial). net_text k f) key.2 ∙ text;
}

shown_octets : (x y : Sealed) → Some x ≡ Some y → x.octets ≡ y.octets
shown_octets x y e = ap (λ (z : Sealed). z.octets) (some_is e)

pdu_given : (nets : List ScriptNet) (entry : Entry) (event : Event) (job : Job) (outcome : Outcome) → Shows event job outcome
    → IsCovered nets (record { entry = entry; job = job; outcome = outcome }) → PduGiven nets outcome
pdu_given nets entry event _ _ (shows_ctl {m = m} {ttl = ttl} {src = src} {dst = dst} {tpdu = tpdu} {pair = pair}) c x e =
    sealed_so nets _ m (own_fields pair true ttl src dst tpdu) x.octets c.key c.pdu refl (shown_octets _ x e)
pdu_given nets entry event _ _ (shows_msg {m = m} {key = key} {ttl = ttl} {src = src} {dst = dst} {payload = payload} {pair = pair} short) c x e =
    sealed_so nets _ m (message_fields key pair ttl src dst payload) x.octets c.key c.pdu refl (shown_octets _ x e)
pdu_given nets entry event _ _ (shows_sent {m = m} {key = key} {ttl = ttl} {src = src} {dst = dst} {payload = payload} {pair = pair} short) c x e =
    sealed_so nets _ m (message_fields key pair ttl src dst payload) x.octets c.key c.pdu refl (shown_octets _ x e)
pdu_given nets entry event _ _ (shows_first {s = s} first) c x e =
    sealed_so nets _ s.material (own_fields s.name.pair false s.ttl s.name.src s.dst s.tpdu) x.octets c.key c.pdu refl (shown_octets _ x e)
pdu_given nets entry event _ _ (shows_seg {s = s} {pair = pair} later intime) c x e =
    sealed_so nets _ s.material (own_fields pair false s.ttl s.name.src s.dst s.tpdu) x.octets c.key c.pdu refl (shown_octets _ x e)
pdu_given nets entry event _ _ (shows_relay {m = m} {f = f}) c x e =
    sealed_so nets _ m (own_fields (pair_of f) f.ctl f.ttl f.src f.dst f.tpdu) x.octets c.key c.pdu refl (shown_octets _ x e)
pdu_given nets entry event _ _ (shows_long long) c x e = absurd cc
pdu_given nets entry event _ _ (shows_sent_long long) c x e = absurd cc
pdu_given nets entry event _ _ (shows_late later late) c x e = absurd cc
pdu_given nets entry event _ _ shows_rep c x e = absurd cc
pdu_given nets entry event _ _ shows_bcn c x e = absurd cc
pdu_given nets entry event job _ (shows_spent draws) c x e = absurd cc

-- The lines of a run.

abbrev AnyAnswer : Answer → Type 0
AnyAnswer a = ⊤

any_answers : (es : List Entry) → Every (λ (e : Entry). AnyAnswer e.answer) es
any_answers [] = tt
any_answers (e ∷ es) = (tt, any_answers es)

abbrev LineGiven : List ScriptNet → ReportLine → Type 0
LineGiven nets line = LineIs AnyAnswer (PduGiven nets) line

life_given : (nets : List ScriptNet) (elements : ℕ) (l : Life) → Traced elements l → Every (IsCovered nets) (shown l) → (hex : Bool) (n : ℕ) → Every (LineGiven nets) (life_lines hex n l)
life_given nets elements l trace c hex n =
    life_is AnyAnswer (PduGiven nets) hex n l (any_answers l.entries)
    (all_hold l.entries (IsCovered nets) (PduGiven nets) (λ s is covered. pdu_given nets is.found.entry is.event is.job s.outcome is.shows covered) l.sends
    (every_list (IsShown l.entries) l.sends trace.shown) c)

lives_given : (role : Role) (nets : List ScriptNet) (elements : ℕ) (plans : List (List Step)) (lives : List LifeOver) (last : List StoreRecord) → LivesOf role plans lives last
    → AskPlans elements plans → Every (λ (x : LifeOver). Every (IsCovered nets) (shown x.life)) lives → (hex : Bool) (n : ℕ) → Every (LineGiven nets) (lives_lines hex n lives)
unfolding lives_lines
lives_given role nets elements plans [] last h asks c hex n = tt
lives_given role nets elements [] (x ∷ xs) last h asks c hex n = absurd h
lives_given role nets elements (plan ∷ plans) (x ∷ xs) last h asks c hex n =
    every_append (LineGiven nets) (life_lines hex n x.life) _ (life_given nets elements x.life (life_traced elements plan x.life asks.0 h.0.order h.0.idle) c.0 hex n)
    (lives_given role nets elements plans xs last h.1 asks.1 c.1 hex (n + 1))

-- What is read of them.

read_line_at : (xs : List ReportLine) (i : ℕ) (l : ReportLine) → slice_get (map as_told xs) i ≡ Some l → (x : ReportLine) × (slice_get xs i ≡ Some x) × (as_told x ≡ l)
read_line_at [] i l e = absurd cc
read_line_at (x ∷ xs) zero l e = (x, refl, some_is e)
read_line_at (x ∷ xs) (suc i) l e = read_line_at xs i l e

told_given : (nets : List ScriptNet) (x : ReportLine) → LineGiven nets x → (outcome : Outcome) → result_of (as_told x) ≡ Some outcome → PduGiven nets outcome
told_given nets (L.Sent bearer entry job outcome hex) h o e = subst (PduGiven nets) (some_is e) h
told_given nets _ h o e = absurd cc

none_bad : (nets : List ScriptNet) (xs : List ReportLine) → Every (LineGiven nets) xs → (i : ℕ) (l : ReportLine) → slice_get (map as_told xs) i ≡ Some l → IsBadLine nets l → ⊥
none_bad nets xs h i l e bad =
    let at = read_line_at xs i l e in
    let given : LineGiven nets at.0 = every_at (LineGiven nets) xs i at.0 h at.1 in
    bad.other (told_given nets at.0 given bad.outcome (ap result_of at.2 ∙ bad.result) bad.shown bad.sealed)

sound_of : (nets : List ScriptNet) (xs : List ReportLine) (v : Verdict) → Every (LineGiven nets) xs → TellsNothingTwice v → IsVerdictOf nets (map as_told xs) v → v ≡ V.Sound (length nets + length xs)
sound_of nets xs (V.Sound count) h k w = ap V.Sound (w.0 ∙ ap (λ (n : ℕ). length nets + n) (length-map xs as_told))
sound_of nets xs (V.Reuse a b) h k w = absurd k
sound_of nets xs (V.Twice a b) h k w = absurd k
sound_of nets xs (V.Bad b) h k w = absurd (none_bad nets xs h w.0.1.0 w.0.0 w.0.1.1 w.0.2)

pub kind_reports_sound : (role : Role) → Owned role → AreReportsSoundOf role
kind_reports_sound role kind s r asks run keys nets front told covered v h =
    let xs : List ReportLine = lives_lines true 1 r.lives in
    let same = one_input (keys ++ report_text r true) h.nets h.lines nets (map as_told xs) h.input (reports_read r told keys nets front) in
    let here : IsVerdictOf nets h.lines v = subst (λ (ns : List ScriptNet). IsVerdictOf ns h.lines v) same.0 h.verdict in
    let there : IsVerdictOf nets (map as_told xs) v = subst (λ (ls : List ReportLine). IsVerdictOf nets ls v) same.1 here in
    let lives : Every (λ (x : LifeOver). Every (IsCovered nets) (shown x.life)) r.lives =
    every_map (λ (x : LifeOver). All (IsCovered nets) (shown x.life)) (λ (x : LifeOver). Every (IsCovered nets) (shown x.life)) (λ x k. recursion_from_All (IsCovered nets) (shown x.life) k) r.lives
    (recursion_from_All (λ (x : LifeOver). All (IsCovered nets) (shown x.life)) r.lives covered) in
    let given : Every (LineGiven nets) xs = lives_given role nets s.node.elements s.lives r.lives r.last run.lives (ask_plans s.node.elements s.lives asks) lives true 1 in
    sound_of nets xs v given (kind_verdicts_safe role kind s r asks run keys nets front true v h) there

pub reports_sound : ReportsAreSound
reports_sound layers safe sends = kind_reports_sound (node_role layers) (node_owned layers safe sends)
