-- From the jobs that lines show to the lines of the report.
use Rattle.std.proofs.Common.{◌≡◌, ℕ, ◌+◌, Bool, List, [], ◌∷◌, ◌++◌, refl, ap, sym, subst, ◌∙◌, Some}
use Rattle.std.specs.Bool.{⊤}
use Rattle.std.specs.List.{AllByRecursion as Every, cons_option, filter_map, flat_map}
use Rattle.std.proofs.lemmas.Grind.{flat_map-append}
use Rattle.mesh_types.specs.declared.answers.Answer.{Answer}
use Rattle.mesh_types.specs.declared.history.Entry.{Entry}
use Rattle.mesh_types.specs.declared.history.Sent.{Sent}
use Rattle.mesh_types.specs.declared.lines.Outcome.{Outcome}
use Rattle.mesh_types.specs.declared.report.End.{End}
use Rattle.mesh_types.specs.declared.report.End.TheVariants as F
use Rattle.mesh_types.specs.declared.report.Opened.{Opened}
use Rattle.mesh_types.specs.declared.report.Opened.TheVariants as W
use Rattle.mesh_types.specs.declared.report.ReportLine.{ReportLine}
use Rattle.mesh_types.specs.declared.report.ReportLine.TheVariants as L
use Rattle.report_definitions.specs.Record.{Life, Shown, shown_of}
use Rattle.report_definitions.specs.Report.{bearer_lines, end_lines, entry_lines, life_lines, opened_line, send_lines}
use Rattle.event_definitions.proofs.Each.{every_append, every_back, every_front}
use Rattle.run_safety.proofs.Walking.{Tag, tags, tags_of}
use Rattle.audit_laws.proofs.Origins.{IsShown}

-- Lines that show jobs.

abbrev pub sent_tags : List Sent → List Tag
sent_tags ss = flat_map (λ s. tags_of s.outcome) ss

abbrev pub what_shown : (entries : List Entry) (s : Sent) → IsShown entries s → Shown
what_shown entries s h = record { entry = h.found.entry; job = h.job; outcome = s.outcome }

module _ (entries : List Entry) where
  shown_is : (s : Sent) (h : IsShown entries s) → shown_of entries s ≡ Some (what_shown entries s h)
  shown_is s h = rw h.found.at (rw h.found.job_at refl)

  sends_tags : (ss : List Sent) → Every (IsShown entries) ss → sent_tags ss ≡ tags (filter_map (shown_of entries) ss)
  sends_tags [] h = refl
  sends_tags (s ∷ ss) h = rw (shown_is s h.0) (ap (λ l. tags_of s.outcome ++ l) (sends_tags ss h.1))

  -- what the lines seal with
  pub all_tagged : (sends : List (List Sent)) → Every (Every (IsShown entries)) sends → flat_map sent_tags sends ≡ tags (flat_map (filter_map (shown_of entries)) sends)
  all_tagged [] h = refl
  all_tagged (ss ∷ more) h =
      ap (λ l. l ++ flat_map sent_tags more) (sends_tags ss h.0) ∙ ap (λ l. tags (filter_map (shown_of entries) ss) ++ l) (all_tagged more h.1)
      ∙ sym (flat_map-append (λ (x : Shown). tags_of x.outcome) (filter_map (shown_of entries) ss) (flat_map (filter_map (shown_of entries)) more))

-- what holds of what is shown gives what holds of the line
module _ (entries : List Entry) (P : Shown → Type 0) (R : Outcome → Type 0) (gives : (s : Sent) (h : IsShown entries s) → P (what_shown entries s h) → R s.outcome) where
  sends_hold : (ss : List Sent) → Every (IsShown entries) ss → Every P (filter_map (shown_of entries) ss) → Every (λ (s : Sent). R s.outcome) ss
  sends_hold [] h k = tt
  sends_hold (s ∷ ss) h k =
      let one : Every P (what_shown entries s h.0 ∷ filter_map (shown_of entries) ss) =
      subst (λ o. Every P (cons_option o (filter_map (shown_of entries) ss))) (shown_is entries s h.0) k in
      (gives s h.0 one.0, sends_hold ss h.1 one.1)

  pub all_hold : (sends : List (List Sent)) → Every (Every (IsShown entries)) sends → Every P (flat_map (filter_map (shown_of entries)) sends) → Every (Every (λ (s : Sent). R s.outcome)) sends
  all_hold [] h k = tt
  all_hold (ss ∷ more) h k =
      (sends_hold ss h.0 (every_front P (filter_map (shown_of entries) ss) _ k), all_hold more h.1 (every_back P (filter_map (shown_of entries) ss) _ k))

-- The lines of a life.

abbrev pub LineIs : (Answer → Type 0) → (Outcome → Type 0) → ReportLine → Type 0
LineIs P R (L.Entry at bearer number kind answer) = P answer
LineIs P R (L.Sent bearer entry job outcome hex) = R outcome
LineIs P R _ = ⊤

module _ (P : Answer → Type 0) (R : Outcome → Type 0) where
  entries_are : (n : ℕ) (es : List Entry) → Every (λ (e : Entry). P e.answer) es → Every (LineIs P R) (entry_lines n es)
  entries_are n [] h = tt
  entries_are n (e ∷ es) h = (h.0, entries_are (n + 1) es h.1)

  bearer_is : (hex : Bool) (k : ℕ) (ss : List Sent) → Every (λ (s : Sent). R s.outcome) ss → Every (LineIs P R) (bearer_lines hex k ss)
  bearer_is hex k [] h = tt
  bearer_is hex k (s ∷ ss) h = (h.0, bearer_is hex k ss h.1)

  sends_are : (hex : Bool) (k : ℕ) (sends : List (List Sent)) → Every (Every (λ (s : Sent). R s.outcome)) sends → Every (LineIs P R) (send_lines hex k sends)
  sends_are hex k [] h = tt
  sends_are hex k (ss ∷ more) h = every_append (LineIs P R) (bearer_lines hex k ss) _ (bearer_is hex k ss h.0) (sends_are hex (k + 1) more h.1)

  end_is : (opened : Opened) (end : End) → Every (LineIs P R) (end_lines opened end)
  end_is W.WasReset end = tt
  end_is (W.On state mark) F.Ended = (tt, tt)
  end_is (W.On state mark) (F.Cut calls) = (tt, tt)
  end_is W.CutAtStart F.Ended = (tt, tt)
  end_is W.CutAtStart (F.Cut calls) = (tt, tt)

  opened_is : (n : ℕ) (opened : Opened) → LineIs P R (opened_line n opened)
  opened_is n (W.On state mark) = tt
  opened_is n W.WasReset = tt
  opened_is n W.CutAtStart = tt

  pub life_is : (hex : Bool) (n : ℕ) (l : Life) → Every (λ (e : Entry). P e.answer) l.entries → Every (Every (λ (s : Sent). R s.outcome)) l.sends → Every (LineIs P R) (life_lines hex n l)
  unfolding life_lines
  life_is hex n l h k = (
    opened_is n l.opened,
    every_append (LineIs P R) _ _ (every_append (LineIs P R) _ _ (entries_are 1 l.entries h) (sends_are hex 0 l.sends k)) (end_is l.opened l.end),
  )
