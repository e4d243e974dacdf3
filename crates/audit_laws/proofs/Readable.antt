-- The report of a run is an input of an audit, and the events of a script name elements of its node.
use Rattle.std.proofs.Common.{◌≡◌, ℕ, zero, suc, ◌==◌, Bool, true, false, if◌then◌else◌, List, [], ◌∷◌, ◌++◌, map, refl, sym, subst, ap, ◌∙◌, Some, None}
use Rattle.std.specs.List.{AllByRecursion as Every}
use Rattle.std.proofs.lemmas.List.Elements.{All-from_recursion, recursion_from_All}
use Rattle.audit_definitions.specs.Input.{AreLines, AreReportLines, lines_of}
use Rattle.layer_laws.proofs.Lists.{Inside, every_chosen}
use Rattle.mesh_base.specs.IvState.{transmit_of}
use Rattle.mesh_base.specs.declared.iv_state.IvStep.TheVariants as I
use Rattle.mesh_types.specs.declared.answers.Answer.{Answer}
use Rattle.mesh_types.specs.declared.answers.Answer.TheVariants as A
use Rattle.mesh_types.specs.declared.events.Event.{Event}
use Rattle.mesh_types.specs.declared.report.ReportLine.{ReportLine}
use Rattle.mesh_types.specs.declared.report.ReportLine.TheVariants as L
use Rattle.report_definitions.specs.Report.{answer_text, line_text, lives_lines, report_text, words_text}
use Rattle.report_reader.specs.ReportLine.{IsTold}
use Rattle.script_definitions.specs.Events.{event_on, happening_of}
use Rattle.script_definitions.specs.Ranges.{IsLine}
use Rattle.script_definitions.specs.declared.kind.Grammar.{Grammar}
use Rattle.script_definitions.specs.declared.line.ScriptLine.{ScriptLine}
use Rattle.script_definitions.specs.declared.line.ScriptLine.TheVariants as C
use Rattle.script_definitions.specs.declared.line.ScriptNet.{ScriptNet}
use Rattle.audit_laws.specs.Laws.{NamesElement}
use Rattle.audit_laws.specs.Reading.{LivesNameElements, ReportsAreRead, answer_as_told, as_told}
use Rattle.audit_laws.proofs.Lines.{lines_behind, report_lines}

-- The text of a line tells no more.

answer_told : (a : Answer) → answer_text (answer_as_told a) ≡ answer_text a
unfolding answer_text
answer_told (A.Beacon index key (I.Ignore rule)) = refl
answer_told (A.Beacon index key (I.Begin to)) = refl
answer_told (A.Beacon index key (I.Finish to)) = refl
answer_told (A.Beacon index key (I.Recover to)) = refl
answer_told (A.Beacon index key I.Wait) = refl
answer_told _ = refl

text_told : (x : ReportLine) → line_text (as_told x) ≡ line_text x
unfolding words_text transmit_of
text_told (L.Opened life state mark) = refl
text_told (L.WasReset life) = refl
text_told (L.CutAtStart life) = refl
text_told (L.Entry at bearer number kind answer) = rw (answer_told answer) refl
text_told (L.Sent bearer entry job outcome hex) = refl
text_told L.End = refl
text_told (L.Cut calls) = refl

all_told : (xs : List ReportLine) → Every (λ x. IsTold (as_told x)) xs → AreReportLines (map line_text xs) (map as_told xs)
all_told [] h = tt
all_told (x ∷ xs) h = (record { told = h.0; text = text_told x }, all_told xs h.1)

-- lines of keys, and then lines of a report
joined : (room : ℕ) (ks ts : List (List ℕ)) (nets : List ScriptNet) (lines : List ReportLine) → AreLines room ks nets [] → AreReportLines ts lines → AreLines room (ks ++ ts) nets lines
joined room [] ts [] lines h k = k
joined room (x ∷ xs) ts [] lines h k = absurd h
joined zero ks ts (n ∷ nets) lines h k = absurd h
joined (suc room) [] ts (n ∷ nets) lines h k = absurd h
joined (suc room) (x ∷ xs) ts (n ∷ nets) lines h k = (h.0, joined room xs ts nets lines h.1 k)

pub reports_read : ReportsAreRead
reports_read r h keys nets front =
    let xs : List ReportLine = lives_lines true 1 r.lives in
    let cut : lines_of (keys ++ report_text r true) ≡ lines_of keys ++ map line_text xs = lines_behind keys (report_text r true) nets front ∙ ap (λ (l : List (List ℕ)). lines_of keys ++ l) (report_lines xs) in
    subst (λ (l : List (List ℕ)). AreLines 16 l nets (map as_told xs)) (sym cut)
    (joined 16 (lines_of keys) (map line_text xs) nets (map as_told xs) front (all_told xs (recursion_from_All (λ x. IsTold (as_told x)) xs h)))

-- What a script asks.

on_bearer : (elements : ℕ) (event : Event) (t : Bool) → NamesElement elements event → Inside (NamesElement elements) (if t then Some event else None)
on_bearer elements event true h = h
on_bearer elements event false h = tt

line_names : (g : Grammar) (elements k : ℕ) (line : ScriptLine) → IsLine g elements line → Inside (NamesElement elements) (event_on k (happening_of line))
line_names g elements k (C.Net bearer octets) h = on_bearer elements _ (bearer == k) tt
line_names g elements k (C.Bcn bearer octets) h = on_bearer elements _ (bearer == k) tt
line_names g elements k (C.Peer bearer peer) h = on_bearer elements _ (bearer == k) tt
line_names g elements k (C.Talk bearer talk) h = on_bearer elements _ (bearer == k) tt
line_names g elements k (C.Beacon bearer beacon) h = on_bearer elements _ (bearer == k) tt
line_names g elements k (C.Send bearer send) h = on_bearer elements _ (bearer == k) h.1.element
line_names g elements k (C.Raw bearer raw) h = on_bearer elements _ (bearer == k) tt
line_names g elements k (C.Tick bearer ticks) h = on_bearer elements _ (bearer == k) tt
line_names g elements k C.Sync h = tt
line_names g elements k (C.Arm arm) h = tt
line_names g elements k (C.Seek bearer) h = on_bearer elements _ (bearer == k) tt
line_names g elements k (C.Poll bearer) h = on_bearer elements _ (bearer == k) tt
line_names g elements k (C.List bearer address) h = on_bearer elements _ (bearer == k) tt

pub lives_name : LivesNameElements
lives_name g elements life h k =
    All-from_recursion (NamesElement elements) _
    (every_chosen (IsLine g elements) (NamesElement elements) (λ line. event_on k (happening_of line)) (line_names g elements k) life (recursion_from_All (IsLine g elements) life h.lines))
