-- What was told of the lives of a run is neither a nonce used twice nor a message accepted twice.
use Rattle.std.proofs.Common.{◌≡◌, ◌∙◌, ℕ, ◌+◌, true, List, [], ◌∷◌, ◌++◌, map, ap, subst}
use Rattle.std.specs.List.{flat_map}
use Rattle.std.proofs.lemmas.List.Sorted.{IsPermutation-append, IsPermutation-refl, IsPermutation-trans}
use Rattle.audit_definitions.specs.Input.{AreLines, AreReportLines, IsInput, lines_of}
use Rattle.audit_laws.proofs.Lines.{behind_keys, lines_behind, report_lines}
use Rattle.audit_laws.proofs.Runs.{SafeLines, run_lines}
use Rattle.audit_laws.proofs.Sound.{none_wrong, verdict_wrong}
use Rattle.audit_laws.specs.Laws.{SendOwn}
use Rattle.event_definitions.specs.Layers.{Layers}
use Rattle.event_definitions.specs.Role.{node_role}
use Rattle.event_definitions.specs.Safe.{AreSafe}
use Rattle.flash_model.specs.Chip.{Chip}
use Rattle.mesh_types.specs.declared.report.ReportLine.{ReportLine}
use Rattle.report_definitions.specs.Record.{LifeOver}
use Rattle.report_definitions.specs.Report.{life_lines, line_text, lives_lines}
use Rattle.run_definitions.specs.Uses.{node_of}
use Rattle.script_definitions.specs.declared.line.ScriptNet.{ScriptNet}
use Rattle.store_definitions.specs.Config.{Config}
use Rattle.process_laws.specs.Laws.{AreProcessesSafe, OutputVerdictsAreSafe, OutputsAreSafe}
use Rattle.process_laws.specs.Outputs.{AreSomeOf, AreToldOf, Output, lines_put}
use Rattle.process_laws.specs.Processes.{run_of, script_of}
use Rattle.process_laws.proofs.Alike.{AreSame, safe_same, safe_some, same_append, same_life}
use Rattle.process_laws.proofs.Reordered.{middle_swap}
use Rattle.process_laws.proofs.Running.{processes_run}

-- the reports of lives, each with its own number, with the octets of network PDUs or without
abbrev reports_of : List Output → List LifeOver → List ReportLine
reports_of [] xs = []
reports_of (o ∷ os) [] = []
reports_of (o ∷ os) (x ∷ xs) = life_lines o.hex o.number x.life ++ reports_of os xs

same_lives : (own : Config) (n : ℕ) (os : List Output) (xs : List LifeOver) → AreToldOf os xs → AreSame own (lives_lines true n xs) (reports_of os xs)
unfolding lives_lines
same_lives own n [] [] h = tt
same_lives own n [] (x ∷ xs) h = absurd h
same_lives own n (o ∷ os) [] h = absurd h
same_lives own n (o ∷ os) (x ∷ xs) h =
    same_append own (life_lines true n x.life) (life_lines o.hex o.number x.life) (lives_lines true (n + 1) xs) (reports_of os xs)
    (same_life own true o.hex n o.number x.life) (same_lives own (n + 1) os xs h.1)

some_append : {A : Type 0} (xs ys us vs : List A) → AreSomeOf xs ys → AreSomeOf us vs → AreSomeOf (xs ++ us) (ys ++ vs)
some_append xs ys us vs h k = (
  h.0 ++ k.0,
  IsPermutation-trans ((xs ++ us) ++ (h.0 ++ k.0)) ((xs ++ h.0) ++ (us ++ k.0)) (ys ++ vs) (middle_swap xs us h.0 k.0)
      (IsPermutation-append (xs ++ h.0) ys (us ++ k.0) vs h.1 k.1),
)

some_put : (os : List Output) (xs : List LifeOver) → AreToldOf os xs → AreSomeOf (lines_put os) (reports_of os xs)
some_put [] [] h = ([], IsPermutation-refl [])
some_put [] (x ∷ xs) h = absurd h
some_put (o ∷ os) [] h = absurd h
some_put (o ∷ os) (x ∷ xs) h = some_append o.lines (life_lines o.hex o.number x.life) (lines_put os) (reports_of os xs) h.0 (some_put os xs h.1)

-- the lines that the text of keys and of report lines is read as
read_put : (keys : List ℕ) (nets ns : List ScriptNet) (written lines : List ReportLine) → IsInput keys nets [] → IsInput (keys ++ flat_map line_text written) ns lines
    → AreReportLines (map line_text written) lines
read_put keys nets ns written lines h k =
    let cut : lines_of (keys ++ flat_map line_text written) ≡ lines_of keys ++ map line_text written =
    lines_behind keys (flat_map line_text written) nets h ∙ ap (λ (l : List (List ℕ)). lines_of keys ++ l) (report_lines written) in
    behind_keys 16 (lines_of keys) written nets ns lines h (subst (λ (l : List (List ℕ)). AreLines 16 l ns lines) cut k)

pub outputs_safe : OutputsAreSafe
outputs_safe layers safe sends s r asks run outputs told keys nets front given lines input v h =
    let own : Config = node_of r in
    let written : List ReportLine = lines_put outputs in
    let reports : SafeLines own (reports_of outputs r.lives) =
    safe_same own (lives_lines true 1 r.lives) (reports_of outputs r.lives) (same_lives own 1 outputs r.lives told) (run_lines layers safe sends s r asks run true) in
    none_wrong own written lines (safe_some own written (reports_of outputs r.lives) (some_put outputs r.lives told) reports)
    (read_put keys nets given written lines front input) given v h

pub verdicts_safe : OutputVerdictsAreSafe
verdicts_safe layers safe sends s r asks run outputs told keys nets front v h =
    verdict_wrong h.nets h.lines (outputs_safe layers safe sends s r asks run outputs told keys nets front h.nets h.lines h.input) v h.verdict

pub processes_safe : (layers : Layers) → AreSafe layers → SendOwn layers → {F : Type 0} (chip : F → Chip) → AreProcessesSafe layers chip
processes_safe layers safe sends chip node start ps led asks image last is read outputs told keys nets front v h =
    verdicts_safe layers safe sends (script_of node ps) (run_of ps last) asks (processes_run (node_role layers) chip node start ps led image last is read) outputs told keys nets front v h
