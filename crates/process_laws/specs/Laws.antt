-- The laws over processes.
use Rattle.std.specs.Prelude.{◌≡◌, ℕ, Bool, List, [], ◌++◌, map, All, IsPermutation}
use Rattle.std.specs.List.{flat_map}
use Rattle.audit_definitions.specs.Input.{IsInput}
use Rattle.audit_definitions.specs.Verdicts.{IsVerdict, IsWrong}
use Rattle.audit_definitions.specs.declared.verdict.Verdict.{Verdict}
use Rattle.audit_laws.specs.Laws.{NamesElement, NamesElements, SendOwn, TellsNothingTwice}
use Rattle.event_definitions.specs.Layers.{Layers}
use Rattle.event_definitions.specs.Role.{Role, node_role}
use Rattle.event_definitions.specs.Safe.{AreSafe}
use Rattle.flash_model.specs.Chip.{Chip}
use Rattle.live_report.specs.Lines.{told_lines}
use Rattle.machine_contract.specs.Opening.{EachRecovered}
use Rattle.mesh_node.specs.Lived.{life_told}
use Rattle.mesh_node.specs.Told.{ArePlaced, PhaseDid}
use Rattle.mesh_types.specs.declared.events.Event.{Event}
use Rattle.mesh_types.specs.declared.report.End.{End}
use Rattle.mesh_types.specs.declared.report.ReportLine.{ReportLine}
use Rattle.node_bearer.specs.Did.{AreEvents}
use Rattle.record_types.specs.declared.records.StoreRecord.{StoreRecord}
use Rattle.report_definitions.specs.Record.{Run}
use Rattle.report_definitions.specs.Report.{life_lines, line_text}
use Rattle.run_definitions.specs.Order.{phase, phases_of}
use Rattle.run_definitions.specs.RunOf.{RunOf, Script}
use Rattle.run_definitions.specs.Uses.{AtMostOnce, NoReuse, delivered, uses}
use Rattle.script_definitions.specs.declared.line.ScriptNet.{ScriptNet}
use Rattle.store_definitions.specs.Provisioning.{Provisioning}
use Rattle.process_laws.specs.Outputs.{AreSomeOf, AreToldOf, BrokenOff, Output, text_put}
use Rattle.process_laws.specs.Processes.{Process, ProcessesOf, left_by, life_over, run_of, script_of}

-- Of lives that processes led, from provisioning on: whatever an image recovers of what the last one left.
module _ (role : Role) {F : Type 0} (chip : F → Chip) where
  -- they are a run of their plans that ends with it
  abbrev pub AreRuns : Type 0
  AreRuns = (node : Provisioning) (start : F) (ps : List (Process F)) → ProcessesOf role chip node start ps
      → EachRecovered (chip (left_by start ps)) (λ last. RunOf role (script_of node ps) (run_of ps last))

  -- no nonce of the node's own addresses seals two different plaintexts under one key, over all of them
  abbrev pub ReuseNothing : Type 0
  ReuseNothing = (node : Provisioning) (start : F) (ps : List (Process F)) → ProcessesOf role chip node start ps
      → EachRecovered (chip (left_by start ps)) (λ last. NoReuse (uses (run_of ps last)))

  -- no message is delivered twice
  abbrev pub DeliverOnce : Type 0
  DeliverOnce = (node : Provisioning) (start : F) (ps : List (Process F)) → ProcessesOf role chip node start ps
      → EachRecovered (chip (left_by start ps)) (λ last. AtMostOnce (delivered (run_of ps last)))

-- An audit of what was told of the lives of a run. Take any script whose `send` lines name elements, any run of it, and of each life some lines of
-- its report, in whatever order; put these lines behind one another, and any lines of keys in front. Of the lines that this text is read as no
-- two use a nonce twice, and no two accept one message.
abbrev pub AreOutputsSafe : Layers → Type 0
AreOutputsSafe layers =
    (s : Script) (r : Run) → NamesElements s → RunOf (node_role layers) s r
    → (outputs : List Output) → AreToldOf outputs r.lives
    → (keys : List ℕ) (nets : List ScriptNet) → IsInput keys nets []
    → (given : List ScriptNet) (lines : List ReportLine) → IsInput (keys ++ text_put outputs) given lines
    → (v : Verdict) → IsWrong given lines v → TellsNothingTwice v

-- so no verdict of an audit on this text is one of the two
abbrev pub AreOutputVerdictsSafe : Layers → Type 0
AreOutputVerdictsSafe layers =
    (s : Script) (r : Run) → NamesElements s → RunOf (node_role layers) s r
    → (outputs : List Output) → AreToldOf outputs r.lives
    → (keys : List ℕ) (nets : List ScriptNet) → IsInput keys nets []
    → (v : Verdict) → IsVerdict (keys ++ text_put outputs) v → TellsNothingTwice v

-- of all safe layers that send from an element alone
abbrev pub OutputsAreSafe : Type 0
OutputsAreSafe = (layers : Layers) → AreSafe layers → SendOwn layers → AreOutputsSafe layers

abbrev pub OutputVerdictsAreSafe : Type 0
OutputVerdictsAreSafe = (layers : Layers) → AreSafe layers → SendOwn layers → AreOutputVerdictsSafe layers

-- Nor is one on what processes told of their lives, put behind one another, if an image of what the last one left is recovered.
abbrev pub AreProcessesSafe : Layers → {F : Type 0} → (F → Chip) → Type 0
AreProcessesSafe layers {F} chip =
    (node : Provisioning) (start : F) (ps : List (Process F)) → ProcessesOf (node_role layers) chip node start ps
    → NamesElements (script_of node ps)
    → EachRecovered (chip (left_by start ps)) (λ last. (outputs : List Output) → AreToldOf outputs (map life_over ps)
    → (keys : List ℕ) (nets : List ScriptNet) → IsInput keys nets []
    → (v : Verdict) → IsVerdict (keys ++ text_put outputs) v → TellsNothingTwice v)

-- The lines of a life that is told phase by phase are those of its report, in another order.
abbrev pub PhasesAreReordered : Type 0
PhasesAreReordered =
    (hex : Bool) (n : ℕ) (over : List StoreRecord) (bearers refills : ℕ) (did : List PhaseDid) (end : End) → ArePlaced 0 did
    → IsPermutation (told_lines hex n (life_told over bearers refills did end).opened did end)
    (life_lines hex n (life_told over bearers refills did end))

-- So wherever its text is broken off, the lines that stand in it whole are some of its report's.
abbrev pub BrokenOffAreSome : Type 0
BrokenOffAreSome =
    (hex : Bool) (n : ℕ) (over : List StoreRecord) (bearers refills : ℕ) (did : List PhaseDid) (end : End) → ArePlaced 0 did
    → (text rest : List ℕ)
    → flat_map line_text (told_lines hex n (life_told over bearers refills did end).opened did end) ≡ text ++ rest
    → (b : BrokenOff (told_lines hex n (life_told over bearers refills did end).opened did end) text)
    × AreSomeOf b.whole (life_lines hex n (life_told over bearers refills did end))

-- What a source of phases gives names elements of its node. (What it gives a node with so many elements is `AreEvents`, by the clause `events`.)
abbrev pub EventsNameElements : Type 0
EventsNameElements =
    (elements : ℕ) (phases : List (List (List Event))) → All (All (AreEvents elements)) phases
    → All (λ phase. All (λ events. All (NamesElement elements) events) phase) (phases_of (map phase phases))
