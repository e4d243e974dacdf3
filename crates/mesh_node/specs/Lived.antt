-- A life whose phases came from a source and were told to a sink, phase by phase.
use Rattle.std.specs.Prelude.{◌≡◌, ℕ, ◌<◌, ◌≤◌, Bool, true, false, List, [], ◌++◌, length, map, All}
use Rattle.flash_model.specs.Chip.{Chip}
use Rattle.mesh_types.specs.declared.events.Event.{Event}
use Rattle.mesh_types.specs.declared.history.Entry.{Entry}
use Rattle.mesh_types.specs.declared.report.End.{End}
use Rattle.mesh_types.specs.declared.report.Opened.TheVariants as W
use Rattle.machine_contract.specs.Moved.{HasMoved}
use Rattle.machine_contract.specs.Opening.{EachRecovered, IsNodeFlash, found_of}
use Rattle.machine_contract.specs.Standing.{IsLifeSoFar}
use Rattle.record_types.specs.declared.records.StoreRecord.{StoreRecord}
use Rattle.report_definitions.specs.Record.{Life, list_at}
use Rattle.event_definitions.specs.Handling.{AreHandled}
use Rattle.event_definitions.specs.History.{Told}
use Rattle.event_definitions.specs.Role.{Role}
use Rattle.run_definitions.specs.Order.{is_cut, phase}
use Rattle.run_definitions.specs.RunOf.{LifeOf}
use Rattle.seq_word.specs.Seen.{ClosedView, DrawerView}
use Rattle.store_definitions.specs.Config.{config_of}
use Rattle.store_definitions.specs.Recovered.{IsRecovered}
use Rattle.life_laws.specs.Hands.{HoldsNext}
use Rattle.life_laws.specs.Pairs.{IsFromMove, IsUntilMove}
use Rattle.locked_node.specs.Node.{NodeView}
use Rattle.locked_node.specs.Stands.{IsLater}
use Rattle.machine_contract.specs.View.{MachineView}
use Rattle.mesh_node.specs.Drawn.{TellsWords}
use Rattle.mesh_node.specs.Due.{AreDue}
use Rattle.mesh_node.specs.Going.{AreTold, IsGoing, IsOver}
use Rattle.mesh_node.specs.Lives.{IsPrintable}
use Rattle.mesh_node.specs.declared.told.LastStep.{LastStep}
use Rattle.life_laws.specs.Phases.{PhasesDone}
use Rattle.mesh_node.specs.Timed.{IsTimed}
use Rattle.mesh_node.specs.Told.{ArePlaced, AreToldEach, BySteps, GivesEach, HasGiven, HasTaken, IsClosedAt, PhaseDid, SinkSteps, SourceSteps, entries_told, part_told, sends_told}

module _ {F S T : Type 0} (IsDue : List Entry → ℕ → Type 0) (source : SourceSteps S) (sink : SinkSteps T) (from to : S) (began now : T) (bearers : ℕ) (node : NodeView F) (d : DrawerView) where
  -- A life as far as it is: its phases came from the source, and the sink took what each did. Before its first phase nothing is asked of the
  -- flash that it was opened with.
  pub record IsUnderWay (opened : F) (counts : List ℕ) : Type 0 where
    pub phases : List (List (List Event))
    pub did : List PhaseDid
    pub dues : List ℕ
    pub gave : GivesEach source bearers node.machine.elements from dues phases to
    -- what the source was told for each phase was due behind the phases before it
    pub due : AreDue IsDue [] dues did
    pub took : BySteps sink.takes began did now
    pub going : IsGoing phases node d (sends_told bearers did) counts
    pub told : AreTold (entries_told did) node
    pub placed : ArePlaced 0 did
    pub count : length did ≡ length phases
    pub each : PhasesDone phases (map part_told did)
    pub idle : phases ≡ [] → node.flash ≡ opened

  -- all that became of it, up to its last step
  pub record WentOn (opened : F) (last : LastStep) (closed : Bool) : Type 0 where
    pub phases : List (List (List Event))
    pub did : List PhaseDid
    pub dues : List ℕ
    pub gave : HasGiven source bearers node.machine.elements last from dues phases to
    pub due : AreDue IsDue [] dues did
    pub took : HasTaken sink last began did now
    pub over : IsOver phases node d (sends_told bearers did)
    pub told : AreTold (entries_told did) node
    pub placed : ArePlaced 0 did
    pub each : AreToldEach closed phases did
    pub many : length (sends_told bearers did) ≡ bearers
    pub end : IsClosedAt last closed
    pub idle : phases ≡ [] → node.flash ≡ opened

-- the life in which these phases did this
abbrev pub life_told : List StoreRecord → ℕ → ℕ → List PhaseDid → End → Life
life_told over bearers refills did end = record {
  opened = W.On (config_of over).iv (config_of over).mark;
  entries = entries_told did;
  refills = refills;
  sends = sends_told bearers did;
  end = end;
}

-- a life of these phases, over these records: it leaves this, whatever an image of the flash recovers
pub record IsLifeTold (role : Role) (phases : List (List (List Event))) (over : List StoreRecord) (l : Life) (new : Chip) (words : ClosedView) : Type 0 where
  pub life : EachRecovered new (λ next. LifeOf role (map phase phases) over l next)
  pub printable : IsPrintable l
  pub drawn : TellsWords l words

-- what is told of a life is all that the machine handled which stands over its records at the end, and it is closed exactly where the life is cut
pub record IsAllTold (Stood : List StoreRecord → MachineView → Type 0) (over : List StoreRecord) (did : List PhaseDid)
    (refills : ℕ) (closed : Bool) : Type 0 where
  pub machine : MachineView
  pub stood : Stood over machine
  pub entries : machine.entries ≡ entries_told did
  pub fills : machine.fills ≡ refills
  pub is_closed : machine.closed ≡ closed

module _ {S T : Type 0} (Stood : List StoreRecord → MachineView → Type 0) (role : Role) (image : List ℕ → Type 0) (IsDue : List Entry → ℕ → Type 0) (source : SourceSteps S) (sink : SinkSteps T) (since to : S) (began now : T) (bearers : ℕ) where
  -- The life that opened over what the flash recovered at its beginning. It is cut where the flash failed in it, and only
  -- where it failed since its power was cycled.
  pub record LivedOn {F : Type 0} (start new : Chip) (opened left : F) (refills : ℕ) (drawn : ClosedView) (closed : Bool) (last : LastStep) : Type 0 where
    pub phases : List (List (List Event))
    pub did : List PhaseDid
    pub over : List StoreRecord
    pub recovered : IsRecovered start.now over
    pub dues : List ℕ
    -- what it asked the source for were phases of its bearers, of a node with its elements
    pub gave : HasGiven source bearers (config_of over).elements last since dues phases to
    -- what it told the source each time was due behind the entries of the phases before
    pub due : AreDue IsDue [] dues did
    pub took : HasTaken sink last began did now
    pub placed : ArePlaced 0 did
    pub each : AreToldEach closed phases did
    pub end : IsClosedAt last closed
    -- without a phase the flash that it was opened with is left, of which nothing was asked (of a held life: the one that it had as it was closed)
    pub idle : phases ≡ [] → left ≡ opened
    pub life : (end : End) → is_cut end ≡ closed
        → IsLifeTold role phases over (life_told over bearers refills did end) new drawn
    pub node : IsNodeFlash image new
    pub later : IsLater start new
    pub cause : closed ≡ true → new.setting.faults < new.faults
    pub no_fault : closed ≡ false → new.faults ≡ start.faults
    pub all : IsAllTold Stood over did refills closed
    -- since its beginning the flash had at most the program and erase calls that the records cost which were stored or in hand, and a migration
    pub paid : IsLifeSoFar role image (found_of start) new over all.machine
    -- where it wasn't cut, the counter was moved with each record that raised the transmit IV Index, and at no other time
    pub moved : closed ≡ false → HasMoved role over (entries_told did) refills drawn.advances
    -- no line draws a word, or tells the end of an IV Index, below where the counter had been moved to behind its entry (`moves` of `paid`)
    pub from : All (All (IsFromMove (entries_told did) all.machine.moves)) (sends_told bearers did)
    -- nor does one draw a word at or above where it was moved to with a later event from outside of its bearer
    pub until : (k : ℕ) → All (IsUntilMove k (entries_told did) all.machine.moves) (list_at (sends_told bearers did) k)
    -- and what each line draws lies between where the counter was behind its entry, and behind the entries that come behind it
    pub timed : IsTimed closed phases (config_of over).mark (entries_told did) all.machine.moves (sends_told bearers did)
    -- an event from outside that its machine has in hand comes behind all lines of its bearer's events before
    pub hand : HoldsNext phases (entries_told did) (sends_told bearers did) all.machine

module _ {S T : Type 0} (role : Role) (IsDue : List Entry → ℕ → Type 0) (source : SourceSteps S) (sink : SinkSteps T) (from to : S) (began now : T) (bearers : ℕ) where
  -- A life that memory ran out in. The phases that were through were told, each once it was, and they are those of a life that opened over
  -- what the flash recovered at its beginning. One phase more may have come, of which nothing was told.
  pub record FellShort (start : Chip) : Type 0 where
    pub phases : List (List (List Event))
    pub in_hand : List (List (List Event))
    pub one : length in_hand ≤ 1
    pub did : List PhaseDid
    pub over : List StoreRecord
    pub recovered : IsRecovered start.now over
    pub dues : List ℕ
    pub gave : GivesEach source bearers (config_of over).elements from dues (phases ++ in_hand) to
    pub due : AreDue IsDue [] dues did
    pub took : BySteps sink.takes began did now
    pub placed : ArePlaced 0 did
    pub each : AreToldEach false phases did
    pub told : List Told
    pub entries : map (λ t. t.entry) told ≡ entries_told did
    pub handled : AreHandled role over [] told
