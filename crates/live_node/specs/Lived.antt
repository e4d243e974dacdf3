-- What the life of a node leaves, whose phases are lines and whose report is written phase by phase.
use Rattle.std.specs.Prelude.{◌≡◌, ◌⊎◌, ℕ, ◌<◌, ◌≤◌, true, false, if◌then◌else◌, All, Bool, List, [], ◌∷◌, ◌++◌, length, map, Option}
use Rattle.flash_model.specs.Arming.{ReadsAtMost}
use Rattle.flash_model.specs.Chip.{Chip, Keeps}
use Rattle.mesh_types.specs.declared.events.Event.{Event}
use Rattle.mesh_types.specs.declared.report.End.{End}
use Rattle.mesh_types.specs.declared.report.End.TheVariants as E
use Rattle.mesh_types.specs.declared.report.Opened.{Opened}
use Rattle.mesh_types.specs.declared.report.Opened.TheVariants as W
use Rattle.mesh_types.specs.declared.report.ReportLine.{ReportLine}
use Rattle.life_laws.specs.Hands.{HoldsNext}
use Rattle.life_laws.specs.Pairs.{IsFromMove, IsUntilMove}
use Rattle.machine_contract.specs.Moved.{HasMoved}
use Rattle.machine_contract.specs.Opening.{IsNodeFlash, IsUnwritten, MigratesOnly, found_of}
use Rattle.machine_contract.specs.Refused.{IsUntouched, WasReset}
use Rattle.machine_contract.specs.Standing.{IsLifeSoFar, IsSameFlash}
use Rattle.machine_contract.specs.View.{MachineView}
use Rattle.record_types.specs.declared.records.StoreRecord.{StoreRecord}
use Rattle.event_definitions.specs.Handling.{AreHandled}
use Rattle.event_definitions.specs.History.{Told}
use Rattle.event_definitions.specs.Role.{Role}
use Rattle.report_definitions.specs.Report.{end_lines, opened_line}
use Rattle.report_definitions.specs.Record.{list_at}
use Rattle.run_definitions.specs.Order.{is_cut}
use Rattle.seq_word.specs.Seen.{ClosedView}
use Rattle.store_definitions.specs.Config.{config_of}
use Rattle.store_definitions.specs.Recovered.{IsRecovered}
use Rattle.store_definitions.specs.Wear.{MOUNT_READS}
use Rattle.locked_node.specs.Stands.{IsLater}
use Rattle.mesh_node.specs.Lived.{IsAllTold, IsLifeTold, life_told}
use Rattle.mesh_node.specs.Timed.{IsTimed}
use Rattle.mesh_node.specs.Told.{ArePlaced, AreToldEach, BySteps, PhaseDid, entries_told, sends_told}
use Rattle.node_bearer.specs.Did.{AreEvents}
use Rattle.live_lines.specs.Moves.{LinesAt}
use Rattle.live_lines.specs.Steps.{Ends, Fails, GivesPhase}
use Rattle.live_lines.specs.declared.lines.LineStop.{LineStop}
use Rattle.live_lines.specs.declared.lines.LineStop.TheVariants as L
use Rattle.live_report.specs.Lines.{did_lines, phases_lines, told_lines}
use Rattle.report_writer.specs.Writing.{SinkView, Written, WrittenFront, view_of}
use Rattle.live_node.specs.declared.status.Streams.{Streams}

-- The streams of lines, before a life and after it: the octets that the source still gives and what the sink of wrong lines tells, where they are
-- told; how many of their calls failed; and how many ticks the source told.
pub record StreamsAt : Type 0 where
  pub left : Option (List ℕ)
  pub told : SinkView
  pub source_faults : ℕ
  pub sink_faults : ℕ
  pub time : ℕ

abbrev pub streams_of : LinesAt → StreamsAt
streams_of at =
    record { left = at.left; told = at.told; source_faults = at.source_faults; sink_faults = at.sink_faults; time = at.time }

-- where lines begin: nothing was read yet
abbrev pub begun : StreamsAt → LinesAt
begun at = record {
  left = at.left;
  held = [];
  number = 0;
  told = at.told;
  source_faults = at.source_faults;
  sink_faults = at.sink_faults;
  time = at.time;
}

abbrev pub streams_at : {S E K : Type 0} → (S → Option (List ℕ)) → (S → ℕ) → (S → ℕ) → (E → Option (List ℕ)) → (E → Option (List (List ℕ)))
    → (E → ℕ) → Streams S E K → StreamsAt
streams_at left source_faults time held pieces sink_faults streams = record {
  left = left streams.source;
  told = view_of held pieces streams.errors;
  source_faults = source_faults streams.source;
  sink_faults = sink_faults streams.errors;
  time = time streams.source;
}

-- A phase that the next line is which says an event; where the source tells time, time that passed is one too.
abbrev pub by_line : ℕ → ℕ → Bool → LinesAt → List (List Event) → LinesAt → Type 0
by_line bearers elements clocked old lists new = GivesPhase bearers elements clocked lists old new

-- How the lines of a source go on behind the last phase of a life, of a node with so many bearers and elements, where the source tells time or not.
abbrev pub GoesOn : Type 1
GoesOn = ℕ → ℕ → Bool → LinesAt → LinesAt → Type 0

-- it came to its end
abbrev pub at_end : GoesOn
at_end bearers elements clocked old new = Ends bearers elements old new

-- it wasn't asked for one
abbrev pub unasked : GoesOn
unasked bearers elements clocked old new = new ≡ old

-- it failed, by this cause
abbrev pub failed : LineStop → GoesOn
failed why bearers elements clocked old new = Fails bearers elements clocked why old new

-- no stream failed
abbrev pub is_no_fault : LineStop → Bool
is_no_fault L.Source = false
is_no_fault L.Errors = false
is_no_fault _ = true

-- it gave no phase though no stream failed: memory ran out, or it made all moves that a call may make
abbrev pub unended : GoesOn
unended bearers elements clocked old new = (why : LineStop) × (is_no_fault why ≡ true) × Fails bearers elements clocked why old new

-- what was written of a life that opened so and whose phases did this
abbrev pub Tells : Type 1
Tells = Opened → List PhaseDid → SinkView → SinkView → Type 0

module _ (hex : Bool) where
  -- the lines of a life that ended, and of one that didn't
  abbrev pub ended_lines : Opened → List PhaseDid → List ReportLine
  ended_lines opened did = told_lines hex 1 opened did E.Ended

  abbrev pub open_lines : Opened → List PhaseDid → List ReportLine
  open_lines opened did = opened_line 1 opened ∷ phases_lines hex did

  -- all of them
  abbrev pub told_ended : Tells
  told_ended opened did before after = Written (ended_lines opened did) before after

  -- all but the line of an end
  abbrev pub told_open : Tells
  told_open opened did before after = Written (open_lines opened did) before after

  -- that, and of the line of the end a front
  abbrev pub broken_at_end : Tells
  broken_at_end opened did before after = (mid : SinkView) × told_open opened did before mid × WrittenFront (end_lines opened E.Ended) mid after

  -- The report was broken off in what the last phase did, and no phase came behind it: what all before it did was written whole, and a front of
  -- its own lines.
  pub record BrokenAtLast (opened : Opened) (did : List PhaseDid) (before after : SinkView) : Type 0 where
    pub told : List PhaseDid
    pub last : PhaseDid
    pub is : did ≡ told ++ last ∷ []
    pub mid : SinkView
    pub whole : told_open opened told before mid
    pub front : WrittenFront (did_lines hex last) mid after

  -- The same, for want of memory: nothing of what the last phase did was written.
  pub record LacksLast (opened : Opened) (did : List PhaseDid) (before after : SinkView) : Type 0 where
    pub told : List PhaseDid
    pub last : PhaseDid
    pub is : did ≡ told ++ last ∷ []
    pub whole : told_open opened told before after

-- which machines stand over records, by what they show of themselves
abbrev pub Standing : Type 1
Standing = List StoreRecord → MachineView → Type 0

module _ (Stood : Standing) (role : Role) (image : List ℕ → Type 0) (hex : Bool) (bearers : ℕ) (clocked : Bool) (start new : Chip) (from to : StreamsAt)
    (before after : SinkView) where
  -- A life was opened over what the flash recovered. Its phases are those that the lines of the source say, one after another, of events that a
  -- node with its elements may have. What was written are its lines: of all that its machine handled, to the last entry, also where the life is
  -- cut. Whatever an image of the flash recovers now, it is a life of these phases.
  pub record LivedBy (closed : Bool) (goes : GoesOn) (tells : Tells) : Type 0 where
    pub over : List StoreRecord
    pub recovered : IsRecovered start.now over
    pub phases : List (List (List Event))
    pub did : List PhaseDid
    pub mid : LinesAt
    pub said : BySteps (by_line bearers (config_of over).elements clocked) (begun from) phases mid
    pub events : All (All (AreEvents (config_of over).elements)) phases
    pub last : LinesAt
    pub goes_on : goes bearers (config_of over).elements clocked mid last
    pub streams : streams_of last ≡ to
    pub refills : ℕ
    pub drawn : ClosedView
    pub placed : ArePlaced 0 did
    pub each : AreToldEach closed phases did
    pub all : IsAllTold Stood over did refills closed
    -- since the life began the flash had at most the program and erase calls that the records cost which were stored or in hand, and a migration
    pub paid : IsLifeSoFar role image (found_of start) new over all.machine
    pub life : (end : End) → is_cut end ≡ closed → IsLifeTold role phases over (life_told over bearers refills did end) new drawn
    pub wrote : tells (W.On (config_of over).iv (config_of over).mark) did before after
    pub node : IsNodeFlash image new
    pub later : IsLater start new
    -- it was cut where the flash failed in it, and only where it failed since its power was cycled
    pub cause : closed ≡ true → new.setting.faults < new.faults
    pub no_fault : closed ≡ false → new.faults ≡ start.faults
    -- where it wasn't cut, the counter was moved with each record that raised the transmit IV Index, and at no other time
    pub moved : closed ≡ false → HasMoved role over (entries_told did) refills drawn.advances
    -- no line draws a word, or tells the end of an IV Index, below where the counter had been moved to behind its entry (`moves` of `paid`)
    pub from_moves : All (All (IsFromMove (entries_told did) all.machine.moves)) (sends_told bearers did)
    -- nor does one draw a word at or above where it was moved to with a later event from outside of its bearer
    pub until : (k : ℕ) → All (IsUntilMove k (entries_told did) all.machine.moves) (list_at (sends_told bearers did) k)
    -- and what each line draws lies between where the counter was behind its entry, and behind the entries that come behind it
    pub timed : IsTimed closed phases (config_of over).mark (entries_told did) all.machine.moves (sends_told bearers did)
    -- an event from outside that its machine has in hand comes behind all lines of its bearer's events before
    pub hand : HoldsNext phases (entries_told did) (sends_told bearers did) all.machine
    -- without a phase nothing was written but what a migration of format 01 writes
    pub writes : phases ≡ [] → MigratesOnly start new

  -- the source came to its end, and all lines of the life were written
  abbrev pub LivedOut : Type 0
  LivedOut = LivedBy false at_end (told_ended hex)

  -- the flash failed: what was written are the lines of the opening and of all phases, and none of an end
  abbrev pub WasCut : Type 0
  WasCut = LivedBy true unasked (told_open hex)

  -- the source failed, or the sink of wrong lines: the same
  abbrev pub LivedUnread : Type 0
  LivedUnread = LivedBy false (failed L.Source) (told_open hex)

  abbrev pub LivedUntold : Type 0
  LivedUntold = LivedBy false (failed L.Errors) (told_open hex)

  -- The report was broken off: in the line of the end, where the source came to its end, so never of a life that was cut; or in the lines of a
  -- phase, and that was the last. Then the source wasn't asked for one more.
  abbrev pub LivedBroken : Bool → Type 0
  LivedBroken closed = ((closed ≡ false) × LivedBy false at_end (broken_at_end hex)) ⊎ LivedBy closed unasked (BrokenAtLast hex)

  -- Memory ran out where lines were to be written: where the source came to its end all were but that of the end; else all but those of the last
  -- phase, and then the source wasn't asked for one more. Of the lines that are left nothing was written.
  abbrev pub LivedLacking : Bool → Type 0
  LivedLacking closed = ((closed ≡ false) × LivedBy false at_end (told_open hex)) ⊎ LivedBy closed unasked (LacksLast hex)

  -- the source gave no phase, though no stream failed: what was written are all lines but one of an end
  abbrev pub LivedUnfed : Type 0
  LivedUnfed = LivedBy false unended (told_open hex)

module _ (role : Role) (hex : Bool) (bearers : ℕ) (clocked : Bool) (start : Chip) (from to : StreamsAt) (before after : SinkView) where
  -- Memory ran out in a life: the lines of its opening and of the phases that were through were written, whose entries were handled in order
  -- over what the flash recovered. One phase more may have come.
  pub record LivedShort : Type 0 where
    pub over : List StoreRecord
    pub recovered : IsRecovered start.now over
    pub phases : List (List (List Event))
    pub in_hand : List (List (List Event))
    pub one : length in_hand ≤ 1
    pub did : List PhaseDid
    pub last : LinesAt
    pub said : BySteps (by_line bearers (config_of over).elements clocked) (begun from) (phases ++ in_hand) last
    pub streams : streams_of last ≡ to
    pub placed : ArePlaced 0 did
    pub each : AreToldEach false phases did
    pub told : List Told
    pub entries : map (λ t. t.entry) told ≡ entries_told did
    pub handled : AreHandled role over [] told
    pub wrote : Written (open_lines hex (W.On (config_of over).iv (config_of over).mark) did) before after

-- how a life opens over records
abbrev pub opened_over : List StoreRecord → Opened
opened_over over = if (config_of over).reset then W.WasReset else W.On (config_of over).iv (config_of over).mark

-- a front of the line of the opening was written
pub record OpeningFront (start : Chip) (before after : SinkView) : Type 0 where
  pub over : List StoreRecord
  pub recovered : IsRecovered start.now over
  pub front : WrittenFront (opened_line 1 (opened_over over) ∷ []) before after

-- The life was given up before its first phase: no line was read, and nothing was written but a front of the line of its opening. The flash
-- didn't fail, and is as it was, or recovers what it did; nothing was written to it but what a migration of format 01 writes, and where there was a
-- Node Reset nothing at all.
pub record Unopened (image : List ℕ → Type 0) (start new : Chip) (from to : StreamsAt) (before after : SinkView) : Type 0 where
  pub wrote : (after ≡ before) ⊎ OpeningFront start before after
  pub unread : to ≡ from
  pub kept : Keeps start new
  pub no_fault : new.faults ≡ start.faults
  pub untouched : IsSameFlash start new ⊎ IsUntouched image start new
  pub writes : MigratesOnly start new
  pub reset : WasReset start → IsUnwritten start new

-- There was a Node Reset: the line of that was written, and nothing else was done. The flash didn't fail, nothing was written to it, it had at most
-- the read calls of a mount, and it recovers what it did.
pub record ToldReset (image : List ℕ → Type 0) (start new : Chip) (from to : StreamsAt) (before after : SinkView) : Type 0 where
  pub reset : WasReset start
  pub wrote : Written (opened_line 1 W.WasReset ∷ []) before after
  pub unread : to ≡ from
  pub no_fault : new.faults ≡ start.faults
  pub untouched : IsUntouched image start new
  pub unwritten : IsUnwritten start new
  pub reads : ReadsAtMost MOUNT_READS start new

-- The flash failed as the life was opened: no line was read and none written, and the flash recovers what it did. Nothing was written to it but what
-- a migration of format 01 writes, and where there was a Node Reset nothing at all.
pub record FailsAtOpening (image : List ℕ → Type 0) (start new : Chip) (from to : StreamsAt) (before after : SinkView) : Type 0 where
  pub failed : start.faults < new.faults
  pub unread : to ≡ from
  pub unwritten : after ≡ before
  pub untouched : IsUntouched image start new
  pub writes : MigratesOnly start new
  pub reset : WasReset start → IsUnwritten start new
