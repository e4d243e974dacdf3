-- What a node that was run left.
use Rattle.std.specs.Prelude.{◌≡◌, ◌≢◌, ◌⊎◌, ℕ, Bool, true, false, Option}
use Rattle.event_definitions.specs.Role.{node_role}
use Rattle.flash_model.specs.Chip.{Chip}
use Rattle.live_node.specs.Ends.{EndsAs, IsClosedBy, IsErrorsCause, IsSourceCause}
use Rattle.live_node.specs.Lived.{LivedOut, StreamsAt}
use Rattle.live_node.specs.declared.status.Status.{Status}
use Rattle.live_node.specs.declared.status.Status.TheVariants as S
use Rattle.machine_contract.specs.Opening.{found_of}
use Rattle.mesh_machine.specs.Machine.{Stands, shown}
use Rattle.mesh_node.specs.Given.{Stood}
use Rattle.node_file.specs.declared.faults.OpenFault.{OpenFault}
use Rattle.node_file.specs.declared.faults.OpenFault.TheVariants as faults
use Rattle.node_layers.specs.NodeLayers.{node_layers}
use Rattle.node_store.specs.Tie.{IsNode}
use Rattle.report_writer.specs.Writing.{SinkView}
use Rattle.meshnoded.specs.declared.failure.Failure.{Failure}
use Rattle.meshnoded.specs.declared.failure.Failure.TheVariants as failures

-- how a life that ended so is answered, whose flash failed or didn't
abbrev pub IsAnswerOf : Status → Bool → Failure → Type 0
IsAnswerOf status closed (failures.Life told) =
    (told ≡ status) × (status ≢ S.Done) × ((status ≡ S.Cut) ⊎ (closed ≡ false))
IsAnswerOf status closed (failures.LifeAndFlash told) =
    (told ≡ status) × (status ≢ S.Done) × (status ≢ S.Cut) × (closed ≡ true)
IsAnswerOf status closed _ = ⊥

module _ {F : Type 0} (chip : F → Chip) (opens : Chip → Type 0) (hex : Bool) (bearers : ℕ) (clocked : Bool) (from to : StreamsAt) (before after : SinkView) where
  -- The file was opened, and a life of its node was run to the end of the source: its whole report was written.
  pub record HasRun : Type 0 where
    pub start : F
    pub opened : opens (chip start)
    pub flash : F
    pub lived : LivedOut (Stood shown (Stands (found_of (chip start))) chip flash) (node_role node_layers) IsNode hex bearers clocked (chip start) (chip flash) from to before after
    -- no read failed, and nothing that is told of wrong lines
    pub no_source_fault : to.source_faults ≡ from.source_faults
    pub no_errors_fault : to.sink_faults ≡ from.sink_faults

  -- The file was opened, and a life of its node ended so: what it left is what `run_node` says of this status.
  pub record HasEnded (status : Status) (closed : Bool) : Type 0 where
    pub start : F
    pub opened : opens (chip start)
    pub flash : Option F
    pub ends : EndsAs (node_role node_layers) IsNode hex bearers clocked (chip start) from to before after chip (Stood shown (Stands (found_of (chip start))) chip) status closed flash
    -- whether the flash failed, and which stream
    pub closed_by : IsClosedBy status closed
    pub source_cause : IsSourceCause status from.source_faults to.source_faults
    pub errors_cause : IsErrorsCause status from.sink_faults to.sink_faults

module _ {F : Type 0} (chip : F → Chip) (opens : Chip → Type 0) (hex : Bool) (bearers : ℕ) (clocked : Bool) (from to : StreamsAt) (before after : SinkView) (refuses : OpenFault → Type 0) where
  -- Why a node wasn't run to the end of its source. Its file wasn't opened, for this fault, or there was no memory to open it; then nothing was
  -- read or written. Or its life ended so.
  abbrev pub IsNotRun : Failure → Type 0
  IsNotRun (failures.Open fault) = refuses fault × (to ≡ from) × (after ≡ before)
  IsNotRun failures.Memory = refuses faults.Memory × (to ≡ from) × (after ≡ before)
  IsNotRun (failures.Life status) =
      (closed : Bool) × IsAnswerOf status closed (failures.Life status) × HasEnded chip opens hex bearers clocked from to before after status closed
  IsNotRun (failures.LifeAndFlash status) =
      (closed : Bool) × IsAnswerOf status closed (failures.LifeAndFlash status) × HasEnded chip opens hex bearers clocked from to before after status closed
  IsNotRun _ = ⊥
