-- A node that was run, where the life of its flash was lived out.
use Rattle.std.proofs.Common.{◌≡◌, ℕ, Bool, Option, Some, None, Result, Ok, Err, IfErr, sym, subst}
use Rattle.std.specs.Prelude.{IsSomeAnd, OnOk}
use Rattle.event_definitions.specs.Role.{node_role}
use Rattle.flash_model.specs.Chip.{Chip}
use Rattle.live_node.specs.Ends.{IsErrorsCause, IsSourceCause}
use Rattle.live_node.specs.Lived.{LivedOut, StreamsAt}
use Rattle.machine_contract.specs.Opening.{found_of}
use Rattle.mesh_machine.specs.Machine.{Stands, shown}
use Rattle.mesh_node.specs.Given.{Stood}
use Rattle.node_layers.specs.NodeLayers.{node_layers}
use Rattle.node_store.specs.Tie.{IsNode}
use Rattle.report_writer.specs.Writing.{SinkView}
use Rattle.live_node.specs.declared.status.Status.{Status}
use Rattle.live_node.specs.declared.status.Status.TheVariants as S
use Rattle.node_file.specs.declared.faults.OpenFault.{OpenFault}
use Rattle.node_file.specs.declared.faults.OpenFault.TheVariants as O
use Rattle.meshnoded.specs.Failing.{open_failure}
use Rattle.meshnoded.specs.Running.{HasEnded, HasRun, IsAnswerOf, IsNotRun}
use Rattle.meshnoded.specs.declared.failure.Failure.{Failure}
use Rattle.meshnoded.specs.declared.failure.Failure.TheVariants as failures

module _ {F : Type 0} (chip : F → Chip) (opens : Chip → Type 0) (start : F) (opened : opens (chip start)) (hex : Bool) (bearers : ℕ) (clocked : Bool)
    (from to : StreamsAt) (before after : SinkView) where
  -- the flash that was handed back is one that the life left
  abbrev Left : Option F → Type 0
  Left flash = IsSomeAnd flash
      (λ f. LivedOut (Stood shown (Stands (found_of (chip start))) chip f) (node_role node_layers) IsNode hex bearers clocked (chip start) (chip f) from to before after)

  has_run : (flash : Option F) → Left flash → to.source_faults ≡ from.source_faults → to.sink_faults ≡ from.sink_faults
      → HasRun chip opens hex bearers clocked from to before after
  has_run None left read told = absurd left
  has_run (Some f) left read told =
      record { start = start; opened = opened; flash = f; lived = left; no_source_fault = read; no_errors_fault = told }

  pub has_run_ok : {T E : Type 0} (status : Status) (r : Result T E) (flash : Option F) → (status ≡ S.Done → Left flash)
      → IsSourceCause status from.source_faults to.source_faults → IsErrorsCause status from.sink_faults to.sink_faults
      → OnOk r (status ≡ S.Done) → OnOk r (HasRun chip opens hex bearers clocked from to before after)
  has_run_ok status (Ok x) flash left read told done =
      has_run flash (left done) (subst (λ s. IsSourceCause s from.source_faults to.source_faults) done read)
      (subst (λ s. IsErrorsCause s from.sink_faults to.sink_faults) done told)
  has_run_ok status (Err e) flash left read told done = tt

-- Why a node wasn't run.

module _ {F : Type 0} (chip : F → Chip) (opens : Chip → Type 0) (hex : Bool) (bearers : ℕ) (clocked : Bool) (from to : StreamsAt) (before after : SinkView) (refuses : OpenFault → Type 0) where
  abbrev NotRun : Failure → Type 0
  NotRun failure = IsNotRun chip opens hex bearers clocked from to before after refuses failure

  -- the file wasn't opened
  pub unopened : to ≡ from → after ≡ before → (fault : OpenFault) → refuses fault → NotRun (open_failure fault)
  unopened read wrote O.Memory h = (h, read, wrote)
  unopened read wrote O.Missing h = (h, read, wrote)
  unopened read wrote O.NotAFile h = (h, read, wrote)
  unopened read wrote O.SecondName h = (h, read, wrote)
  unopened read wrote O.Locked h = (h, read, wrote)
  unopened read wrote (O.Size octets) h = (h, read, wrote)
  unopened read wrote (O.Image image) h = (h, read, wrote)
  unopened read wrote (O.System error) h = (h, read, wrote)

  -- a life ended so
  failed : (status : Status) (closed : Bool) → HasEnded chip opens hex bearers clocked from to before after status closed → (failure : Failure) → IsAnswerOf status closed failure → NotRun failure
  failed status closed ended (failures.Life told) h =
      (closed, subst (λ s. IsAnswerOf s closed (failures.Life told)) (sym h.0) h, subst (λ s. HasEnded chip opens hex bearers clocked from to before after s closed) (sym h.0) ended)
  failed status closed ended (failures.LifeAndFlash told) h =
      (closed, subst (λ s. IsAnswerOf s closed (failures.LifeAndFlash told)) (sym h.0) h, subst (λ s. HasEnded chip opens hex bearers clocked from to before after s closed) (sym h.0) ended)
  failed status closed ended failures.Usage h = absurd h
  failed status closed ended failures.Keys h = absurd h
  failed status closed ended failures.Read h = absurd h
  failed status closed ended failures.Write h = absurd h
  failed status closed ended failures.Memory h = absurd h
  failed status closed ended (failures.Open fault) h = absurd h
  failed status closed ended (failures.Make fault) h = absurd h
  failed status closed ended (failures.Show fault) h = absurd h
  failed status closed ended (failures.Clock error) h = absurd h

  pub failed_err : {T : Type 0} (r : Result T Failure) (status : Status) (closed : Bool) → HasEnded chip opens hex bearers clocked from to before after status closed
      → IfErr r (IsAnswerOf status closed) → IfErr r (IsNotRun chip opens hex bearers clocked from to before after refuses)
  failed_err (Ok x) status closed ended h = tt
  failed_err (Err e) status closed ended h = failed status closed ended e h
