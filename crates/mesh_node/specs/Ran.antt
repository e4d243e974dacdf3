-- A life that was run, against the flash as it was once power was given.
use Rattle.std.specs.Prelude.{◌≡◌, ℕ, ◌<◌, true, false, IsTrue, List, All, IfSome}
use Rattle.flash_model.specs.Chip.{Chip}
use Rattle.machine_contract.specs.Moved.{HasMoved}
use Rattle.machine_contract.specs.Opening.{EachRecovered, FlashFound, IsNodeFlash, found_of}
use Rattle.machine_contract.specs.Standing.{IsLifeSoFar}
use Rattle.record_types.specs.declared.records.StoreRecord.{StoreRecord}
use Rattle.report_definitions.specs.Record.{list_at}
use Rattle.event_definitions.specs.Role.{Role}
use Rattle.run_definitions.specs.Order.{Step, is_cut, phases_of}
use Rattle.run_definitions.specs.RunOf.{LifeOf, is_on}
use Rattle.store_definitions.specs.Recovered.{IsRecovered}
use Rattle.locked_node.specs.Stands.{IsLater}
use Rattle.life_laws.specs.declared.plan.LifeLog.{LifeLog}
use Rattle.mesh_node.specs.Lives.{IsPrintable, cut_calls}
use Rattle.machine_contract.specs.View.{MachineView}
use Rattle.mesh_node.specs.Drawn.{TellsDrawn, opened_at}
use Rattle.mesh_node.specs.Given.{IsTold, WasGiven}
use Rattle.life_laws.specs.Hands.{HoldsNext}
use Rattle.life_laws.specs.Pairs.{IsFromMove, IsUntilMove}
use Rattle.life_laws.specs.Plan.{life_of}
use Rattle.mesh_node.specs.Steps.{HasGiven, IsOfPlan}
use Rattle.mesh_node.specs.Timed.{IsTimed}

pub record Ran {M F : Type 0} (view : M → MachineView) (stands : FlashFound → Chip → List StoreRecord → M → Type 0) (chip : F → Chip)
    (role : Role) (IsNodeImage : List ℕ → Type 0) (plan : List Step) (start : Chip) (log : LifeLog) (new : F) : Type 0 where
  pub over : List StoreRecord
  pub recovered : IsRecovered start.now over
  pub life : EachRecovered (chip new) (λ next. LifeOf role plan over (life_of log) next)
  pub node : IsNodeFlash IsNodeImage (chip new)
  pub printable : IsPrintable (life_of log)
  pub later : IsLater start (chip new)
  pub cause : is_cut log.end ≡ true → (chip new).setting.faults < (chip new).faults
  pub no_fault : is_cut log.end ≡ false → (chip new).faults ≡ start.faults
  pub arm : IsOfPlan plan (chip new).setting.arm
  pub saved : (chip new).setting.saved ≡ start.setting.saved
  pub calls : IfSome (cut_calls log.end) (λ calls. calls ≡ (chip new).changes)
  pub drawn : TellsDrawn (life_of log) log.drawn
  pub moved : is_cut log.end ≡ false
      → IfSome log.drawn (λ words. HasMoved role over log.history.entries.items log.history.refills words.advances)
  pub armed : IsTrue (chip new).steady → HasGiven plan (chip new).setting.arm
  pub told : IsTold view (stands (found_of start)) chip over (life_of log) new
  pub given : IfSome (chip new).setting.arm (WasGiven view (stands (found_of start)) chip over (view told.machine) (life_of log).sends plan)
  pub paid : IsLifeSoFar role IsNodeImage (found_of start) (chip new) over (view told.machine)
  pub from : All (All (IsFromMove (life_of log).entries (view told.machine).moves)) (life_of log).sends
  pub until : (k : ℕ) → All (IsUntilMove k (life_of log).entries (view told.machine).moves) (list_at (life_of log).sends k)
  pub timed : IsTimed (is_cut log.end) (phases_of plan) (opened_at log.opened) (life_of log).entries (view told.machine).moves
      (life_of log).sends
  pub hand : HoldsNext (phases_of plan) (life_of log).entries (life_of log).sends (view told.machine)
  pub on : is_on log.opened ≡ true
