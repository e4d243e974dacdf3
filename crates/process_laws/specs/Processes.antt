-- Lives that processes led, one after another, over one flash that outlasts them.
use Rattle.std.specs.Prelude.{◌≡◌, ℕ, List, [], ◌∷◌, map, ⊤}
use Rattle.event_definitions.specs.Role.{Role}
use Rattle.flash_model.specs.Chip.{Chip}
use Rattle.machine_contract.specs.Opening.{EachRecovered}
use Rattle.mesh_types.specs.declared.events.Event.{Event}
use Rattle.mesh_types.specs.declared.report.End.{End}
use Rattle.mesh_types.specs.declared.report.End.TheVariants as E
use Rattle.mesh_types.specs.declared.report.Opened.{Opened}
use Rattle.mesh_types.specs.declared.report.Opened.TheVariants as W
use Rattle.record_types.specs.declared.records.StoreRecord.{StoreRecord}
use Rattle.report_definitions.specs.Record.{Life, LifeOver, Run}
use Rattle.run_definitions.specs.Order.{Step, phase}
use Rattle.run_definitions.specs.RunOf.{LifeOf, Script}
use Rattle.store_definitions.specs.Provisioning.{Provisioning, provisioned}
use Rattle.store_definitions.specs.Recovered.{IsRecovered}

-- The life that a process led: its plan, the records that it opened over, and what became of it; and the flash as the process found it and as
-- it left it.
pub record Process (F : Type 0) : Type 0 where
  pub plan : List Step
  pub over : List StoreRecord
  pub life : Life
  pub found : F
  pub left : F

-- a life of these phases
abbrev pub led_life : {F : Type 0} → List (List (List Event)) → List StoreRecord → Life → F → F → Process F
led_life phases over life found left =
    record { plan = map phase phases; over = over; life = life; found = found; left = left }

-- a life in which nothing was done: it was cut as it was opened, after so many calls; or it wasn't run, since there was a Node Reset
abbrev pub idle : Opened → End → Life
idle opened end = record { opened = opened; entries = []; refills = 0; sends = []; end = end }

abbrev pub cut_at_start : ℕ → Life
cut_at_start calls = idle W.CutAtStart (E.Cut calls)

abbrev pub was_reset : Life
was_reset = idle W.WasReset E.Ended

module _ (role : Role) {F : Type 0} (chip : F → Chip) where
  -- It opened over what its flash recovered. Whatever an image recovers of what it left, it is a life of its plan that leaves this.
  pub record IsLed (p : Process F) : Type 0 where
    pub recovered : IsRecovered (chip p.found).now p.over
    pub life : EachRecovered (chip p.left) (λ next. LifeOf role p.plan p.over p.life next)

  -- Each process found one of the images of the flash that the one before it left, and the first one of those of this flash. Whether the one
  -- before ended in order, was cut, or was killed at any point: what it left is one of these images.
  abbrev pub AreLed : F → List (Process F) → Type 0
  AreLed before [] = ⊤
  AreLed before (p ∷ ps) = (chip before).images (chip p.found).now × IsLed p × AreLed p.left ps

  -- so it is from the flash of a node that was provisioned on
  pub record ProcessesOf (node : Provisioning) (start : F) (ps : List (Process F)) : Type 0 where
    pub provisioning : EachRecovered (chip start) (λ records. records ≡ provisioned node)
    pub led : AreLed start ps

-- the flash that the last one left, or this one if there was none
abbrev pub left_by : {F : Type 0} → F → List (Process F) → F
left_by start [] = start
left_by start (p ∷ ps) = left_by p.left ps

-- What they did as a script and as the record of a run.

abbrev pub life_over : {F : Type 0} → Process F → LifeOver
life_over p = record { over = p.over; life = p.life }

abbrev pub script_of : {F : Type 0} → Provisioning → List (Process F) → Script
script_of node ps = record { node = node; lives = map (λ p. p.plan) ps }

abbrev pub run_of : {F : Type 0} → List (Process F) → List StoreRecord → Run
run_of ps last = record { lives = map life_over ps; last = last }
