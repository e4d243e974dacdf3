-- A life of a script that is over, lives one after another on one flash, and how the lives of a script ended.
use Rattle.std.specs.Prelude.{◌≡◌, List, [], ◌∷◌, Option, Some, Result, Ok, Err, ⊤}
use Rattle.flash_model.specs.Arming.{IsExplained}
use Rattle.flash_model.specs.Chip.{Chip}
use Rattle.mesh_node.specs.Lives.{Lives}
use Rattle.life_laws.specs.Plan.{life_of}
use Rattle.life_laws.specs.declared.plan.LifeLog.{LifeLog}
use Rattle.report_definitions.specs.Record.{LifeOver}
use Rattle.run_definitions.specs.Order.{Step}
use Rattle.mesh_run.specs.Kind.{MachineKind}
use Rattle.mesh_run.specs.declared.lives.Stopped.{Stopped}
use Rattle.mesh_run.specs.declared.lives.Stopped.TheVariants as P

-- The life was run by its plan, by a machine of this kind, on a flash that was so before it and is so after it.
pub record Lived {F : Type 0} (chip : F → Chip) (kind : MachineKind) (plan : List Step) (old : Chip) (x : LifeOver) (new : F)
    : Type 0 where
  pub log : LifeLog
  pub is : life_of log ≡ x.life
  pub lives : Lives kind.view kind.stands chip kind.role kind.image plan old log new
  pub opened_over : lives.over ≡ x.over
  pub explained : IsExplained (chip new)

-- Lives were run one after another, each by its own plan: the first on the flash that was there at the start, each next one on the flash
-- that the one before left, and the last one left what is left. Nothing is done to the flash besides.
abbrev pub Chained : {F : Type 0} → (F → Chip) → MachineKind → List (List Step) → F → List LifeOver → F → Type 0
Chained {F} chip kind [] start [] left = left ≡ start
Chained {F} chip kind (plan ∷ plans) start (x ∷ xs) left =
    (next : F) × Lived chip kind plan (chip start) x next × Chained chip kind plans next xs left
Chained {F} chip kind _ start _ left = ⊥

-- the sink failed
abbrev pub IsSinkFault : {B : Type 0} → Result B (Stopped B) → Type 0
IsSinkFault (Err (P.Fault flash)) = ⊤
IsSinkFault _ = ⊥

-- there was no memory
abbrev pub IsMemory : {B : Type 0} → Result B (Stopped B) → Type 0
IsMemory (Err (P.Memory flash)) = ⊤
IsMemory _ = ⊥

-- the flash that is left
abbrev pub flash_left : {B : Type 0} → Result B (Stopped B) → Option B
flash_left (Ok flash) = Some flash
flash_left (Err (P.Fault flash)) = Some flash
flash_left (Err (P.Memory flash)) = flash
