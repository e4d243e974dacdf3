-- Where in its plan a life was given an order to tear a call, and the machine that it leaves.
use Rattle.std.specs.Prelude.{◌≡◌, ◌≢◌, ◌⊎◌, ℕ, List, [], ◌∷◌, ◌++◌, Option, IfSome}
use Rattle.flash_model.specs.Chip.{Arm, Chip}
use Rattle.life_laws.specs.Hands.{AreHandledAll}
use Rattle.life_laws.specs.Phases.{AreDone}
use Rattle.machine_contract.specs.declared.answers.Hand.TheVariants as H
use Rattle.machine_contract.specs.View.{MachineView}
use Rattle.mesh_types.specs.declared.history.Entry.{Entry}
use Rattle.mesh_types.specs.declared.history.Sent.{Sent}
use Rattle.record_types.specs.declared.records.StoreRecord.{StoreRecord}
use Rattle.report_definitions.specs.Record.{Life, list_at}
use Rattle.run_definitions.specs.Order.{Step, arm, is_cut, phases_of}
use Rattle.turn_lock.specs.Entries.{IsPrefix}

-- The order stands first in the plan, and no call that changes the flash was begun when it was given.
pub record WasFirst (plan : List Step) (order : Arm) : Type 0 where
  pub behind : List Step
  pub is : plan ≡ arm order.calls order.mask ∷ behind
  pub changes : order.changes ≡ 0

-- a machine that shows this stands over the flash, as `stands` says of what the life found
abbrev pub Stood : {M F : Type 0} → (M → MachineView) → (Chip → List StoreRecord → M → Type 0) → (F → Chip) → F
    → List StoreRecord → MachineView → Type 0
Stood {M} view stands chip flash over shown = (machine : M) × (view machine ≡ shown) × stands (chip flash) over machine

-- behind so many refills comes the first of these entries, or, where there is none, no refill more, and none is in hand
abbrev pub NoneMore : ℕ → List Entry → MachineView → Type 0
NoneMore fills [] now = (now.fills ≡ fills) × (now.hand ≢ H.OfRefill)
NoneMore fills (e ∷ more) now = e.fills ≡ fills

-- From the one machine to the other, which has these entries more, no refill was stored before the first of them, and none was in hand.
pub record IsUnfilled (old new : MachineView) : Type 0 where
  pub more : List Entry
  pub entries : new.entries ≡ old.entries ++ more
  pub none : NoneMore old.fills more new

-- the lines of each bearer begin with these
abbrev pub BeginWith : List (List Sent) → List (List Sent) → Type 0
BeginWith front sends = (k : ℕ) → IsPrefix (list_at front k) (list_at sends k)

-- `stands` is of one life: what it found is given
module _ {M F : Type 0} (view : M → MachineView) (stands : Chip → List StoreRecord → M → Type 0) (chip : F → Chip)
    (over : List StoreRecord) where
  -- The order was given where a machine stood over the flash that had handled all events of the phases before it in the plan, with what follows their
  -- lines, and none of those behind it. These lines come first among those of the life. Since then, up to this machine, no refill was stored before
  -- the next entry.
  pub record WasBetween (now : MachineView) (sends : List (List Sent)) (plan : List Step) (order : Arm) : Type 0 where
    pub before : List Step
    pub behind : List Step
    pub is : plan ≡ before ++ arm order.calls order.mask ∷ behind
    pub flash : F
    pub machine : M
    pub stood : stands (chip flash) over machine
    pub handled : AreHandledAll (phases_of before) (view machine).entries
    pub lines : List (List Sent)
    pub front : BeginWith lines sends
    pub counts : List ℕ
    pub ends : List ℕ
    pub done : AreDone (phases_of before) (view machine).entries lines counts ends
    pub changes : order.changes ≡ (chip flash).changes
    pub unfilled : IsUnfilled (view machine) now

  -- first of all, or behind a phase
  abbrev pub WasGiven : MachineView → List (List Sent) → List Step → Arm → Type 0
  WasGiven now sends plan order = WasFirst plan order ⊎ ((placed : WasBetween now sends plan order) × (placed.before ≢ []))

  -- the order that the flash had before, or one that was given between two phases of the plan
  abbrev pub IsSameOrPlaced : MachineView → List (List Sent) → List Step → Option Arm → Option Arm → Type 0
  IsSameOrPlaced now sends plan old new = (new ≡ old) ⊎ IfSome new (WasBetween now sends plan)

  -- The machine that stands over the flash at the end: what the life tells is all that it handled, and the life is cut exactly where it is
  -- closed.
  pub record IsTold (life : Life) (new : F) : Type 0 where
    pub machine : M
    pub stood : stands (chip new) over machine
    pub entries : (view machine).entries ≡ life.entries
    pub refills : (view machine).fills ≡ life.refills
    pub closed : (view machine).closed ≡ is_cut life.end
