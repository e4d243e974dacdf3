-- What is left behind the last phase of a life.
use Rattle.std.specs.Prelude.{◌≡◌, ◌≢◌, ℕ, ◌+◌, ◌<◌, ◌≤◌, Bool, false, List, All, AllPairs}
use Rattle.flash_model.specs.Chip.{Chip}
use Rattle.record_types.specs.declared.records.StoreRecord.{StoreRecord}
use Rattle.event_definitions.specs.Role.{Role}
use Rattle.seq_word.specs.Rule.{IsEndOf, IsWithin, once_below, passed_over, times}
use Rattle.seq_word.specs.Seen.{ClosedView, DrawerView}
use Rattle.seq_word.specs.Word.{seq_of}
use Rattle.store_definitions.specs.Recovered.{IsRecovered}
use Rattle.locked_node.specs.Node.{NodeView}
use Rattle.locked_node.specs.Stands.{HasMachine, IsNode}
use Rattle.machine_contract.specs.Moved.{HasMoved}
use Rattle.machine_contract.specs.Opening.{FlashFound}
use Rattle.machine_contract.specs.View.{MachineView}

-- what the words tell at their end, of a life that opened at `first`
pub record Closes (d : DrawerView) (closed : ClosedView) (first : ℕ) : Type 0 where
  pub drawn : closed.drawn ≡ d.drawn
  pub looks : closed.looks ≡ d.looks
  pub apart : AllPairs (λ x y. x ≢ y) d.drawn
  pub since : All (λ x. first ≤ x) d.drawn
  pub ends : All (IsEndOf first d.drawn) d.looks
  pub all : (x : ℕ) → times x d.drawn + passed_over x closed.advances + once_below x first ≡ once_below x closed.next
  pub firsts : All (λ a. seq_of a.1 ≡ 0) closed.advances
  pub reached : All (λ a. a.1 ≤ closed.next) closed.advances
  pub near : closed.mark < closed.next + 256

-- What a node leaves whose counter was opened at `first`: its flash, how often it stored a refill, what the counter and the mark were at the end, and
-- whether the flash failed.
pub record HasLeft {M F : Type 0} (view : M → MachineView) (stands : FlashFound → Chip → List StoreRecord → M → Type 0) (role : Role)
    (image : List ℕ → Type 0) (chip : F → Chip) (node : NodeView F) (first : ℕ) (d : DrawerView) (flash : F) (refills : ℕ) (drawn : ClosedView)
    (closed : Bool) : Type 0 where
  pub flash_is : flash ≡ node.flash
  pub refills_are : refills ≡ node.machine.fills
  pub closed_is : closed ≡ node.machine.closed
  pub known : IsNode role image chip node
  pub stood : HasMachine stands view chip node
  -- what the life found is one list of records
  pub one : (rs ss : List StoreRecord) → IsRecovered (chip node.start).now rs → IsRecovered (chip node.start).now ss → rs ≡ ss
  pub order : drawn.next ≤ drawn.mark
  pub mark : drawn.mark ≡ node.machine.mark
  pub below : All (λ x. x < drawn.next) d.drawn
  pub once : (x : ℕ) → times x d.drawn ≤ 1
  pub seen : All (IsWithin drawn.next drawn.mark) d.looks
  pub closes : Closes d drawn first
  pub moved : (over : List StoreRecord) → IsRecovered (chip node.start).now over → node.machine.closed ≡ false
      → HasMoved role over node.machine.entries node.machine.fills drawn.advances
