-- What a source of phases is told is due.
use Rattle.std.specs.Prelude.{◌≡◌, ℕ, List, [], ◌∷◌, ◌++◌, ⊤}
use Rattle.flash_model.specs.Chip.{Chip}
use Rattle.mesh_types.specs.declared.history.Entry.{Entry}
use Rattle.machine_contract.specs.Idle.{IsDueIn}
use Rattle.machine_contract.specs.View.{MachineView}
use Rattle.record_types.specs.declared.records.StoreRecord.{StoreRecord}
use Rattle.event_definitions.specs.History.{Past}
use Rattle.event_definitions.specs.Role.{Role}
use Rattle.store_definitions.specs.Recovered.{IsRecovered}
use Rattle.locked_node.specs.Asked.{AreAsked}
use Rattle.mesh_node.specs.Told.{PhaseDid}

-- Over these records, behind these entries and some number of refills, none before an entry with a job that draws, this is the least number of ticks of
-- which an event isn't quiet, as the machine says what is, or the most that there is.
pub record IsDueBehind (role : Role) (Quiet : Past → ℕ → Type 0) (over : List StoreRecord) (entries : List Entry) (due : ℕ) : Type 0 where
  pub machine : MachineView
  pub entries_are : machine.entries ≡ entries
  pub asked : AreAsked machine.entries machine.fills
  pub least : IsDueIn role Quiet over machine due

-- the same, over whatever the flash recovered as the life found it
abbrev pub IsDueSince : Role → (Past → ℕ → Type 0) → Chip → List Entry → ℕ → Type 0
IsDueSince role Quiet start entries due = (over : List StoreRecord) → IsRecovered start.now over → IsDueBehind role Quiet over entries due

-- Each of these numbers was due behind the entries of the phases before: the first one behind these entries, the next behind those of the first phase
-- too, and so on.
abbrev pub AreDue : (List Entry → ℕ → Type 0) → List Entry → List ℕ → List PhaseDid → Type 0
AreDue IsDue before [] did = ⊤
AreDue IsDue before (due ∷ dues) [] = IsDue before due × AreDue IsDue before dues []
AreDue IsDue before (due ∷ dues) (d ∷ did) = IsDue before due × AreDue IsDue (before ++ d.entries) dues did

-- nothing is said of a number
abbrev pub is_any : List Entry → ℕ → Type 0
is_any entries due = ⊤
