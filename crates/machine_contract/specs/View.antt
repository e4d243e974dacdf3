-- A machine as contracts see it.
use Rattle.std.specs.Prelude.{ℕ, Bool, List, [], ◌∷◌, ◌++◌}
use Rattle.atomic_table.specs.Seated.{TableId}
use Rattle.mesh_types.specs.declared.answers.Answer.{Answer}
use Rattle.mesh_types.specs.declared.events.Event.{Event}
use Rattle.mesh_types.specs.declared.history.Entry.{Entry}
use Rattle.mesh_types.specs.declared.jobs.Job.{Job}
use Rattle.machine_contract.specs.declared.answers.Hand.{Hand}

pub record MachineView : Type 0 where
  -- the history of its life, behind each of its entries the word that the counter had been moved to last (0 where it hadn't been), how many of them
  -- were taken, and the number of refills that were stored since the last entry
  pub entries : List Entry
  pub moves : List ℕ
  pub taken : ℕ
  pub fills : ℕ
  -- a call on the flash failed, and what the call that closed the machine had in hand
  pub closed : Bool
  pub hand : Hand
  -- at which counter and mark it publishes, and the mark that it published last
  pub which : TableId
  pub mark : ℕ
  -- the elements of the node
  pub elements : ℕ

-- the entry of an event that this machine handles
abbrev pub entry_for : MachineView → ℕ → ℕ → Event → Answer → List Job → Entry
entry_for m bearer number event answer jobs =
    record { bearer = bearer; number = number; event = event; fills = m.fills; answer = answer; jobs = jobs }

-- the machine with an entry more, behind which no refill is stored yet, where the counter was moved last to this word, and the mark is now this
abbrev pub with_entry : MachineView → Entry → ℕ → ℕ → MachineView
with_entry m entry move mark =
    record m { entries = m.entries ++ entry ∷ []; moves = m.moves ++ move ∷ []; fills = 0; mark = mark }
