-- When a life of a node with this role is one of its plan, which opened over the one list of records and leaves the other.
use Rattle.std.specs.Prelude.{◌≡◌, ◌⊎◌, ℕ, true, false, List, [], All, map}
use Rattle.mesh_types.specs.declared.events.Event.{Event}
use Rattle.mesh_types.specs.declared.report.End.TheVariants as Ends
use Rattle.mesh_types.specs.declared.report.Opened.TheVariants as Opens
use Rattle.record_types.specs.declared.records.StoreRecord.{StoreRecord}
use Rattle.report_definitions.specs.Record.{Life, shown}
use Rattle.event_definitions.specs.Handling.{AreHandled}
use Rattle.event_definitions.specs.History.{Told}
use Rattle.event_definitions.specs.Role.{Role}
use Rattle.run_definitions.specs.Order.{Step, is_cut, is_outside, phases_of}
use Rattle.run_definitions.specs.RunOf.{IsDrawn, IsNumbered, IsSpentRight, LifeOf}
use Rattle.store_definitions.specs.Config.{config_of}
use Rattle.machine_contract.specs.declared.answers.Hand.{Hand}
use Rattle.machine_contract.specs.declared.answers.Hand.TheVariants as Hands
use Rattle.machine_contract.specs.Opening.{IsLeft}
use Rattle.machine_contract.specs.Standing.{IsLeftBy, past_now}
use Rattle.life_laws.specs.Hands.{IsNextIn}
use Rattle.life_laws.specs.Phases.{AreOrdered}

-- a life that was run
abbrev pub RunLife : Role → Type 0
RunLife role =
    (plan : List Step) (over next : List StoreRecord) (told : List Told) (l : Life) (hand : Hand) (ends : List ℕ)
    → (config_of over).reset ≡ false → l.opened ≡ Opens.On (config_of over).iv (config_of over).mark
    → map (λ t. t.entry) told ≡ l.entries → AreHandled role over [] told → ((k : ℕ) → IsNumbered l k)
    → AreOrdered (is_cut l.end) (phases_of plan) l.entries l.sends ends
    → IsLeftBy role (past_now role over told l.refills) hand next
    → ((hand ≡ Hands.Nothing) ⊎ (is_cut l.end ≡ true))
    → ((event : Event) → hand ≡ Hands.OfEvent event → is_outside event ≡ true
    → IsNextIn (phases_of plan) l.entries event)
    → IsDrawn over next l → All (λ s. IsSpentRight over next l s.outcome) (shown l)
    → LifeOf role plan over l next

-- one that wasn't run since there was a Node Reset
abbrev pub ResetLife : Role → Type 0
ResetLife role =
    (plan : List Step) (over next : List StoreRecord) → (config_of over).reset ≡ true → IsLeft over [] next
    → LifeOf role plan over
    (record { opened = Opens.WasReset; entries = []; refills = 0; sends = []; end = Ends.Ended }) next

-- one that was cut while it opened
abbrev pub CutLife : Role → Type 0
CutLife role =
    (plan : List Step) (over next : List StoreRecord) (calls : ℕ) → IsLeft over [] next
    → LifeOf role plan over
    (record { opened = Opens.CutAtStart; entries = []; refills = 0; sends = []; end = Ends.Cut calls }) next
