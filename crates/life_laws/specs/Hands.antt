-- What a bearer handled, and what it has to handle next.
use Rattle.std.specs.Prelude.{◌≡◌, ℕ, true, List, [], ◌∷◌, length, map, Some}
use Rattle.std.specs.List.{filter, flat_map, slice_get}
use Rattle.mesh_types.specs.declared.events.Event.{Event}
use Rattle.mesh_types.specs.declared.history.Entry.{Entry}
use Rattle.mesh_types.specs.declared.history.Sent.{Sent}
use Rattle.machine_contract.specs.declared.answers.Hand.TheVariants as H
use Rattle.machine_contract.specs.View.{MachineView}
use Rattle.report_definitions.specs.Record.{list_at}
use Rattle.run_definitions.specs.Order.{Does, Part, Task, handle, is_outside}
use Rattle.life_laws.specs.Phases.{FallInto, entries_by}

-- the events from outside among those of these entries
abbrev pub outs : List Entry → List Event
outs entries = filter is_outside (map (λ e. e.event) entries)

-- the events from outside that a bearer has in these phases
abbrev pub events_of : List (List (List Event)) → ℕ → List Event
events_of phases k = flat_map (λ events. list_at events k) phases

-- each bearer handled all events of these phases
abbrev pub AreHandledAll : List (List (List Event)) → List Entry → Type 0
AreHandledAll phases entries = (k : ℕ) → outs (entries_by k entries) ≡ events_of phases k

-- the event is the next of some bearer in these phases
pub record IsNextIn (phases : List (List (List Event))) (entries : List Entry) (event : Event) : Type 0 where
  pub bearer : ℕ
  pub next : slice_get (events_of phases bearer) (length (outs (entries_by bearer entries))) ≡ Some event

-- The phases that these parts are of are through up to the last, in each of which every bearer did all that it had. In the last one some bearer
-- has this event next: what it left of that phase begins with it.
pub data HandComes (event : Event) : List (List (List Event)) → List Part → Type 0 where
  later : {events : List (List Event)} {more : List (List (List Event))} {part : Part} {parts : List Part}
      → ((k : ℕ) → Does events part k [])
      → HandComes event more parts
      → HandComes event (events ∷ more) (part ∷ parts)
  here : {events : List (List Event)} {more : List (List (List Event))} {part : Part} (k : ℕ) (left : List Task)
      → Does events part k (handle event ∷ left)
      → HandComes event (events ∷ more) (part ∷ [])

-- The event is in hand where it comes: of these entries and lines, some bearer's next task is to have it handled. So that bearer has written the
-- lines of all its events before it, and all bearers those of the phases before.
pub record IsInHand (phases : List (List (List Event))) (entries : List Entry) (sends : List (List Sent)) (event : Event)
    : Type 0 where
  pub parts : List Part
  pub fall : FallInto entries sends parts
  pub comes : HandComes event phases parts

-- an event from outside that a machine has in hand which shows this is so
abbrev pub HoldsNext : List (List (List Event)) → List Entry → List (List Sent) → MachineView → Type 0
HoldsNext phases entries sends machine =
    (event : Event) → machine.hand ≡ H.OfEvent event → is_outside event ≡ true → IsInHand phases entries sends event
