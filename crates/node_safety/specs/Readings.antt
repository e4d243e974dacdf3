-- What octets are read as is one, and so is what a life's entries are told as.
use Rattle.std.specs.Prelude.{◌≡◌, List}
use Rattle.mesh_types.specs.declared.events.Event.{Event}
use Rattle.record_types.specs.declared.records.StoreRecord.{StoreRecord}
use Rattle.event_definitions.specs.History.{Insight, Past}
use Rattle.event_definitions.specs.Role.{Role}
use Rattle.report_definitions.specs.Record.{Life}
use Rattle.run_definitions.specs.Order.{Step}
use Rattle.run_definitions.specs.RunOf.{LifeOf}

-- after a past, an event is seen with one insight at most
abbrev pub SeesOnce : Role → Type 0
SeesOnce role =
    (past : Past) (event : Event) (insight other : Insight) → role.sees past event insight → role.sees past event other
    → insight ≡ other

-- However a life of this kind of node is one of a plan that opened over these records, its entries are told as the same.
abbrev pub IsToldOnce : Role → Type 0
IsToldOnce role =
    (plan : List Step) (over : List StoreRecord) (l : Life) (next other : List StoreRecord)
    → (h : LifeOf role plan over l next) (k : LifeOf role plan over l other) → h.told ≡ k.told
