-- What is published at a moment.
use Rattle.std.specs.Prelude.{◌≡◌, ℕ, ◌≤◌, length, map}
use Rattle.model_states.specs.Publication.{heartbeat_due, rows_due}
use Rattle.node_layers.specs.Publishing.{published, status_of}
use Rattle.node_models.specs.declared.due.Due.{Due}
use Rattle.node_models.specs.declared.due.DueRow.{DueRow}
use Rattle.record_types.specs.declared.records.PublishRow.{PublishRow}
use Rattle.event_definitions.specs.History.{Past}
use Rattle.store_definitions.specs.Config.{Config}

-- a row with the Status of its model
abbrev pub due_row : Past → Config → ℕ → PublishRow → DueRow
due_row past c now row = record { row = row; status = status_of past c row now }

-- its Status has an octet
abbrev pub ShowsOctet : DueRow → Type 0
ShowsOctet d = 1 ≤ length d.status

-- After a past this is due at this moment in a node of which the records say `c`: the rows with their Statuses, and the heartbeat.
pub record IsDue (past : Past) (c : Config) (now : ℕ) (due : Due) : Type 0 where
  pub rows : due.rows ≡ map (due_row past c now) (rows_due (published past) now)
  pub heartbeat : due.heartbeat ≡ heartbeat_due (published past) now
