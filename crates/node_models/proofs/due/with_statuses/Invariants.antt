-- The rows so far have their Statuses.
use Rattle.std.proofs.Common.{◌≡◌, length, map, take}
use Rattle.element_models.specs.Models.{AreModelsOf}
use Rattle.std.specs.Prelude.{All}
use Rattle.node_models.specs.Due.{ShowsOctet, due_row}
use Rattle.event_definitions.specs.History.{Past}
use Rattle.store_definitions.specs.Config.{Config}
use Rattle.node_models.proofs.due.with_statuses.Given as goal

abbrev pub invariant-loop-row : goal.invariant-loop-row
invariant-loop-row l =
    record {
      count : length l.list ≡ l.row-index;
      value : (past : Past) (c : Config) → AreModelsOf l.servers past → c.unicast ≡ l.unicast
          → l.list ≡ map (due_row past c l.now) (take l.row-index l.rows);
      octets : All ShowsOctet l.list;
    }
