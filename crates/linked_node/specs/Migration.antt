-- The writes that opening a node leaves.
use Rattle.std.specs.Prelude.{◌≡◌, ℕ, ◌≤◌, List, [], length}
use Rattle.file_flash.specs.Noted.{Put}
use Rattle.node_limits.specs.declared.TheConstants.{COMPACTION_CALLS}
use Rattle.slot_definitions.specs.Slots.{HasFormat}

-- None, but over an image of format 01: then at most as many as a migration has.
pub record AreOfMigration (image : List ℕ) (puts : List Put) : Type 0 where
  pub none : ¬ HasFormat 1 image → puts ≡ []
  pub most : length puts ≤ COMPACTION_CALLS
