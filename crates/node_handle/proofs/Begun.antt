-- A node that was opened over an image.
use Rattle.std.proofs.Common.{◌≡◌, ℕ, List, Option, Some, sym, subst}
use Rattle.called_node.specs.Called.{CalledView, IsBegun}
use Rattle.event_definitions.specs.Role.{node_role}
use Rattle.file_flash.specs.Noted.{Put}
use Rattle.flash_model.specs.Chip.{Chip}
use Rattle.linked_node.specs.Migration.{AreOfMigration}
use Rattle.mesh_node.specs.Held.{HeldView}
use Rattle.node_handle.specs.Nodes.{IsFirstLine, IsOpened}
use Rattle.node_layers.specs.NodeLayers.{node_layers}
use Rattle.node_store.specs.Tie.{IsNode}

module _ {F : Type 0} (chip : F → Chip) (waiting : F → Option (List Put)) (image line : List ℕ) (life : HeldView F) where
  pub opened : (begun now : CalledView F) → IsFirstLine image line → (chip life.node.start).now ≡ image → (chip life.node.start).changes ≡ 0 → (chip life.node.start).octets ≡ 0
      → (chip life.node.flash).setting.saved ≡ image → IsBegun (node_role node_layers) IsNode chip waiting life begun → now ≡ begun
      → ((puts : List Put) → waiting life.node.flash ≡ Some puts → AreOfMigration image puts) → IsOpened chip waiting image line now
  opened begun now first start uncalled unprogrammed saved is same writes = record {
    first = first;
    life = life;
    start = start;
    uncalled = uncalled;
    unprogrammed = unprogrammed;
    saved = saved;
    begun = subst (IsBegun (node_role node_layers) IsNode chip waiting life) (sym same) is;
    writes = subst (λ (n : CalledView F). AreOfMigration image n.writes) (sym same) (writes begun.writes (sym is.noted));
  }
