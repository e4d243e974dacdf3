-- The laws by which a node stays one, and what the types of values in hand say.
use Rattle.std.specs.Prelude.{◌<◌, ◌^◌, ⊤, All, Some}
use Rattle.layer_laws.specs.Laws.{IsWithinLimits, StoreFitting}
use Rattle.machine_standing.specs.Kept.{KeptLaw}
use Rattle.node_layers.specs.NodeLayers.{node_layers}
use Rattle.node_models.specs.Models.{StandRefilled}
use Rattle.node_records.specs.Tables.{config_in}
use Rattle.node_records.specs.declared.persist.Persist.{Persist}
use Rattle.event_definitions.specs.History.{Insight, OfPdu}
use Rattle.event_definitions.specs.Safe.{AreSafe}

-- The laws by which a node stays one: of a record that keeps it whole, of what the layers store for a message, and of
-- the models behind refills.
pub record AreKeeping : Type 0 where
  pub whole : KeptLaw
  pub safe : AreSafe node_layers
  pub storable : StoreFitting node_layers
  pub refilled : StandRefilled

-- the octets of a payload that was opened are below 2^8
abbrev pub HasOctets : Insight → Type 0
HasOctets (OfPdu reading low (Some o)) = All (λ octet. octet < 2 ^ 8) o.payload
HasOctets _ = ⊤

-- What the types of a store's value and of what was read say: its tables have the sizes of the store, and octets are octets.
pub record IsBounded (p : Persist) (insight : Insight) : Type 0 where
  pub limits : IsWithinLimits (config_in p)
  pub octets : HasOctets insight
