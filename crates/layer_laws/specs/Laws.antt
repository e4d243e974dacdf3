-- What the layers of the node have, all of them and those below the access layer: safety, and that what they store and send is fit.
use Rattle.std.specs.Prelude.{◌<◌, ◌≤◌, ◌^◌, [], ◌∷◌, ◌++◌, length, None, All}
use Rattle.node_layers.specs.BuiltLayers.{built_layers}
use Rattle.node_layers.specs.NodeLayers.{node_layers}
use Rattle.node_limits.specs.declared.TheConstants.{APPLICATION_KEYS, BINDINGS, GROUP_SUBSCRIPTIONS, LABEL_SUBSCRIPTIONS, NETWORK_KEYS}
use Rattle.record_types.specs.declared.records.StoreRecord.TheVariants as R
use Rattle.event_definitions.specs.Answers.{config_before}
use Rattle.event_definitions.specs.Fit.{AreFit, AreStorable}
use Rattle.event_definitions.specs.History.{Past}
use Rattle.event_definitions.specs.Layers.{AccessMessage, Layers}
use Rattle.event_definitions.specs.Safe.{AreSafe}
use Rattle.store_definitions.specs.Config.{Config}
use Rattle.store_definitions.specs.Node.{IsWhole}

abbrev pub BuiltIsSafe : Type 0
BuiltIsSafe = AreSafe built_layers

abbrev pub BuiltIsFit : Type 0
BuiltIsFit = AreFit built_layers

abbrev pub NodeIsSafe : Type 0
NodeIsSafe = AreSafe node_layers

abbrev pub NodeIsFit : Type 0
NodeIsFit = AreFit node_layers

-- The tables of a node are within the sizes of its store.
pub record IsWithinLimits (c : Config) : Type 0 where
  pub nets : length c.nets ≤ NETWORK_KEYS
  pub apps : length c.apps ≤ APPLICATION_KEYS
  pub binds : length c.binds ≤ BINDINGS
  pub subs : length c.subs ≤ GROUP_SUBSCRIPTIONS
  pub labels : length c.labels ≤ LABEL_SUBSCRIPTIONS

-- Of a node that is whole, with such tables, what a message stores is fit, however its records came about: so it is in code whose tables have
-- these sizes.
abbrev pub StoreFitting : Layers → Type 0
StoreFitting layers =
    (past : Past) (m : AccessMessage) → IsWhole (config_before past) → IsWithinLimits (config_before past)
    → All (λ octet. octet < 2 ^ 8) m.payload
    → AreStorable (past.records ++ R.Replay m.name None ∷ []) (layers.changes past m)
