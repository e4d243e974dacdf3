-- How far the changes of the models' states are.
use Rattle.std.specs.Prelude.{ℕ, ◌-◌, ◌<◌}
use Rattle.element_models.specs.declared.servers.Servers.{Servers}
use Rattle.node_layers.specs.Models.{level_state, onoff_state}
use Rattle.onoff_level_models.specs.Ends.{IsAsFar}
use Rattle.event_definitions.specs.Answers.{config_before}
use Rattle.event_definitions.specs.History.{Past}

-- The changes of an element's servers are as far at a later moment as now.
pub record AreAsFar (now later : ℕ) (s : Servers) : Type 0 where
  pub onoff : IsAsFar s.onoff.timing (now - s.onoff.taken) (later - s.onoff.taken)
  pub level : IsAsFar s.level.timing (now - s.level.taken) (later - s.level.taken)

-- Those of all elements of a node with this past are.
abbrev pub StayAsFar : Past → ℕ → ℕ → Type 0
StayAsFar past now later =
    (element : ℕ) → element < (config_before past).elements
    → AreAsFar now later (record { onoff = onoff_state past element; level = level_state past element })
