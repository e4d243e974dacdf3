-- A moment at which nothing of the models is due.
use Rattle.std.specs.Prelude.{◌≡◌, ℕ, [], None}
use Rattle.element_models.specs.Ends.{StayAsFar}
use Rattle.model_states.specs.Publication.{heartbeat_due, rows_due}
use Rattle.node_layers.specs.Publishing.{published}
use Rattle.event_definitions.specs.History.{Past}

-- After a past, at a later moment than now: no row is due to be published, nor is the heartbeat, and the last change of each state is as far
-- as it is now.
pub record AreModelsQuiet (past : Past) (now later : ℕ) : Type 0 where
  pub rows : rows_due (published past) later ≡ []
  pub heartbeat : heartbeat_due (published past) later ≡ None
  pub changes : StayAsFar past now later
