-- What stands before an event, as the models see it.
use Rattle.std.specs.Prelude.{◌≡◌, ℕ}
use Rattle.node_models.specs.Models.{AreNodeModelsOf, ModelsView}
use Rattle.node_records.specs.Meaning.{IsMeaningOf}
use Rattle.node_records.specs.declared.persist.Persist.{Persist}
use Rattle.event_definitions.specs.History.{Past, now_of}

-- After a past, the store's value says its records, the models are those of its entries, and this is its time.
pub record StandsFor (past : Past) (p : Persist) (m : ModelsView) (now : ℕ) : Type 0 where
  pub meaning : IsMeaningOf past.records p
  pub models : AreNodeModelsOf m past
  pub time : now ≡ now_of past.told
