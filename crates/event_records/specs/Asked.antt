-- What a message that was heard asks to be stored.
use Rattle.std.specs.Prelude.{◌≡◌, ⊤, List}
use Rattle.mesh_types.specs.declared.answers.Answer.{Answer}
use Rattle.mesh_types.specs.declared.answers.Answer.TheVariants as A
use Rattle.record_types.specs.declared.records.StoreRecord.{StoreRecord}
use Rattle.event_definitions.specs.History.{Insight, Past}
use Rattle.event_definitions.specs.Layers.{Layers}
use Rattle.event_definitions.specs.Stores.{asked, message_of}

-- These are the records that a delivered message asks for; no other answer has any.
abbrev pub AreAskedFor : Layers → Past → Insight → Answer → List StoreRecord → Type 0
AreAskedFor layers past insight (A.Delivered name dst key payload) changes =
    changes ≡ asked layers past (message_of insight name dst)
AreAskedFor layers past insight _ changes = ⊤
