-- A tick event at which nothing is due (Mesh Profile 1.0.1, sections 3.5.3, 3.6.6, 3.10.3.1, 3.10.5 and 4.2.2).
use Rattle.std.specs.Prelude.{◌≡◌, ℕ, false, []}
use Rattle.layer_states.specs.Friends as friendship
use Rattle.layer_states.specs.Reassembly as reassembly
use Rattle.layer_states.specs.Sending as sending
use Rattle.mesh_types.specs.declared.answers.Answer.{Answer}
use Rattle.mesh_types.specs.declared.events.Event.TheVariants as E
use Rattle.node_layers.specs.Friendship.{friends}
use Rattle.node_layers.specs.NodeLayers.{node_layers}
use Rattle.node_layers.specs.Reassembly as parts
use Rattle.node_layers.specs.Sending as own
use Rattle.node_models.specs.Ends.{AreModelsQuiet}
use Rattle.event_definitions.specs.Answers.{answer_of, config_before, later}
use Rattle.event_definitions.specs.History.{OfNothing, Past, now_of}
use Rattle.event_definitions.specs.Jobs.{jobs_of}
use Rattle.event_definitions.specs.Stores.{stores}

-- After a past no timer ends up to this moment. The messages in progress, the own segmented messages, and the friendships and offers stay as
-- they are; no publication is due, and no heartbeat; and the last change of each state is as far as it was.
pub record EndsNothing (past : Past) (now : ℕ) : Type 0 where
  pub parts : reassembly.after (parts.messages past) (reassembly.tick now) ≡ parts.messages past
  pub own : sending.after (own.messages past) (sending.due now) ≡ own.messages past
  pub friends : friendship.after (friends past) (friendship.tick now) ≡ friends past
  pub models : AreModelsQuiet past (now_of past.told) now

-- the answer to a tick event
abbrev pub tick_answer : Past → ℕ → Answer
tick_answer past ticks = answer_of node_layers past (E.Tick ticks) OfNothing

-- A tick event is quiet after a past: it stores nothing, its jobs, which see the records of before, are none, and where there was no Node Reset
-- no timer ends by it.
pub record IsQuiet (past : Past) (ticks : ℕ) : Type 0 where
  pub stores : stores node_layers past (E.Tick ticks) OfNothing (tick_answer past ticks) ≡ []
  pub jobs : jobs_of node_layers past (config_before past) (E.Tick ticks) OfNothing (tick_answer past ticks) ≡ []
  pub ends : (config_before past).reset ≡ false → EndsNothing past (later past ticks)
