-- What a node keeps in memory in a life: what it stands for, and when it is fit for a store.
use Rattle.std.specs.Prelude.{◌≡◌, ℕ, []}
use Rattle.early_reading.specs.Views.{view_of}
use Rattle.early_reading.specs.declared.view.KeyView.{KeyView}
use Rattle.layer_states.specs.Friends as friendship
use Rattle.layer_states.specs.Friends.{FriendsState, friend_keys}
use Rattle.layer_states.specs.Reassembly as reassembly
use Rattle.layer_states.specs.Sending as sending
use Rattle.mesh_hearing.specs.Tables.{AreTablesOf, IsFit, TablesView}
use Rattle.model_states.specs.Publication.{after_heartbeat, after_rows, rows_due}
use Rattle.node_friends.specs.Steps.{AreFriendsOf}
use Rattle.node_layers.specs.Friendship.{friends}
use Rattle.node_layers.specs.Publishing.{published}
use Rattle.node_layers.specs.Reassembly as parts
use Rattle.node_layers.specs.Sending as own
use Rattle.node_models.specs.Models.{AreNodeModelsOf, AreWithin, ModelsView}
use Rattle.node_records.specs.declared.persist.Persist.{Persist}
use Rattle.event_definitions.specs.History.{Past}

-- the tables of what was heard and what is sent, the models, and the friendships and offers
pub record NodeTablesView : Type 0 where
  pub hearing : TablesView
  pub models : ModelsView
  pub friends : FriendsState

-- They are those of a life with this past.
pub record AreNodeTablesOf (t : NodeTablesView) (past : Past) : Type 0 where
  pub hearing : AreTablesOf t.hearing past.told
  pub models : AreNodeModelsOf t.models past
  pub friends : AreFriendsOf t.friends past.told

-- The keys are those that the store's value says, and the models are within its bounds.
pub record IsFitFor (t : NodeTablesView) (p : Persist) : Type 0 where
  pub keys : IsFit t.hearing p
  pub models : AreWithin t.models p

-- After a past nothing ends up to this moment: the messages, the friendships and the offers stay as they are, and no row is due to be published.
pub record StaysUntil (past : Past) (now : ℕ) : Type 0 where
  pub parts : reassembly.after (parts.messages past) (reassembly.tick now) ≡ parts.messages past
  pub own : sending.after (own.messages past) (sending.due now) ≡ own.messages past
  pub friends : friendship.after (friends past) (friendship.tick now) ≡ friends past
  pub rows : rows_due (published past) now ≡ []

-- What time up to a moment leaves where nothing ends: the time is told, and what is published was asked for.
abbrev pub waited : NodeTablesView → ℕ → NodeTablesView
waited t now = record t {
  hearing = record t.hearing { ticks = now };
  models = record t.models { published = after_heartbeat (after_rows t.models.published now) now };
}

-- by what octets are read, under a store of this value: its network keys, the credentials of its friendships and offers, and the known IV Index
abbrev pub view_in : NodeTablesView → Persist → KeyView
view_in t p = view_of t.hearing.keys.nets (friend_keys t.friends.slots) p.iv.current
