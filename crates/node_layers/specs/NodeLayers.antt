-- What the layers above the lower transport layer say of a life, for this node: one constant, which is that without friendships with these
-- added.
use Rattle.std.specs.Prelude.{ℕ, List, ◌++◌, fold}
use Rattle.std.specs.List.{flat_map}
use Rattle.layer_states.specs.Friends.{FriendsState, after, tick}
use Rattle.layer_states.specs.Friends as F
use Rattle.mesh_types.specs.declared.jobs.Job.{Job}
use Rattle.node_layers.specs.ConfiguredLayers.{configured_layers, sent_publication, sent_reply}
use Rattle.node_layers.specs.Friendship.{control_jobs, ended_calls, friend_keys, friends, is_befriended, is_to_be_kept, replies_to}
use Rattle.node_layers.specs.Publishing.{Publication, heartbeat_jobs, publications_due}
use Rattle.event_definitions.specs.Answers.{config_before, later}
use Rattle.event_definitions.specs.History.{Past}
use Rattle.event_definitions.specs.Jobs.{unless_stored}
use Rattle.event_definitions.specs.Layers.{AccessMessage, Layers}
use Rattle.store_definitions.specs.Config.{Config}

-- a reply to an address of a friendship that still stands is stored
abbrev pub reply_jobs : Config → FriendsState → AccessMessage → ℕ × List ℕ → List Job
reply_jobs c st m reply = unless_stored (F.is_befriended st.slots m.name.src) reply.1 (sent_reply c m reply)

abbrev pub replies_of : Past → Config → AccessMessage → List Job
replies_of past c m =
    let st = fold after (friends past) (ended_calls (config_before past) m) in
    flat_map (reply_jobs c st m) (replies_to past (friends past) m)

-- what is published at a tick goes after the friendships whose time is over have gone; then the heartbeat
abbrev pub published_jobs : Config → FriendsState → Publication → List Job
published_jobs c st p = unless_stored (F.is_befriended st.slots p.row.address) p.payload (sent_publication c p)

abbrev pub published_at : Past → Config → ℕ → List Job
published_at past c ticks =
    let st = after (friends past) (tick (later past ticks)) in
    flat_map (published_jobs c st) (publications_due past c ticks) ++ heartbeat_jobs past c ticks

unfoldable pub node_layers : Layers
node_layers = record configured_layers {
  friend_keys = friend_keys;
  is_befriended = is_befriended;
  is_noted = is_to_be_kept;
  control_jobs = control_jobs;
  replies = replies_of;
  published = published_at;
}
