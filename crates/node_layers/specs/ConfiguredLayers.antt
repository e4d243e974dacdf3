-- The layers of a node without friendships: those below, and above them the Configuration Server, the models, and what is published.
use Rattle.std.specs.Prelude.{ℕ, List, [], ◌++◌, None}
use Rattle.std.specs.List.{flat_map}
use Rattle.std.specs.Option.{option_map_or, option_to_list}
use Rattle.config_definitions.specs.declared.acts.ConfigAct.{ConfigAct}
use Rattle.mesh_base.specs.declared.fields.NetMaterial.{NetMaterial}
use Rattle.mesh_types.specs.declared.jobs.Job.{Job}
use Rattle.mesh_types.specs.declared.jobs.Job.TheVariants as J
use Rattle.model_states.specs.Publication.{no_heartbeat}
use Rattle.node_layers.specs.BuiltLayers.{built_layers}
use Rattle.node_layers.specs.Configuration.{config_act}
use Rattle.node_layers.specs.Friendship.{no_friends, replies_to}
use Rattle.node_layers.specs.Models.{model_records}
use Rattle.node_layers.specs.Publishing.{Publication, heartbeat_jobs, publication_job, publications_due}
use Rattle.record_types.specs.declared.records.StoreRecord.{StoreRecord}
use Rattle.event_definitions.specs.Answers.{config_before}
use Rattle.event_definitions.specs.History.{Past}
use Rattle.event_definitions.specs.Jobs.{element_address, reply_ttl, under}
use Rattle.event_definitions.specs.Layers.{AccessMessage, Layers}
use Rattle.store_definitions.specs.Config.{Config}

-- What a message stores: the record of the configuration that it asks for, then the values of the models that it changes, by element.
abbrev pub changes_of : Past → AccessMessage → List StoreRecord
changes_of past m =
    option_map_or (λ (act : ConfigAct). option_to_list act.change)
    (config_act (config_before past) [] no_heartbeat m) [] ++ model_records past m

-- A reply goes from its element under the key by which the message was heard.

abbrev pub reply_job : Config → AccessMessage → ℕ × List ℕ → NetMaterial → Job
reply_job c m reply material =
    J.Message m.net material m.key (reply_ttl c m.ttl) (element_address c reply.0) m.name.src reply.1 None

abbrev pub sent_reply : Config → AccessMessage → ℕ × List ℕ → List Job
sent_reply c m reply = under c m.net (reply_job c m reply)

abbrev pub sent_replies : Past → Config → AccessMessage → List Job
sent_replies past c m = flat_map (sent_reply c m) (replies_to past no_friends m)

-- what is published at a tick; then the heartbeat
abbrev pub sent_publication : Config → Publication → List Job
sent_publication c p = under c p.net (publication_job p)

abbrev pub sent_publications : Past → Config → ℕ → List Job
sent_publications past c ticks =
    flat_map (sent_publication c) (publications_due past c ticks) ++ heartbeat_jobs past c ticks

unfoldable pub configured_layers : Layers
configured_layers = record built_layers {
  changes = changes_of;
  replies = sent_replies;
  published = sent_publications;
}
