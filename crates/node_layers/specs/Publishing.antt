-- What the node publishes of itself in a life, and its heartbeats (Mesh Profile 1.0.1, sections 4.2.2 and 4.2.17).
use Rattle.std.specs.Prelude.{ℕ, ◌+◌, ◌-◌, ◌==◌, ◌&&◌, ◌||◌, Bool, if◌then◌else◌, List, [], ◌∷◌, filter, Option, Some, None}
use Rattle.std.specs.List.{filter_map, list_any}
use Rattle.std.specs.Option.{option_map, option_map_or}
use Rattle.cipher_definitions.specs.Octets.{two_octets}
use Rattle.config_definitions.specs.declared.acts.ConfigAct.{ConfigAct}
use Rattle.layer_definitions.specs.KeyRefresh.{transmit_app}
use Rattle.mesh_base.specs.declared.fields.NetMaterial.{NetMaterial}
use Rattle.mesh_base.specs.declared.keys.UpperKey.{UpperKey}
use Rattle.mesh_types.specs.declared.answers.Answer.{Answer}
use Rattle.mesh_types.specs.declared.answers.Answer.TheVariants as A
use Rattle.mesh_types.specs.declared.jobs.Job.{Job}
use Rattle.mesh_types.specs.declared.jobs.Job.TheVariants as J
use Rattle.model_states.specs.Level.{level_status}
use Rattle.model_states.specs.OnOff.{onoff_status}
use Rattle.model_states.specs.Publication.{Published, after_heartbeat, after_rows, heartbeat_due, heartbeat_set, no_heartbeat, published_from, row_set, rows_due}
use Rattle.model_states.specs.declared.publication.HeartbeatRow.{HeartbeatRow}
use Rattle.node_layers.specs.Configuration.{config_act}
use Rattle.node_layers.specs.Models.{delivered_by, first_records, level_server, level_state, onoff_server, onoff_state}
use Rattle.record_types.specs.declared.records.PublishRow.{PublishRow}
use Rattle.record_types.specs.declared.records.StoreRecord.{StoreRecord}
use Rattle.record_types.specs.declared.records.StoreRecord.TheVariants as R
use Rattle.event_definitions.specs.Answers.{later}
use Rattle.event_definitions.specs.History.{Past, Told, ticks_after}
use Rattle.event_definitions.specs.Jobs.{element_address, under}
use Rattle.event_definitions.specs.Layers.{AccessMessage}
use Rattle.store_definitions.specs.Config.{Config, config_of, is_element}

-- rows of this node's elements and of models that it has
abbrev pub is_own_row : Config → PublishRow → Bool
is_own_row c row = is_element c row.element.0 && (row.model == onoff_server || row.model == level_server)

-- The calls of a life on what is published.

-- a Publication Set that was stored, and a Heartbeat Publication Set that was done; neither depends on what a Status would show
abbrev pub stored_row : Option StoreRecord → Option PublishRow
stored_row (Some (R.Publish row)) = Some row
stored_row _ = None

abbrev pub published_by_act : Published → ℕ → ConfigAct → Published
published_by_act p now act =
    let with_row = option_map_or (row_set p now) (stored_row act.change) p in
    option_map_or (heartbeat_set with_row now) act.beat with_row

abbrev pub published_by_message : Published → ℕ → Config → AccessMessage → Published
published_by_message p now c m = option_map_or (published_by_act p now) (config_act c [] no_heartbeat m) p

abbrev pub published_by_tick : Published → Answer → Published
published_by_tick p (A.Ticked now) = after_heartbeat (after_rows p now) now
published_by_tick p _ = p

abbrev pub published_with : Published → ℕ → Told → Published
published_with p now t =
    published_by_tick
    (option_map_or (published_by_message p now (config_of t.records)) (delivered_by t) p) t.entry.answer

abbrev pub published_after : Published → ℕ → List Told → Published
published_after p now [] = p
published_after p now (t ∷ ts) = published_after (published_with p now t) (ticks_after now t.entry.answer) ts

-- what is published at the end of what was told: a life opens with the rows that its records have
abbrev pub published : Past → Published
published past =
    let c = config_of (first_records past) in
    published_after (published_from (filter (is_own_row c) c.publications)) 0 past.told

-- What is due at a tick. A row that the store no longer holds, or whose application key isn't held, is passed over.

abbrev pub is_row : PublishRow → PublishRow → Bool
is_row a b =
    a.element.0 == b.element.0 && a.model == b.model && a.address.0 == b.address.0 && a.app == b.app && a.ttl == b.ttl
    && a.period == b.period
    && a.retransmit == b.retransmit

abbrev pub is_still_held : Config → PublishRow → Bool
is_still_held c row = is_own_row c row && list_any (is_row row) c.publications

-- the Status of the row's model at this moment
abbrev pub status_of : Past → Config → PublishRow → ℕ → List ℕ
status_of past c row now =
    let element = row.element.0 - c.unicast.0 in
    if row.model == onoff_server then onoff_status (onoff_state past element) now
    else level_status (level_state past element) now

-- a publication: the row, with the network key index and the key that its application key is sent with, and the Status
pub record Publication : Type 0 where
  pub row : PublishRow
  pub net : ℕ
  pub key : UpperKey
  pub ttl : ℕ
  pub payload : List ℕ

abbrev pub publication_of : Past → Config → ℕ → PublishRow → Option Publication
publication_of past c now row =
    option_map
    (λ keys. record { row = row; net = keys.0; key = keys.1; ttl = ttl_of row; payload = status_of past c row now })
    (transmit_app c.apps c.nets row.app)
  where
    ttl_of : PublishRow → ℕ
    ttl_of r = if r.ttl == 0xff then c.ttl else r.ttl

abbrev pub publications_due : Past → Config → ℕ → List Publication
publications_due past c ticks =
    let now = later past ticks in
    filter_map (publication_of past c now) (filter (is_still_held c) (rows_due (published past) now))

abbrev pub publication_job : Publication → NetMaterial → Job
publication_job p m = J.Message p.net m p.key p.ttl p.row.element p.row.address p.payload None

-- Features of a heartbeat: bit 0 Relay, bit 2 Friend (4.2.17.5)
abbrev pub features_of : Config → ℕ
features_of c = (if c.relay == 1 then 1 else 0) + (if c.friend == 1 then 4 else 0)

-- a Heartbeat from the first element: InitTTL and Features (3.6.5.10)
abbrev pub heartbeat_job : Config → HeartbeatRow → NetMaterial → Job
heartbeat_job c row m =
    J.Control m row.ttl (element_address c 0) row.dst (0x0a ∷ row.ttl ∷ two_octets (features_of c)) None

abbrev pub heartbeat_jobs : Past → Config → ℕ → List Job
heartbeat_jobs past c ticks =
    option_map_or (λ row. under c row.net (heartbeat_job c row)) (heartbeat_due (published past) (later past ticks)) []
