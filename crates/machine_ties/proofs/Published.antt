-- What is published, and the heartbeat, are within their ranges.
use Rattle.std.proofs.Common.{◌≡◌, ℕ, ◌-◌, Bool, true, false, cond, eqb, List, [], ◌∷◌, filter, refl, arith, Option, Some, None, ◌^◌, ◌<◌}
use Rattle.std.specs.Bool.{⊤}
use Rattle.std.specs.List.{AllByRecursion as Every, flat_map, list_any}
use Rattle.std.specs.Option.{option_map, option_map_or}
use Rattle.config_definitions.proofs.Answered.{IsReplied}
use Rattle.config_definitions.specs.declared.acts.ConfigAct.{ConfigAct}
use Rattle.element_models.proofs.Filled.{IsFilled, level_filled, onoff_filled}
use Rattle.friend_steps.proofs.Ttls.{HasTtl, held_ttl, ttl_short}
use Rattle.layer_definitions.specs.KeyRefresh.{transmit_app}
use Rattle.layer_laws.proofs.Lists.{and_true}
use Rattle.layer_states.specs.Friends.{FriendsState, after, tick}
use Rattle.machine_contract.specs.Ranges.{IsJob, IsUpperKey}
use Rattle.machine_ties.proofs.Acks.{IsShort}
use Rattle.mesh_base.proofs.Every.{Inside, every_append, every_chosen, every_flat, every_pick}
use Rattle.machine_ties.proofs.Replied.{acts}
use Rattle.machine_ties.proofs.Widths.{HasUpperKey, app_width, every_under}
use Rattle.mesh_base.specs.declared.keys.UpperKey.{UpperKey}
use Rattle.mesh_types.specs.declared.answers.Answer.{Answer}
use Rattle.mesh_types.specs.declared.answers.Answer.TheVariants as A
use Rattle.mesh_types.specs.declared.events.Event.{Event}
use Rattle.model_states.specs.Level.{level_status}
use Rattle.model_states.specs.OnOff.{onoff_status}
use Rattle.model_states.specs.Publication.{Published, after_heartbeat, after_rows, heartbeat_due, heartbeat_set, is_heartbeat_due, no_heartbeat, row_set, rows_due}
use Rattle.model_states.specs.declared.publication.Heartbeat.{Heartbeat}
use Rattle.model_states.specs.declared.publication.HeartbeatRow.{HeartbeatRow}
use Rattle.node_layers.specs.Configuration.{config_act}
use Rattle.node_layers.specs.ConfiguredLayers.{sent_publication}
use Rattle.node_layers.specs.Friendship.{friends}
use Rattle.node_layers.specs.Models.{delivered_by, level_state, onoff_server, onoff_state}
use Rattle.node_layers.specs.NodeLayers.{published_at, published_jobs}
use Rattle.node_layers.specs.Publishing.{Publication, heartbeat_job, heartbeat_jobs, is_own_row, is_row, is_still_held, publication_job, publication_of, publications_due, published, published_after, published_by_act, published_by_message, published_by_tick, published_with, status_of, stored_row}
use Rattle.node_snapshot.proofs.Built.{IsPublishRow}
use Rattle.record_types.specs.declared.records.PublishRow.{PublishRow}
use Rattle.event_definitions.specs.Answers.{later}
use Rattle.event_definitions.specs.History.{Past, Told, ticks_after}
use Rattle.event_definitions.specs.Jobs.{under}
use Rattle.event_definitions.specs.Layers.{AccessMessage}
use Rattle.store_definitions.specs.Config.{Config, config_of}

-- Publications.

pub record IsSendable (p : Publication) : Type 0 where
  pub key : IsUpperKey p.key
  pub ttl : IsShort p.ttl
  pub octet : IsFilled p.payload

status_filled : (past : Past) (c : Config) (row : PublishRow) (now : ℕ) → IsFilled (status_of past c row now)
status_filled past c row now = pick_by (eqb row.model onoff_server) (row.element.0 - c.unicast.0)
  where
    pick_by : (b : Bool) (element : ℕ)
        → IsFilled (cond b (onoff_status (onoff_state past element) now) (level_status (level_state past element) now))
    pick_by true element = onoff_filled (onoff_state past element) now
    pick_by false element = level_filled (level_state past element) now

every_kept : {X : Type 0} (test : X → Bool) (xs : List X) → Every (λ y. test y ≡ true) (filter test xs)
every_kept test [] = tt
every_kept {X = X} test (x ∷ xs) = pick_by (test x) refl (filter test xs) (every_kept test xs)
  where
    pick_by : (b : Bool) → test x ≡ b → (kept : List X) → Every (λ y. test y ≡ true) kept
        → Every (λ y. test y ≡ true) (cond b (x ∷ kept) kept)
    pick_by true e kept rest = (e, rest)
    pick_by false e kept rest = rest

publication_sendable : (past : Past) (c : Config) (now : ℕ) → IsShort c.ttl → Every IsPublishRow c.publications
    → (row : PublishRow) → is_still_held c row ≡ true → Inside IsSendable (publication_of past c now row)
publication_sendable past c now short rows row held = keyed (transmit_app c.apps c.nets row.app) (app_width c row.app)
  where
    ttl : HasTtl row.ttl
    ttl = held_ttl row c.publications (and_true (is_own_row c row) (list_any (is_row row) c.publications) held).1 rows

    made : ℕ × UpperKey → Publication
    made keys = record {
      row = row;
      net = keys.0;
      key = keys.1;
      ttl = cond (eqb row.ttl 0xff) c.ttl row.ttl;
      payload = status_of past c row now;
    }

    keyed : (o : Option (ℕ × UpperKey)) → Inside HasUpperKey o → Inside IsSendable (option_map made o)
    keyed None h = tt
    keyed (Some keys) h =
        record { key = h; ttl = ttl_short row.ttl c.ttl ttl short; octet = status_filled past c row now }

sendable : (past : Past) (c : Config) (ticks : ℕ) → IsShort c.ttl → Every IsPublishRow c.publications
    → Every IsSendable (publications_due past c ticks)
sendable past c ticks short rows =
    let now : ℕ = later past ticks in
    let due : List PublishRow = rows_due (published past) now in
    every_chosen (λ row. is_still_held c row ≡ true) IsSendable (publication_of past c now)
    (publication_sendable past c now short rows) (filter (is_still_held c) due) (every_kept (is_still_held c) due)

-- The heartbeat of a life has a TTL of 7 bits: so had each that was set.

abbrev IsShortBeat : Option HeartbeatRow → Type 0
IsShortBeat o = Inside (λ (row : HeartbeatRow). row.ttl < 2 ^ 7) o

abbrev IsShortHeartbeat : Option Heartbeat → Type 0
IsShortHeartbeat None = ⊤
IsShortHeartbeat (Some h) = IsShort h.row.ttl

abbrev IsBeating : Published → Type 0
IsBeating p = IsShortHeartbeat p.heartbeat

row_beats : (p : Published) (now : ℕ) (o : Option PublishRow) → IsBeating p
    → IsBeating (option_map_or (row_set p now) o p)
row_beats p now None g = g
row_beats p now (Some row) g = g

beat_beats : (p : Published) (now : ℕ) (o : Option HeartbeatRow) → IsShortBeat o → IsBeating p
    → IsBeating (option_map_or (heartbeat_set p now) o p)
beat_beats p now None h g = g
beat_beats p now (Some row) h g = h

act_beats : (p : Published) (now : ℕ) (o : Option ConfigAct) → Inside IsReplied o → IsBeating p
    → IsBeating (option_map_or (published_by_act p now) o p)
act_beats p now None h g = g
act_beats p now (Some act) h g =
    beat_beats (option_map_or (row_set p now) (stored_row act.change) p) now act.beat h.beat
    (row_beats p now (stored_row act.change) g)

message_beats : (p : Published) (now : ℕ) (c : Config) (o : Option AccessMessage) → IsBeating p
    → IsBeating (option_map_or (published_by_message p now c) o p)
message_beats p now c None g = g
message_beats p now c (Some m) g = act_beats p now (config_act c [] no_heartbeat m) (acts c [] no_heartbeat m) g

after_beats : (rows : Published) (now : ℕ) (o : Option Heartbeat) → rows.heartbeat ≡ o → IsShortHeartbeat o
    → IsBeating (after_heartbeat rows now)
after_beats p now None e h = rw e tt
after_beats p now (Some b) e h = rw e h

tick_beats : (p : Published) (a : Answer) → IsBeating p → IsBeating (published_by_tick p a)
tick_beats p (A.Ticked now) g = after_beats (after_rows p now) now p.heartbeat refl g
tick_beats p _ g = g

told_beats : (p : Published) (now : ℕ) (told : List Told) → IsBeating p → IsBeating (published_after p now told)
told_beats p now [] g = g
told_beats p now (t ∷ ts) g =
    told_beats (published_with p now t) (ticks_after now t.entry.answer) ts
    (tick_beats (option_map_or (published_by_message p now (config_of t.records)) (delivered_by t) p) t.entry.answer
    (message_beats p now (config_of t.records) (delivered_by t) g))

published_beats : (past : Past) → IsBeating (published past)
published_beats past = told_beats _ 0 past.told tt

due_short : (p : Published) (now : ℕ) (o : Option Heartbeat) → p.heartbeat ≡ o → IsShortHeartbeat o
    → IsShortBeat (heartbeat_due p now)
due_short p now None e h = rw e tt
due_short p now (Some b) e h = rw e (pick_by (is_heartbeat_due now b))
  where
    pick_by : (due : Bool) → IsShortBeat (cond due (Some b.row) None)
    pick_by true = h
    pick_by false = tt

heartbeat_in : (event : Event) (past : Past) (c : Config) (ticks : ℕ)
    → Every (IsJob event) (heartbeat_jobs past c ticks)
heartbeat_in event past c ticks =
    let now : ℕ = later past ticks in
    let p : Published = published past in
    pick_by (heartbeat_due p now) (due_short p now p.heartbeat refl (published_beats past))
  where
    pick_by : (o : Option HeartbeatRow) → IsShortBeat o
        → Every (IsJob event) (option_map_or (λ (row : HeartbeatRow). under c row.net (heartbeat_job c row)) o [])
    pick_by None h = tt
    pick_by (Some row) h =
        every_under (IsJob event) c row.net (heartbeat_job c row) (λ m nid. (nid, h, omega arith, omega arith))

-- So each is a job within its ranges.

pub published_in : (event : Event) (past : Past) (c : Config) (ticks : ℕ) → IsShort c.ttl
    → Every IsPublishRow c.publications → Every (IsJob event) (published_at past c ticks)
published_in event past c ticks short rows =
    let st : FriendsState = after (friends past) (tick (later past ticks)) in
    every_append (IsJob event) (flat_map (published_jobs c st) (publications_due past c ticks)) (heartbeat_jobs past c ticks)
    (every_flat IsSendable (IsJob event) (published_jobs c st)
    (λ p h. every_pick (IsJob event) _ [] (sent_publication c p) tt
    (every_under (IsJob event) c p.net (publication_job p) (λ m nid. (nid, h.ttl, h.key, h.octet))))
    (publications_due past c ticks) (sendable past c ticks short rows))
    (heartbeat_in event past c ticks)
