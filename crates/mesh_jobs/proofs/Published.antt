-- What is sent of the rows that are due is what the definitions of a life publish.
use Rattle.std.proofs.Common.{◌≡◌, ◌∙◌, ℕ, suc, ◌-◌, ◌/◌, ◌%◌, Bool, true, false, cond, List, [], ◌∷◌, ◌++◌, length, map, filter, refl, ap, Option, Some, None}
use Rattle.std.specs.Prelude.{◌==◌, ◌&&◌, not, nat_le}
use Rattle.std.specs.List.{filter_map, flat_map}
use Rattle.std.specs.Int.{cast_unsigned, w16}
use Rattle.std.specs.Option.{option_map, option_map_or}
use Rattle.layer_definitions.specs.KeyRefresh.{transmit_app}
use Rattle.layer_states.specs.Friends.{FriendsState, after, is_befriended, tick}
use Rattle.mesh_base.specs.declared.keys.UpperKey.{UpperKey}
use Rattle.mesh_jobs.specs.Publishing.{IsDueSent, publication_under, rows_sent, sent_row}
use Rattle.mesh_types.specs.declared.jobs.Job.{Job}
use Rattle.model_states.specs.Level.{is_level_over, level_ahead, level_present, level_status}
use Rattle.model_states.specs.OnOff.{onoff_octet, onoff_present, onoff_status}
use Rattle.model_states.specs.Timing.{is_over, remaining_time, ticks_left}
use Rattle.model_states.specs.declared.models.Goal.{Goal}
use Rattle.model_states.specs.declared.models.Goal.TheVariants.{To, Along}
use Rattle.model_states.specs.declared.models.LevelState.{LevelState}
use Rattle.model_states.specs.declared.models.OnOffState.{OnOffState}
use Rattle.model_states.specs.declared.publication.HeartbeatRow.{HeartbeatRow}
use Rattle.node_layers.specs.ConfiguredLayers.{sent_publication}
use Rattle.node_layers.specs.Friendship.{friends, is_short}
use Rattle.node_layers.specs.Models.{level_state, onoff_server, onoff_state}
use Rattle.node_layers.specs.NodeLayers.{published_at, published_jobs}
use Rattle.node_layers.specs.Publishing.{Publication, heartbeat_job, is_still_held, publication_of, publications_due, status_of}
use Rattle.node_models.specs.Due.{due_row}
use Rattle.node_models.specs.declared.due.Due.{Due}
use Rattle.node_models.specs.declared.due.DueRow.{DueRow}
use Rattle.record_types.specs.declared.records.PublishRow.{PublishRow}
use Rattle.event_definitions.specs.Answers.{later}
use Rattle.event_definitions.specs.History.{Past}
use Rattle.event_definitions.specs.Jobs.{under}
use Rattle.store_definitions.specs.Config.{Config}

-- A Status goes unsegmented.

onoff_short : (s : OnOffState) (now : ℕ) → is_short (onoff_status s now) ≡ true
onoff_short s now =
    elim (is_over s.timing (now - s.taken)) as (λ t.
    is_short
    (0x82 ∷ 0x04 ∷ onoff_octet (onoff_present s now)
    ∷ cond t [] (onoff_octet s.target ∷ remaining_time (ticks_left s.timing (now - s.taken)) ∷ []))
    ≡ true) [
      | true ↦ refl
      | false ↦ refl
    ]

ahead_three : (s : LevelState) (now : ℕ) (goal : Goal) → s.goal ≡ goal → length (level_ahead s now) ≡ 3
ahead_three s now (To target) e = rw e refl
ahead_three s now (Along delta) e = rw e refl

short_with : (b : Bool) (first second third fourth : ℕ) (ahead : List ℕ) → length ahead ≡ 3
    → is_short (first ∷ second ∷ third ∷ fourth ∷ cond b [] ahead) ≡ true
short_with true first second third fourth ahead e = refl
short_with false first second third fourth ahead e = ap (λ n. nat_le (suc (suc (suc (suc n)))) 11) e

level_short : (s : LevelState) (now : ℕ) → is_short (level_status s now) ≡ true
level_short s now =
    let level = cast_unsigned w16 (level_present s now) in
    short_with (is_level_over s now) 0x82 0x08 (level % 256) (level / 256 % 256) (level_ahead s now)
    (ahead_three s now s.goal refl)

status_short : (past : Past) (c : Config) (row : PublishRow) (now : ℕ) → is_short (status_of past c row now) ≡ true
status_short past c row now =
    let element = row.element.0 - c.unicast.0 in
    elim (row.model == onoff_server) as (λ t.
    is_short (cond t (onoff_status (onoff_state past element) now) (level_status (level_state past element) now)) ≡ true) [
      | true ↦ onoff_short (onoff_state past element) now
      | false ↦ level_short (level_state past element) now
    ]

-- One row more, whether or not its address is that of a friendship, and whether or not it is held and its key is.

sent_where : {X : Type 0} (b : Bool) (job : X → List Job) (x : X) (xs : List X)
    → flat_map job (cond (not b) (x ∷ xs) xs) ≡ cond b (flat_map job xs) (job x ++ flat_map job xs)
sent_where true job x xs = refl
sent_where false job x xs = refl

stored_where : (b short : Bool) (jobs : List Job) → short ≡ true → cond (b && short) [] jobs ≡ cond b [] jobs
stored_where b true jobs e = elim b as (λ t. cond (t && true) [] jobs ≡ cond t [] jobs) [ true ↦ refl | false ↦ refl ]
stored_where b false jobs e = cc

of_row : (b held : Bool) (found : Option (ℕ × UpperKey)) (made : ℕ × UpperKey → Publication)
    (sent jobs : Publication → List Job) (published : PublishRow → Option Publication) (row : PublishRow)
    (rows : List PublishRow) (rest : List Job)
    → published row ≡ option_map made found
    → ((keys : ℕ × UpperKey) → jobs (made keys) ≡ cond b [] (sent (made keys)))
    → rest ≡ flat_map jobs (filter_map published rows)
    → cond b rest (cond held (option_map_or (λ keys. sent (made keys)) found []) [] ++ rest)
    ≡ flat_map jobs (filter_map published (cond held (row ∷ rows) rows))
of_row true false found made sent jobs published row rows rest e k r = r
of_row true true None made sent jobs published row rows rest e k r = rw e r
of_row true true (Some keys) made sent jobs published row rows rest e k r = rw (e, k keys) r
of_row false false found made sent jobs published row rows rest e k r = r
of_row false true None made sent jobs published row rows rest e k r = rw e r
of_row false true (Some keys) made sent jobs published row rows rest e k r = rw (e, k keys, r) refl

rows_are : (past : Past) (c : Config) (now : ℕ) (st : FriendsState) (rows : List PublishRow)
    → flat_map (sent_row c) (rows_sent st.slots (map (due_row past c now) rows))
    ≡ flat_map (published_jobs c st) (filter_map (publication_of past c now) (filter (is_still_held c) rows))
rows_are past c now st [] = refl
rows_are past c now st (row ∷ rows) =
    let d = due_row past c now row in
    let b = is_befriended st.slots row.address in
    sent_where b (sent_row c) d (rows_sent st.slots (map (due_row past c now) rows))
    ∙ of_row b (is_still_held c row) (transmit_app c.apps c.nets row.app) (publication_under c d)
    (sent_publication c) (published_jobs c st) (publication_of past c now) row (filter (is_still_held c) rows)
    (flat_map (sent_row c) (rows_sent st.slots (map (due_row past c now) rows))) refl
    (λ keys. stored_where b (is_short d.status) (sent_publication c (publication_under c d keys)) (status_short past c row now))
    (rows_are past c now st rows)

-- what is sent of a heartbeat
abbrev pub sent_heartbeat : Config → Option HeartbeatRow → List Job
sent_heartbeat c due = option_map_or (λ (row : HeartbeatRow). under c row.net (heartbeat_job c row)) due []

pub published_are : (past : Past) (c : Config) (ticks : ℕ) (due : Due) → IsDueSent past c (later past ticks) due
    → flat_map (sent_row c) due.rows ++ sent_heartbeat c due.heartbeat ≡ published_at past c ticks
published_are past c ticks due is =
    let st : FriendsState = after (friends past) (tick (later past ticks)) in
    ap (λ (rows : List DueRow). flat_map (sent_row c) rows ++ sent_heartbeat c due.heartbeat) is.rows
    ∙ ap (λ (js : List Job). js ++ sent_heartbeat c due.heartbeat) (rows_are past c (later past ticks) st _)
    ∙ ap (λ (beat : Option HeartbeatRow).
    flat_map (published_jobs c st) (publications_due past c ticks) ++ sent_heartbeat c beat) is.heartbeat
