-- What is published at a tick, stored and sent, is what the definitions of a life publish.
use Rattle.std.proofs.Common.{◌≡◌, ◌∙◌, ℕ, ◌+◌, ◌-◌, ◌≤◌, ◌^◌, Bool, true, false, cond, List, [], ◌∷◌, ◌++◌, map, filter, min, refl, sym, ap, subst, arith, Option, Some, None}
use Rattle.std.specs.List.{filter_map, flat_map}
use Rattle.std.specs.Option.{option_map, option_to_list}
use Rattle.friend_steps.proofs.Sent.{stranger_stays}
use Rattle.mesh_jobs.specs.Publishing.{IsDueSent, rows_sent}
use Rattle.friend_steps.specs.Publishing.{published_left, row_short}
use Rattle.layer_definitions.specs.KeyRefresh.{transmit_app}
use Rattle.layer_states.specs.Friends.{FriendsState, after, is_befriended, tick}
use Rattle.layer_states.specs.declared.friends.OwnShort.{OwnShort}
use Rattle.mesh_base.specs.declared.keys.UpperKey.{UpperKey}
use Rattle.mesh_jobs.specs.Publishing.{publication_under}
use Rattle.mesh_types.specs.declared.answers.Answer.{Answer}
use Rattle.mesh_types.specs.declared.answers.Answer.TheVariants as A
use Rattle.model_states.specs.Publication.{rows_due}
use Rattle.node_friends.specs.Steps.{AreFriendsOf, GoOn, after_sent, answer_step, friends_step, heard_step}
use Rattle.node_layers.specs.Friendship.{friends, publication_short}
use Rattle.node_layers.specs.Publishing.{Publication, is_still_held, publication_of, publications_due, published}
use Rattle.node_models.specs.Due.{IsDue, due_row}
use Rattle.node_models.specs.declared.due.Due.{Due}
use Rattle.node_models.specs.declared.due.DueRow.{DueRow}
use Rattle.node_records.specs.Meaning.{IsMeaningOf}
use Rattle.node_records.specs.Tables.{config_in}
use Rattle.node_records.specs.declared.persist.Persist.{Persist}
use Rattle.record_types.specs.declared.records.PublishRow.{PublishRow}
use Rattle.record_types.specs.declared.records.StoreRecord.{StoreRecord}
use Rattle.event_definitions.specs.Answers.{config_before}
use Rattle.event_definitions.specs.History.{Insight, OfNothing, Past, Told, now_of}
use Rattle.store_definitions.specs.Config.{Config}

-- A row to an address of no friendship leaves them.

short_stays : (st : FriendsState) (held : Bool) (made : ℕ × UpperKey → OwnShort) (found : Option (ℕ × UpperKey))
    → ((keys : ℕ × UpperKey) → is_befriended st.slots (made keys).dst ≡ false)
    → after_sent st (cond held (option_to_list (option_map made found)) []) ≡ st
short_stays st false made found e = refl
short_stays st true made None e = refl
short_stays st true made (Some keys) e = stranger_stays st (made keys) (e keys)

pub row_stays : (st : FriendsState) (c : Config) (d : DueRow) → is_befriended st.slots d.row.address ≡ false
    → st ≡ after_sent st (row_short c d)
row_stays st c d e =
    sym (short_stays st (is_still_held c d.row) (λ keys. publication_short (publication_under c d keys))
    (transmit_app c.apps c.nets d.row.app) (λ keys. e))

-- The messages of all rows.

of_row : (held : Bool) (found : Option (ℕ × UpperKey)) (made : ℕ × UpperKey → Publication)
    (published : PublishRow → Option Publication) (row : PublishRow) (rows : List PublishRow)
    → published row ≡ option_map made found
    → cond held (option_to_list (option_map (λ keys. publication_short (made keys)) found)) []
    ++ map publication_short (filter_map published rows)
    ≡ map publication_short (filter_map published (cond held (row ∷ rows) rows))
of_row false found made published row rows e = refl
of_row true None made published row rows e = rw e refl
of_row true (Some keys) made published row rows e = rw e refl

rows_are : (past : Past) (c : Config) (now : ℕ) (rows : List PublishRow)
    → flat_map (row_short c) (map (due_row past c now) rows)
    ≡ map publication_short (filter_map (publication_of past c now) (filter (is_still_held c) rows))
rows_are past c now [] = refl
rows_are past c now (row ∷ rows) =
    ap (λ ms. row_short c (due_row past c now row) ++ ms) (rows_are past c now rows)
    ∙ of_row (is_still_held c row) (transmit_app c.apps c.nets row.app) (publication_under c (due_row past c now row))
    (publication_of past c now) row (filter (is_still_held c) rows) refl

-- The step of the entry.

same_time : (from now : ℕ) → from ≤ now → now ≤ 2 ^ 48 → min (2 ^ 48) (from + (now - from)) ≡ now
same_time from now h k = omega (arith, h, k)

published_are : (past : Past) (c : Config) (now : ℕ) → now_of past.told ≤ now → now ≤ 2 ^ 48
    → flat_map (row_short c) (map (due_row past c now) (rows_due (published past) now))
    ≡ map publication_short (publications_due past c (now - now_of past.told))
published_are past c now h k =
    rows_are past c now (rows_due (published past) now)
    ∙ sym (ap (λ n. map publication_short (filter_map (publication_of past c n) (filter (is_still_held c) (rows_due (published past) n))))
    (same_time (now_of past.told) now h k))

pub sent_due : (past : Past) (c : Config) (st : FriendsState) (now : ℕ) (due : Due) (result : Due) → AreFriendsOf st past.told
    → IsDue past c now due → result.rows ≡ rows_sent (after st (tick now)).slots due.rows → result.heartbeat ≡ due.heartbeat
    → IsDueSent past c now result
sent_due past c st now due result are is rows beat = record {
  rows =
      rows
      ∙ ap (λ (s : FriendsState). rows_sent (after s (tick now)).slots due.rows) are
      ∙ ap (λ (ds : List DueRow). rows_sent (after (friends past) (tick now)).slots ds) is.rows;
  heartbeat = beat ∙ is.heartbeat;
}

pub friends_are : GoOn → (past : Past) (p : Persist) (st new : FriendsState) (now : ℕ) (due : Due) (e : Told)
    → IsMeaningOf past.records p → AreFriendsOf st past.told → now_of past.told ≤ now → now ≤ 2 ^ 48
    → IsDue past (config_before past) now due → e.insight ≡ OfNothing → e.entry.answer ≡ A.Ticked now → e.records ≡ past.records
    → new ≡ published_left st (config_in p) now due.rows → AreFriendsOf new (past.told ++ e ∷ [])
friends_are more past p st new now due e means are h k is nothing ticked records left =
    let c : Config = config_before past in
    subst (λ (s : FriendsState). AreFriendsOf s (past.told ++ e ∷ [])) (sym (
    left
    ∙ ap (λ (d : Config). published_left st d now due.rows) means.config
    ∙ ap (λ (ds : List DueRow). published_left st c now ds) is.rows
    ∙ ap (λ (ms : List OwnShort). after_sent (after st (tick now)) ms) (published_are past c now h k)
    ∙ sym (ap (λ (i : Insight). answer_step past (heard_step st i (A.Ticked now)) e (A.Ticked now)) nothing)
    ∙ sym (ap (λ (x : Answer). answer_step past (heard_step st e.insight x) e x) ticked)
    ∙ sym (ap (λ (rs : List StoreRecord). friends_step st (record { told = past.told; records = rs }) e) records)
    ))
    (more st past.told e are)
