-- What is sent of the rows that are due, with the Statuses that they publish.
use Rattle.std.specs.Prelude.{◌≡◌, ℕ, ◌==◌, not, if◌then◌else◌, List, [], map, filter}
use Rattle.std.specs.Option.{option_map_or}
use Rattle.layer_definitions.specs.KeyRefresh.{transmit_app}
use Rattle.layer_states.specs.Friends.{after, is_befriended, tick}
use Rattle.layer_states.specs.declared.friends.Friendship.{Friendship}
use Rattle.mesh_base.specs.declared.keys.UpperKey.{UpperKey}
use Rattle.mesh_types.specs.declared.jobs.Job.{Job}
use Rattle.node_layers.specs.ConfiguredLayers.{sent_publication}
use Rattle.model_states.specs.Publication.{heartbeat_due, rows_due}
use Rattle.node_layers.specs.Friendship.{friends}
use Rattle.node_layers.specs.Publishing.{Publication, is_still_held, published}
use Rattle.node_models.specs.Due.{due_row}
use Rattle.node_models.specs.declared.due.Due.{Due}
use Rattle.node_models.specs.declared.due.DueRow.{DueRow}
use Rattle.event_definitions.specs.History.{Past}
use Rattle.store_definitions.specs.Config.{Config}

-- as a publication under these keys, with TTL ff as the Default TTL
abbrev pub publication_under : Config → DueRow → ℕ × UpperKey → Publication
publication_under c d keys = record {
  row = d.row;
  net = keys.0;
  key = keys.1;
  ttl = if d.row.ttl == 0xff then c.ttl else d.row.ttl;
  payload = d.status;
}

-- its job; none where the store no longer holds the row, or where its application key isn't held
abbrev pub sent_row : Config → DueRow → List Job
sent_row c d =
    if is_still_held c d.row
    then option_map_or (λ keys. sent_publication c (publication_under c d keys))
    (transmit_app c.apps c.nets d.row.app) []
    else []

-- of the rows that are due, those to an address of none of these friendships: a Status goes unsegmented, so what goes to one is stored
abbrev pub rows_sent : List Friendship → List DueRow → List DueRow
rows_sent slots rows = filter (λ (d : DueRow). not (is_befriended slots d.row.address)) rows

-- After a past this is due at this moment and sent, in a node of which the records say `c`: the friendships are those whose time isn't over
-- then. The heartbeat is always sent.
pub record IsDueSent (past : Past) (c : Config) (now : ℕ) (due : Due) : Type 0 where
  pub rows : due.rows
      ≡ rows_sent (after (friends past) (tick now)).slots (map (due_row past c now) (rows_due (published past) now))
  pub heartbeat : due.heartbeat ≡ heartbeat_due (published past) now
