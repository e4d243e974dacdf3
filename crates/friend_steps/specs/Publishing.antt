-- What publications leave of the friendships.
use Rattle.std.specs.Prelude.{ℕ, if◌then◌else◌, List, []}
use Rattle.std.specs.List.{flat_map}
use Rattle.std.specs.Option.{option_map, option_to_list}
use Rattle.layer_definitions.specs.KeyRefresh.{transmit_app}
use Rattle.layer_states.specs.Friends.{FriendsState, after, tick}
use Rattle.layer_states.specs.declared.friends.OwnShort.{OwnShort}
use Rattle.mesh_jobs.specs.Publishing.{publication_under}
use Rattle.node_friends.specs.Steps.{after_sent}
use Rattle.node_layers.specs.Friendship.{publication_short}
use Rattle.node_layers.specs.Publishing.{is_still_held}
use Rattle.node_models.specs.declared.due.DueRow.{DueRow}
use Rattle.store_definitions.specs.Config.{Config}

-- a row that is due as a message of this node; none where the store no longer holds the row, or where its application key isn't held
abbrev pub row_short : Config → DueRow → List OwnShort
row_short c d =
    if is_still_held c d.row
    then option_to_list (option_map (λ keys. publication_short (publication_under c d keys)) (transmit_app c.apps c.nets d.row.app))
    else []

abbrev pub published_left : FriendsState → Config → ℕ → List DueRow → FriendsState
published_left st c now rows = after_sent (after st (tick now)) (flat_map (row_short c) rows)
