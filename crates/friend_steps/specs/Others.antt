-- Entries in which friendships have no part.
use Rattle.std.specs.Prelude.{◌≡◌, ◌∷◌, ◌++◌, [], List, Bool, true, false}
use Rattle.layer_states.specs.Friends.{FriendsState}
use Rattle.mesh_types.specs.declared.answers.Answer.{Answer}
use Rattle.mesh_types.specs.declared.answers.Answer.TheVariants as A
use Rattle.mesh_types.specs.declared.events.Event.{Event}
use Rattle.mesh_types.specs.declared.events.Event.TheVariants as E
use Rattle.node_friends.specs.Steps.{AreFriendsOf}
use Rattle.event_definitions.specs.History.{Insight, OfPdu, Told}

-- whether octets were read as a network PDU
abbrev pub has_reading : Insight → Bool
has_reading (OfPdu reading low opening) = true
has_reading _ = false

-- whether an event without such octets may change friendships, where it was answered so
abbrev pub changes_friends : Event → Answer → Bool
changes_friends (E.Send element dst ttl key payload) A.Planned = true
changes_friends (E.Kept lpn fsn name pdu) A.Kept = true
changes_friends event (A.Ticked now) = true
changes_friends event _ = false

-- An entry that may not leaves them.
abbrev pub LeaveFriends : Type 0
LeaveFriends =
    (st : FriendsState) (told : List Told) (e : Told) → AreFriendsOf st told → has_reading e.insight ≡ false
    → changes_friends e.entry.event e.entry.answer ≡ false → AreFriendsOf st (told ++ e ∷ [])
