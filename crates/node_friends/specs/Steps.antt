-- The friendships of a node beside the entries of a life: which calls are the step of which entry.
use Rattle.std.specs.Prelude.{◌≡◌, ℕ, ◌-◌, ◌++◌, ◌∷◌, [], List, Bool, true, false, if◌then◌else◌, Some, fold, map}
use Rattle.std.specs.Option.{option_map_or}
use Rattle.layer_definitions.specs.ControlReading.{control_of}
use Rattle.layer_states.specs.Friends.{FriendsState, after, end_all, tick}
use Rattle.layer_states.specs.declared.friends.OwnShort.{OwnShort}
use Rattle.mesh_base.specs.declared.control.ControlMsg.{ControlMsg}
use Rattle.mesh_types.specs.declared.answers.Answer.{Answer}
use Rattle.mesh_types.specs.declared.answers.Answer.TheVariants as A
use Rattle.node_layers.specs.Configuration.{ends_friendships}
use Rattle.node_layers.specs.Friendship.{act_of, answered_calls, config_after, control_calls, friends, heard_calls, kept_calls, no_friends, own_short, publication_short, replies_to, send_calls, stored}
use Rattle.node_layers.specs.Models.{delivered_by}
use Rattle.node_layers.specs.Publishing.{publications_due}
use Rattle.event_definitions.specs.Answers.{config_before, is_before_cache}
use Rattle.event_definitions.specs.Handling.{past_of}
use Rattle.event_definitions.specs.History.{Insight, OfPdu, Past, Reading, Told, now_of}
use Rattle.event_definitions.specs.Layers.{AccessMessage}
use Rattle.store_definitions.specs.Config.{Config}

-- These are the friendships and offers of a life with these entries so far.
abbrev pub AreFriendsOf : FriendsState → List Told → Type 0
AreFriendsOf st told = st ≡ friends (record { told = told; records = [] })

-- What each call leaves.

-- `heard`
abbrev pub after_heard : FriendsState → Reading → FriendsState
after_heard st r = fold after st (heard_calls r)

-- `control`
abbrev pub after_control : FriendsState → ℕ → Config → Reading → ControlMsg → FriendsState
after_control st now c r m = fold after st (control_calls now c r m ++ answered_calls st now r m)

-- `send`, for each of these messages in turn
abbrev pub after_sent : FriendsState → List OwnShort → FriendsState
after_sent st messages = fold after st (stored messages)

-- The step of an entry.

-- A PDU that got past the message cache: `heard`, before what it asks for.
abbrev pub heard_step : FriendsState → Insight → Answer → FriendsState
heard_step st (OfPdu (Some r) low opening) answer = if is_before_cache answer then st else after_heard st r
heard_step st _ answer = st

-- A control message: `control`.
abbrev pub control_step : FriendsState → Past → Insight → ControlMsg → FriendsState
control_step st past (OfPdu (Some r) low opening) m = after_control st (now_of past.told) (config_before past) r m
control_step st past _ m = st

-- An access message: `end`, where it ends the friendships, then `send` for each reply, of the Configuration Server and of the models.
abbrev pub message_step : Past → FriendsState → AccessMessage → FriendsState
message_step past st m =
    after_sent (if ends_friendships (config_before past) m then after st end_all else st)
    (map (own_short (config_after (config_before past) (act_of past st m)) m) (replies_to past st m))

-- What follows, by the answer: so also `send` for a message that the node was asked to send, `kept` for octets that were kept, and `tick` for
-- time that passed, with `send` behind it for each publication that is due.
abbrev pub answer_step : Past → FriendsState → Told → Answer → FriendsState
answer_step past st e (A.Control name dst opcode params) = control_step st past e.insight (control_of opcode params)
answer_step past st e (A.Delivered name dst key payload) = option_map_or (message_step past st) (delivered_by e) st
answer_step past st e A.Planned = fold after st (send_calls (config_before past) e.entry.event)
answer_step past st e A.Kept = fold after st (kept_calls e.entry.event)
answer_step past st e (A.Ticked now) =
    after_sent (after st (tick now))
    (map publication_short (publications_due past (config_before past) (now - now_of past.told)))
answer_step past st e _ = st

abbrev pub friends_step : FriendsState → Past → Told → FriendsState
friends_step st past e = answer_step past (heard_step st e.insight e.entry.answer) e e.entry.answer

-- An entry more is its step.
abbrev pub GoOn : Type 0
GoOn =
    (st : FriendsState) (told : List Told) (e : Told) → AreFriendsOf st told
    → AreFriendsOf (friends_step st (past_of told e) e) (told ++ e ∷ [])

-- A life begins with no entries.
abbrev pub BeginWith : Type 0
BeginWith = AreFriendsOf no_friends []

-- whether an entry with this answer may change friendships, but for the PDU that was heard
abbrev pub has_step : Answer → Bool
has_step (A.Control name dst opcode params) = true
has_step (A.Delivered name dst key payload) = true
has_step A.Planned = true
has_step A.Kept = true
has_step (A.Ticked now) = true
has_step _ = false

-- whether an entry has a PDU that got past the message cache
abbrev pub has_heard : Insight → Answer → Bool
has_heard (OfPdu (Some r) low opening) answer = if is_before_cache answer then false else true
has_heard _ answer = false

-- Any other entry leaves them.
abbrev pub Stay : Type 0
Stay =
    (st : FriendsState) (told : List Told) (e : Told) → has_heard e.insight e.entry.answer ≡ false
    → has_step e.entry.answer ≡ false
    → AreFriendsOf st told → AreFriendsOf st (told ++ e ∷ [])

-- Messages that are sent one by one.
abbrev pub SentInTurn : Type 0
SentInTurn =
    (st : FriendsState) (messages : List OwnShort) (m : OwnShort)
    → after_sent st (messages ++ m ∷ []) ≡ after_sent (after_sent st messages) (m ∷ [])
