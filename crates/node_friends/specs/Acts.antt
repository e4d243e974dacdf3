-- What a control message leads to, and what that asks to be sent (Mesh Profile 1.0.1, sections 3.6.6 and 3.5.5).
use Rattle.std.specs.Prelude.{◌≡◌, ℕ, ◌&&◌, Bool, is_some, if◌then◌else◌, List, [], ◌∷◌, ◌++◌, None, Result, Ok, Err}
use Rattle.std.specs.List.{list_any}
use Rattle.layer_definitions.specs.KeyRefresh.{net_row}
use Rattle.layer_states.specs.Friends.{FriendsState, is_cleared, is_friend, offered, poll_result}
use Rattle.layer_states.specs.declared.friends.FriendFault.{FriendFault}
use Rattle.layer_states.specs.declared.friends.Polled.{Polled}
use Rattle.mesh_base.specs.declared.control.ControlMsg.{ControlMsg}
use Rattle.mesh_base.specs.declared.control.ControlMsg.TheVariants as C
use Rattle.mesh_base.specs.declared.control.Offer.{Offer}
use Rattle.mesh_types.specs.declared.jobs.Job.{Job}
use Rattle.node_friends.specs.declared.acts.FriendAct.{FriendAct}
use Rattle.node_friends.specs.declared.acts.FriendAct.TheVariants as A
use Rattle.node_layers.specs.Friendship.{answer_jobs, clear_jobs, is_by_friend, is_by_master, is_request, own_control}
use Rattle.event_definitions.specs.History.{Reading}
use Rattle.event_definitions.specs.Jobs.{under}
use Rattle.store_definitions.specs.Config.{Config}

-- What a control message leads to, by the state that it meets.

abbrev pub offer_act : Result Offer FriendFault → FriendAct
offer_act (Ok offer) = A.Offered offer
offer_act (Err fault) = A.Nothing

abbrev pub poll_act : Bool → Result Polled FriendFault → FriendAct
poll_act fsn (Ok polled) = A.Answered fsn polled
poll_act fsn (Err fault) = A.Nothing

-- a list message of a friendship is confirmed
abbrev pub list_act : FriendsState → Reading → ℕ → FriendAct
list_act st r transaction =
    if is_by_friend r && list_any (is_friend r.fields.src) st.slots then A.Confirmed transaction else A.Nothing

abbrev pub friend_act : Config → FriendsState → ℕ → Reading → ControlMsg → FriendAct
friend_act c st now r (C.Request q) =
    if is_request c r && is_some (net_row c.nets r.by.index) then offer_act (offered st now r.fields.src q)
    else A.Nothing
friend_act c st now r (C.Poll fsn) =
    if is_by_friend r then poll_act fsn (poll_result st.slots now r.fields.src fsn) else A.Nothing
friend_act c st now r (C.ListAdd l) = list_act st r l.transaction
friend_act c st now r (C.ListRemove l) = list_act st r l.transaction
friend_act c st now r (C.Clear l) =
    if is_by_master r && list_any (is_cleared l.lpn l.lpn_counter) st.slots then A.Cleared l else A.Nothing
friend_act c st now r _ = A.Nothing

abbrev pub IsActOf : Config → FriendsState → ℕ → Reading → ControlMsg → FriendAct → Type 0
IsActOf c st now r m act = act ≡ friend_act c st now r m

-- Of what the records say it sees whether Friend is on, and the network keys. So an act stays that of its message over an event that leaves
-- both.
abbrev pub IsActStill : Type 0
IsActStill =
    (c d : Config) (st : FriendsState) (now : ℕ) (r : Reading) (m : ControlMsg) (act : FriendAct)
    → c.friend ≡ d.friend → c.nets ≡ d.nets → IsActOf c st now r m act → IsActOf d st now r m act

-- What an act asks to be sent. All of it goes from the first element.
abbrev pub jobs_of_act : Config → Reading → FriendAct → List Job
jobs_of_act c r A.Nothing = []
jobs_of_act c r (A.Offered offer) = under c r.by.index (own_control c 0 r.fields.src (C.Offer offer) None)
jobs_of_act c r (A.Answered fsn polled) = answer_jobs c r fsn polled.answer ++ clear_jobs c r polled.clear
jobs_of_act c r (A.Confirmed transaction) =
    own_control c 0 r.fields.src (C.ListConfirm transaction) None r.by.material ∷ []
jobs_of_act c r (A.Cleared l) = under c r.by.index (own_control c c.ttl r.fields.src (C.ClearConfirm l) None)
