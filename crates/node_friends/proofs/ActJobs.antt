-- The jobs of an act are those of its message.
use Rattle.std.proofs.Common.{◌≡◌, ℕ, Bool, true, false, cond, List, [], ◌∷◌, refl, Option, Some, None}
use Rattle.std.specs.Prelude.{◌&&◌, ◌||◌, ◌==◌, is_some, map, filter, Result, Ok, Err}
use Rattle.std.specs.List.{list_any}
use Rattle.layer_definitions.specs.KeyRefresh.{net_row}
use Rattle.layer_states.specs.Friends.{FriendsState, friend_result, is_cleared, is_friend, is_friendship, is_of, offered, poll_result, poll_timeouts}
use Rattle.layer_states.specs.declared.friends.FriendFault.{FriendFault}
use Rattle.layer_states.specs.declared.friends.Friendship.{Friendship}
use Rattle.layer_states.specs.declared.friends.Polled.{Polled}
use Rattle.mesh_base.specs.declared.address.Address.{Address}
use Rattle.mesh_base.specs.declared.control.ControlMsg.{ControlMsg}
use Rattle.mesh_base.specs.declared.control.ControlMsg.TheVariants as C
use Rattle.mesh_base.specs.declared.control.Offer.{Offer}
use Rattle.mesh_base.specs.declared.control.Request.{Request}
use Rattle.mesh_base.specs.declared.keys.NetKeyRow.{NetKeyRow}
use Rattle.node_friends.specs.Acts.{IsActStill, friend_act, jobs_of_act}
use Rattle.node_friends.specs.declared.acts.FriendAct.{FriendAct}
use Rattle.node_friends.specs.declared.acts.FriendAct.TheVariants as A
use Rattle.node_layers.specs.Friendship.{is_by_friend, is_by_master, is_request, jobs_of_control, offer_jobs, own_control, poll_jobs}
use Rattle.event_definitions.specs.History.{Reading}
use Rattle.event_definitions.specs.Jobs.{under}
use Rattle.store_definitions.specs.Config.{Config}

-- an act under a test
picked : (b : Bool) (c : Config) (r : Reading) (act : FriendAct) → jobs_of_act c r (cond b act A.Nothing) ≡ cond b (jobs_of_act c r act) []
picked true c r act = refl
picked false c r act = refl

nothing : (b : Bool) (c : Config) (r : Reading) → jobs_of_act c r (cond b A.Nothing A.Nothing) ≡ cond b [] []
nothing true c r = refl
nothing false c r = refl

-- a Request
offer_under : (c : Config) (r : Reading) (o : Offer) (b : Bool) (row : Option NetKeyRow) → net_row c.nets r.by.index ≡ row
    → jobs_of_act c r (cond (b && is_some row) (A.Offered o) A.Nothing) ≡ cond b (under c r.by.index (own_control c 0 r.fields.src (C.Offer o) None)) []
offer_under c r o true (Some net) e = refl
offer_under c r o true None e = rw e refl
offer_under c r o false row e = refl

refused : (c : Config) (r : Reading) (b : Bool) (row : Option NetKeyRow) → jobs_of_act c r (cond (b && is_some row) A.Nothing A.Nothing) ≡ cond b [] []
refused c r true (Some net) = refl
refused c r true None = refl
refused c r false row = refl

offers_are : (c : Config) (st : FriendsState) (now : ℕ) (r : Reading) (q : Request) (result : Result Offer FriendFault)
    → offered st now r.fields.src q ≡ result → jobs_of_act c r (friend_act c st now r (C.Request q)) ≡ offer_jobs c st now r q
offers_are c st now r q (Ok o) e = rw e (offer_under c r o (is_request c r) (net_row c.nets r.by.index) refl)
offers_are c st now r q (Err fault) e = rw e (refused c r (is_request c r) (net_row c.nets r.by.index))

-- a Poll
polls_are : (c : Config) (st : FriendsState) (now : ℕ) (r : Reading) (fsn : Bool) (result : Result Polled FriendFault)
    → poll_result st.slots now r.fields.src fsn ≡ result → jobs_of_act c r (friend_act c st now r (C.Poll fsn)) ≡ poll_jobs c st now r fsn
polls_are c st now r fsn (Ok polled) e = rw e (picked (is_by_friend r) c r (A.Answered fsn polled))
polls_are c st now r fsn (Err fault) e = rw e (nothing (is_by_friend r) c r)

-- any control message
pub jobs_are : (c : Config) (st : FriendsState) (now : ℕ) (r : Reading) (m : ControlMsg)
    → jobs_of_act c r (friend_act c st now r m) ≡ jobs_of_control c st now r m
jobs_are c st now r (C.Request q) = offers_are c st now r q (offered st now r.fields.src q) refl
jobs_are c st now r (C.Poll fsn) = polls_are c st now r fsn (poll_result st.slots now r.fields.src fsn) refl
jobs_are c st now r (C.ListAdd l) = picked (is_by_friend r && list_any (is_friend r.fields.src) st.slots) c r (A.Confirmed l.transaction)
jobs_are c st now r (C.ListRemove l) = picked (is_by_friend r && list_any (is_friend r.fields.src) st.slots) c r (A.Confirmed l.transaction)
jobs_are c st now r (C.Clear l) = picked (is_by_master r && list_any (is_cleared l.lpn l.lpn_counter) st.slots) c r (A.Cleared l)
jobs_are c st now r _ = refl

pub stays : IsActStill
stays c d st now r (C.Request q) act friend nets h = rw (← friend, ← nets) h
stays c d st now r _ act friend nets h = h

-- Whether one is a friend, by the list of those that are asked for their PollTimeout.
pub friend_polls : (lpn : Address) (slots : List Friendship)
    → list_any (λ (p : Address × ℕ). p.0.0 == lpn.0) (poll_timeouts slots) ≡ list_any (is_friend lpn) slots
friend_polls lpn [] = refl
friend_polls lpn (s ∷ slots) =
    (elim (is_friendship s) as (λ b.
    list_any (λ (p : Address × ℕ). p.0.0 == lpn.0) (map (λ (s : Friendship). (s.lpn, s.request.poll_timeout)) (cond b (s ∷ filter is_friendship slots) (filter is_friendship slots)))
    ≡ ((is_of lpn s && b) || list_any (is_friend lpn) slots)) [
      | true ↦ of_friend (is_of lpn s) (friend_polls lpn slots)
      | false ↦ of_offer (is_of lpn s) (friend_polls lpn slots)
    ])
  where
    of_friend : (a : Bool) {x y : Bool} → x ≡ y → (a || x) ≡ ((a && true) || y)
    of_friend true e = refl
    of_friend false e = e

    of_offer : (a : Bool) {x y : Bool} → x ≡ y → x ≡ ((a && false) || y)
    of_offer true e = e
    of_offer false e = e

-- What a Clear was answered.
pub cleared : (b : Bool) → friend_result b ≡ Ok tt → b ≡ true
cleared true e = refl
cleared false e = cc

pub uncleared : (b : Bool) (fault : FriendFault) → friend_result b ≡ Err fault → b ≡ false
uncleared true fault e = cc
uncleared false fault e = refl
