-- Friendship credentials have a NID of 7 bits: they are made with an offer, and no other call changes them.
use Rattle.std.proofs.Common.{ℕ, ◌%◌, ◌/◌, ◌-◌, ◌<◌, ◌^◌, Bool, true, false, cond, List, [], ◌∷◌, ◌++◌, filter, fold, arith}
use Rattle.std.specs.Prelude.{is_some}
use Rattle.std.specs.List.{AllByRecursion as Every, list_any}
use Rattle.cipher_definitions.specs.Kdf.{friendship_credentials, k2, k2_number}
use Rattle.layer_definitions.specs.KeyRefresh.{friendship_material, transmit_key}
use Rattle.layer_states.specs.Friends.{FriendCall, FriendsState, after, change_where, clear, end_all, has_address, is_again, is_cleared, is_friend, is_friendship, is_noted, is_of, is_stored, keep, list_add, list_changed, list_remove, list_with, list_without, offer_slot, others, poll, polled, put, put_own, queued, request, request_fault, requested, standing, tick, with_kept}
use Rattle.layer_states.specs.Friends as F
use Rattle.layer_states.specs.declared.friends.Friendship.{Friendship}
use Rattle.layer_states.specs.declared.friends.QueueEntry.TheVariants as Q
use Rattle.mesh_base.specs.declared.fields.Heard.{Heard}
use Rattle.node_layers.specs.Friendship.{calls_by_answer, friend_keys, friends, friends_from, friends_with, heard_by, no_friends}
use Rattle.event_definitions.specs.Handling.{past_of}
use Rattle.event_definitions.specs.History.{Past, Told}

-- the highest 7 of 263 bits
high_seven : (x : ℕ) → x % 2 ^ 263 / 2 ^ 256 < 2 ^ 7
high_seven x = omega arith

pub friendship_width : (key : List ℕ) (lpn friend lpn_counter friend_counter : ℕ) → (friendship_material key lpn friend lpn_counter friend_counter).nid < 2 ^ 7
unfolding friendship_material friendship_credentials k2 k2_number
friendship_width key lpn friend lpn_counter friend_counter = high_seven _

-- One friendship, and all.

abbrev pub IsNarrow : Friendship → Type 0
IsNarrow s = s.material.nid < 2 ^ 7

abbrev pub AreNarrow : List Friendship → Type 0
AreNarrow slots = Every IsNarrow slots

narrow_one : (b : Bool) (s t : Friendship) → IsNarrow s → IsNarrow t → IsNarrow (cond b s t)
narrow_one true s t h k = h
narrow_one false s t h k = k

narrow_pick : (b : Bool) (xs ys : List Friendship) → AreNarrow xs → AreNarrow ys → AreNarrow (cond b xs ys)
narrow_pick true xs ys h k = h
narrow_pick false xs ys h k = k

narrow_filter : (test : Friendship → Bool) (slots : List Friendship) → AreNarrow slots → AreNarrow (filter test slots)
narrow_filter test [] h = tt
narrow_filter test (s ∷ slots) h =
    narrow_pick (test s) (s ∷ filter test slots) (filter test slots) (h.0, narrow_filter test slots h.1) (narrow_filter test slots h.1)

narrow_more : (slots : List Friendship) (s : Friendship) → AreNarrow slots → IsNarrow s → AreNarrow (slots ++ s ∷ [])
narrow_more [] s h k = (k, tt)
narrow_more (x ∷ slots) s h k = (h.0, narrow_more slots s h.1 k)

narrow_change : (test : Friendship → Bool) (change : Friendship → Friendship) → ((s : Friendship) → IsNarrow s → IsNarrow (change s))
    → (slots : List Friendship) → AreNarrow slots → AreNarrow (change_where test change slots)
narrow_change test change k [] h = tt
narrow_change test change k (s ∷ slots) h = (narrow_one (test s) (change s) s (k s h.0) h.0, narrow_change test change k slots h.1)

narrow_standing : (now : ℕ) (slots : List Friendship) → AreNarrow slots → AreNarrow (standing now slots)
narrow_standing now slots h = narrow_filter _ slots h

-- Calls.

narrow_request : (b : Bool) (old new : FriendsState) → AreNarrow old.slots → AreNarrow new.slots → AreNarrow (cond b old new).slots
narrow_request true old new h k = h
narrow_request false old new h k = k

pub narrow_after : (st : FriendsState) (call : FriendCall) → AreNarrow st.slots → AreNarrow (after st call).slots
narrow_after st (request now net own lpn r) h =
    narrow_request (is_some (request_fault now st.slots lpn r)) st (requested st now net own lpn r) h
    (narrow_more (others lpn (standing now st.slots)) (offer_slot st.offers now net own lpn r)
    (narrow_filter _ (standing now st.slots) (narrow_standing now st.slots h))
    (friendship_width (transmit_key net) lpn.0 own.0 r.lpn_counter st.offers))
narrow_after st (poll now lpn fsn) h =
    narrow_pick (list_any (is_of lpn) (standing now st.slots)) _ st.slots
    (narrow_change (is_of lpn) (polled now fsn) (λ s k. narrow_one (is_again fsn s) _ _ k k) (standing now st.slots) (narrow_standing now st.slots h)) h
narrow_after st (keep lpn fsn name pdu) h = narrow_change (is_noted lpn fsn) (with_kept name pdu) (λ s k. k) st.slots h
narrow_after st (put f) h = narrow_change (is_stored f) (queued (Q.Heard (record f { ttl = f.ttl - 1 }))) (λ s k. k) st.slots h
narrow_after st (put_own m) h = narrow_change _ (queued (Q.Own m)) (λ s k. k) st.slots h
narrow_after st (list_add now lpn added) h =
    narrow_pick (list_any (is_friend lpn) (standing now st.slots)) _ st.slots
    (narrow_change (is_friend lpn) (list_changed now (λ list. list_with list added)) (λ s k. k) (standing now st.slots) (narrow_standing now st.slots h)) h
narrow_after st (list_remove now lpn removed) h =
    narrow_pick (list_any (is_friend lpn) (standing now st.slots)) _ st.slots
    (narrow_change (is_friend lpn) (list_changed now (λ list. list_without list removed)) (λ s k. k) (standing now st.slots) (narrow_standing now st.slots h)) h
narrow_after st (clear lpn counter) h = narrow_filter _ st.slots h
narrow_after st (tick now) h = narrow_standing now st.slots h
narrow_after st end_all h = tt

pub narrow_calls : (st : FriendsState) (calls : List FriendCall) → AreNarrow st.slots → AreNarrow (fold after st calls).slots
narrow_calls st [] h = h
narrow_calls st (call ∷ calls) h = narrow_calls (after st call) calls (narrow_after st call h)

-- The friendships and offers of a life.

narrow_from : (st : FriendsState) (before told : List Told) → AreNarrow st.slots → AreNarrow (friends_from st before told).slots
narrow_from st before [] h = h
narrow_from st before (t ∷ told) h =
    let past : Past = past_of before t in
    let heard : FriendsState = fold after st (heard_by t.insight t.entry.answer) in
    narrow_from (friends_with st past t) (before ++ t ∷ []) told
    (narrow_calls heard (calls_by_answer past heard t t.entry.answer) (narrow_calls st (heard_by t.insight t.entry.answer) h))

abbrev pub HasNid : Heard → Type 0
HasNid h = h.material.nid < 2 ^ 7

keys_narrow : (slots : List Friendship) → AreNarrow slots → Every HasNid (F.friend_keys slots)
keys_narrow [] h = tt
keys_narrow (s ∷ slots) h = (h.0, keys_narrow slots h.1)

-- of each key under which a PDU of a friendship may be heard
pub friend_nids : (past : Past) → Every HasNid (friend_keys past)
friend_nids past = keys_narrow (friends past).slots (narrow_from no_friends [] past.told tt)
