-- What follows for a life: the counters, the friend and the list.
use Rattle.std.proofs.Common.{◌≡◌, ◌∙◌, ℕ, ◌+◌, ◌%◌, ◌^◌, ◌<◌, ◌≤◌, Bool, true, false, cond, List, [], ◌∷◌, ◌++◌, length, refl, sym, ap, arith, true≢false, length-append, leb-false, Option, Some, None}
use Rattle.std.specs.Prelude.{◌||◌, fold, nat_le, Result, Ok, Err}
use Rattle.std.specs.List.{count_by, list_any}
use Rattle.std.specs.Option.{option_map, option_map_or, option_to_list}
use Rattle.std.proofs.lemmas.Bool.{or_parts}
use Rattle.std.proofs.lemmas.List.Sums.{fold-append, sum_by-append}
use Rattle.node_limits.specs.declared.TheConstants.{FRIEND_ADDRESSES}
use Rattle.layer_states.specs.Friends.{is_address}
use Rattle.low_power_definitions.proofs.Steps.{by_hear, by_list, by_offer, kept_friend, step}
use Rattle.low_power_definitions.specs.Calls.{CountsLists, CountsSeeks, FriendIsFirst, ListFits, LpnGoesOn, NoneUnsought, PreviousIsLast, credentials_of, first_offer, friend_made, friends_made, has_seek, is_seek, is_sent, lists_sent, sends_list}
use Rattle.low_power_definitions.specs.State.{LpnCall, LowPowerState, after, after_list, befriended, hear, list, list_result, lpn, no_friend, offer, offered, poll, seek, sought}
use Rattle.low_power_definitions.specs.declared.lpn.Credentials.{Credentials}
use Rattle.low_power_definitions.specs.declared.lpn.ListFault.{ListFault}
use Rattle.low_power_definitions.specs.declared.lpn.LpnJob.{LpnJob}
use Rattle.low_power_definitions.specs.declared.lpn.Standing.TheVariants as S
use Rattle.mesh_base.specs.declared.address.Address.{Address}

pub goes_on : LpnGoesOn
goes_on own elements calls call = fold-append after (no_friend own elements) calls (call ∷ [])

-- LPNCounter

one_more : (call : LpnCall) (calls : List LpnCall) → count_by is_seek (call ∷ calls) ≡ cond (is_seek call) 1 0 + count_by is_seek calls
one_more call calls = sum_by-append (λ c. cond (is_seek c) 1 0) (call ∷ []) calls ∙ omega arith

seeks_still : (st : LowPowerState) (call : LpnCall) → is_seek call ≡ false → (after st call).seeks ≡ st.seeks
seeks_still st call lacks = step (λ s. s.seeks ≡ st.seeks) st call lacks refl refl (λ a. refl) (λ n. refl) (λ c from counter t. refl)

seeks_step : (st : LowPowerState) (call : LpnCall) → st.seeks < 2 ^ 16
    → (after st call).seeks ≡ (st.seeks + cond (is_seek call) 1 0) % 2 ^ 16
seeks_step st seek few = refl
seeks_step st poll few = omega (arith, few)
seeks_step st (list a) few = seeks_still st (list a) refl ∙ omega (arith, few)
seeks_step st (hear b n) few = seeks_still st (hear b n) refl ∙ omega (arith, few)
seeks_step st (offer from counter) few = seeks_still st (offer from counter) refl ∙ omega (arith, few)

seeks_run : (st : LowPowerState) (calls : List LpnCall) → st.seeks < 2 ^ 16
    → (fold after st calls).seeks ≡ (st.seeks + count_by is_seek calls) % 2 ^ 16
seeks_run st [] few = omega (arith, few)
seeks_run st (call ∷ calls) few =
    let now = seeks_step st call few in
    let rest = seeks_run (after st call) calls (omega (arith, now)) in
    omega (arith, now, rest, one_more call calls)

pub counts : CountsSeeks
counts own elements calls =
    seeks_run (no_friend own elements) calls (omega arith)
    ∙ (let none : 0 + count_by is_seek calls ≡ count_by is_seek calls = omega arith in ap (λ n. n % 2 ^ 16) none)

-- The friend

kept : (st : LowPowerState) (c : Credentials) (calls : List LpnCall) → has_seek calls ≡ false → credentials_of st ≡ Some c
    → credentials_of (fold after st calls) ≡ Some c
kept st c [] lacks h = h
kept st c (call ∷ calls) lacks h =
    let parts = or_parts (is_seek call) (has_seek calls) lacks in
    kept (after st call) c calls parts.1 (kept_friend st c call parts.0 h)

-- a node that waits goes on waiting until an Offer comes
waiting : (st : LowPowerState) (k : ℕ) (calls : List LpnCall) → has_seek calls ≡ false → st.standing ≡ S.Seeking k
    → credentials_of (fold after st calls) ≡ first_offer k calls
waiting st k [] lacks h = ap (λ s. credentials_of (record st { standing = s })) h
waiting st k (seek ∷ calls) lacks h = absurd (true≢false lacks)
waiting st k (poll ∷ calls) lacks h = waiting (after st poll) k calls lacks (rw h refl)
waiting st k (list a ∷ calls) lacks h =
    waiting (after st (list a)) k calls lacks (by_list (λ s. s.standing ≡ S.Seeking k) st a h h)
waiting st k (hear b n ∷ calls) lacks h =
    waiting (after st (hear b n)) k calls lacks (by_hear (λ s. s.standing ≡ S.Seeking k) st b n (rw h refl) h)
waiting st k (offer from counter ∷ calls) lacks h =
    let c : Credentials = record { friend = from; lpn_counter = k; friend_counter = counter } in
    let taken : offered st.standing from counter ≡ Some c = rw h refl in
    kept (after st (offer from counter)) c calls lacks
    (by_offer (λ s. credentials_of s ≡ Some c) st from counter (λ d t. sym t ∙ taken) (λ t. absurd (let none : None ≡ Some c = sym t ∙ taken in cc)))

pub first : FriendIsFirst
first own elements before later lacks =
    let from = lpn own elements before in
    ap (λ st. credentials_of st) (fold-append after (no_friend own elements) before (seek ∷ later))
    ∙ waiting (sought from) from.seeks later lacks refl
    ∙ ap (λ k. first_offer k later) (counts own elements before)

alone : (st : LowPowerState) (calls : List LpnCall) → has_seek calls ≡ false → st.standing ≡ S.Alone
    → (fold after st calls).standing ≡ S.Alone
alone st [] lacks h = h
alone st (call ∷ calls) lacks h =
    let parts = or_parts (is_seek call) (has_seek calls) lacks in
    alone (after st call) calls parts.1
    (step (λ s. s.standing ≡ S.Alone) st call parts.0 h (rw h refl) (λ a. h) (λ n. rw h refl)
    (λ c from counter t. absurd (let taken : None ≡ Some c = ap (λ s. offered s from counter) (sym h) ∙ t in cc)))

pub unsought : NoneUnsought
unsought own elements calls lacks = ap (λ s. credentials_of (record (no_friend own elements) { standing = s })) (alone (no_friend own elements) calls lacks refl)

-- The previous friend

previous_step : (st : LowPowerState) (call : LpnCall)
    → (after st call).previous ≡ fold (λ previous from. from) st.previous (option_to_list (friend_made st call))
previous_step st seek = refl
previous_step st poll = refl
previous_step st (list a) = by_list (λ s. s.previous ≡ st.previous) st a refl refl
previous_step st (hear b n) = by_hear (λ s. s.previous ≡ st.previous) st b n refl refl
previous_step st (offer from counter) = taken (offered st.standing from counter)
  where
    taken : (o : Option Credentials)
        → (option_map_or (befriended st) o st).previous
        ≡ fold (λ previous from. from) st.previous (option_to_list (option_map (λ c. c.friend) o))
    taken None = refl
    taken (Some c) = refl

previous_run : (st : LowPowerState) (calls : List LpnCall)
    → (fold after st calls).previous ≡ fold (λ previous from. from) st.previous (friends_made st calls)
previous_run st [] = refl
previous_run st (call ∷ calls) =
    previous_run (after st call) calls
    ∙ ap (λ p. fold (λ previous from. from) p (friends_made (after st call) calls)) (previous_step st call)
    ∙ sym (fold-append (λ previous from. from) st.previous (option_to_list (friend_made st call)) (friends_made (after st call) calls))

pub previous : PreviousIsLast
previous own elements calls = previous_run (no_friend own elements) calls

-- TransactionNumber

lists_step : (st : LowPowerState) (call : LpnCall) → st.lists < 2 ^ 8
    → (after st call).lists ≡ (st.lists + cond (sends_list st call) 1 0) % 2 ^ 8
lists_step st seek few = omega (arith, few)
lists_step st poll few = omega (arith, few)
lists_step st (list a) few = result (list_result st a)
  where
    result : (r : Result LpnJob ListFault) → (after_list st a r).lists ≡ (st.lists + cond (is_sent r) 1 0) % 2 ^ 8
    result (Ok job) = refl
    result (Err fault) = omega (arith, few)
lists_step st (hear b n) few =
    by_hear (λ s. s.lists ≡ (st.lists + 0) % 2 ^ 8) st b n (omega (arith, few)) (omega (arith, few))
lists_step st (offer from counter) few =
    by_offer (λ s. s.lists ≡ (st.lists + 0) % 2 ^ 8) st from counter (λ c t. omega (arith, few)) (λ none. omega (arith, few))

lists_run : (st : LowPowerState) (calls : List LpnCall) → st.lists < 2 ^ 8
    → (fold after st calls).lists ≡ (st.lists + lists_sent st calls) % 2 ^ 8
lists_run st [] few = omega (arith, few)
lists_run st (call ∷ calls) few =
    let now = lists_step st call few in
    let rest = lists_run (after st call) calls (omega (arith, now)) in
    omega (arith, now, rest)

pub counts_lists : CountsLists
counts_lists own elements calls =
    lists_run (no_friend own elements) calls (omega arith)
    ∙ (let none : 0 + lists_sent (no_friend own elements) calls ≡ lists_sent (no_friend own elements) calls = omega arith in
    ap (λ n. n % 2 ^ 8) none)

-- The list

more_fits : (b : Bool) (xs : List Address) (a : Address) → length xs ≤ FRIEND_ADDRESSES
    → length (cond (b || nat_le FRIEND_ADDRESSES (length xs)) xs (xs ++ a ∷ [])) ≤ FRIEND_ADDRESSES
more_fits true xs a h = h
more_fits false xs a h = room (nat_le FRIEND_ADDRESSES (length xs)) refl
  where
    room : (full : Bool) → nat_le FRIEND_ADDRESSES (length xs) ≡ full → length (cond full xs (xs ++ a ∷ [])) ≤ FRIEND_ADDRESSES
    room true t = h
    room false t = omega (arith, length-append xs (a ∷ []), leb-false FRIEND_ADDRESSES (length xs) t)

list_step : (st : LowPowerState) (call : LpnCall) → length st.list ≤ FRIEND_ADDRESSES → length (after st call).list ≤ FRIEND_ADDRESSES
list_step st seek h = h
list_step st poll h = h
list_step st (list a) h =
    by_list (λ s. length s.list ≤ FRIEND_ADDRESSES) st a (more_fits (list_any (is_address a) st.list) st.list a h) h
list_step st (hear b n) h = by_hear (λ s. length s.list ≤ FRIEND_ADDRESSES) st b n h h
list_step st (offer from counter) h = by_offer (λ s. length s.list ≤ FRIEND_ADDRESSES) st from counter (λ c t. h) (λ none. h)

list_run : (st : LowPowerState) (calls : List LpnCall) → length st.list ≤ FRIEND_ADDRESSES → length (fold after st calls).list ≤ FRIEND_ADDRESSES
list_run st [] h = h
list_run st (call ∷ calls) h = list_run (after st call) calls (list_step st call h)

pub fits : ListFits
fits own elements calls = list_run (no_friend own elements) calls (omega arith)
