-- What follows for a life: the counters, the friend and the list, by the calls so far.
use Rattle.std.specs.Prelude.{◌≡◌, ℕ, ◌+◌, ◌%◌, ◌^◌, ◌≤◌, Bool, true, false, if◌then◌else◌, List, [], ◌∷◌, ◌++◌, length, fold, Option, Some, None, Result, Ok, Err}
use Rattle.std.specs.List.{count_by, list_any}
use Rattle.std.specs.Option.{option_map, option_to_list}
use Rattle.node_limits.specs.declared.TheConstants.{FRIEND_ADDRESSES}
use Rattle.layer_states.specs.Calls.{GoesOn}
use Rattle.low_power_definitions.specs.State.{LpnCall, LowPowerState, after, friend_of, list, list_result, lpn, no_friend, offer, offered, seek}
use Rattle.low_power_definitions.specs.declared.lpn.Credentials.{Credentials}
use Rattle.low_power_definitions.specs.declared.lpn.ListFault.{ListFault}
use Rattle.low_power_definitions.specs.declared.lpn.LpnJob.{LpnJob}
use Rattle.mesh_base.specs.declared.address.Address.{Address}

-- A call more is one step.
abbrev pub LpnGoesOn : Type 0
LpnGoesOn = (own : Address) (elements : ℕ) → GoesOn after (lpn own elements)

abbrev pub is_seek : LpnCall → Bool
is_seek seek = true
is_seek _ = false

abbrev pub has_seek : List LpnCall → Bool
has_seek calls = list_any is_seek calls

-- LPNCounter is the number of Friend Requests before in this life, modulo 2^16 (3.6.5.3).
abbrev pub CountsSeeks : Type 0
CountsSeeks =
    (own : Address) (elements : ℕ) (calls : List LpnCall) → (lpn own elements calls).seeks ≡ count_by is_seek calls % 2 ^ 16

-- The friend is who sent the first Offer since the last Friend Request; before the first Request there is none.

abbrev pub first_offer : ℕ → List LpnCall → Option Credentials
first_offer lpn_counter [] = None
first_offer lpn_counter (offer from friend_counter ∷ calls) =
    Some (record { friend = from; lpn_counter = lpn_counter; friend_counter = friend_counter })
first_offer lpn_counter (call ∷ calls) = first_offer lpn_counter calls

abbrev pub credentials_of : LowPowerState → Option Credentials
credentials_of st = option_map (λ f. f.credentials) (friend_of st.standing)

abbrev pub FriendIsFirst : Type 0
FriendIsFirst =
    (own : Address) (elements : ℕ) (before later : List LpnCall) → has_seek later ≡ false
    → credentials_of (lpn own elements (before ++ seek ∷ later)) ≡ first_offer (count_by is_seek before % 2 ^ 16) later

abbrev pub NoneUnsought : Type 0
NoneUnsought =
    (own : Address) (elements : ℕ) (calls : List LpnCall) → has_seek calls ≡ false → credentials_of (lpn own elements calls) ≡ None

-- PreviousAddress is the last friend of this life, or 0000 (3.6.5.3).

abbrev pub friend_made : LowPowerState → LpnCall → Option Address
friend_made st (offer from friend_counter) = option_map (λ c. c.friend) (offered st.standing from friend_counter)
friend_made st _ = None

abbrev pub friends_made : LowPowerState → List LpnCall → List Address
friends_made st [] = []
friends_made st (call ∷ calls) = option_to_list (friend_made st call) ++ friends_made (after st call) calls

abbrev pub PreviousIsLast : Type 0
PreviousIsLast =
    (own : Address) (elements : ℕ) (calls : List LpnCall)
    → (lpn own elements calls).previous
    ≡ fold (λ previous from. from) (record { 0 = 0 }) (friends_made (no_friend own elements) calls)

-- TransactionNumber is the number of list messages before in this life, modulo 2^8 (3.6.5.7).

abbrev pub is_sent : Result LpnJob ListFault → Bool
is_sent (Ok job) = true
is_sent (Err fault) = false

abbrev pub sends_list : LowPowerState → LpnCall → Bool
sends_list st (list a) = is_sent (list_result st a)
sends_list st _ = false

abbrev pub lists_sent : LowPowerState → List LpnCall → ℕ
lists_sent st [] = 0
lists_sent st (call ∷ calls) = (if sends_list st call then 1 else 0) + lists_sent (after st call) calls

abbrev pub CountsLists : Type 0
CountsLists =
    (own : Address) (elements : ℕ) (calls : List LpnCall)
    → (lpn own elements calls).lists ≡ lists_sent (no_friend own elements) calls % 2 ^ 8

-- The list has 16 addresses at most, so that a refusal tells of 16.
abbrev pub ListFits : Type 0
ListFits = (own : Address) (elements : ℕ) (calls : List LpnCall) → length (lpn own elements calls).list ≤ FRIEND_ADDRESSES
