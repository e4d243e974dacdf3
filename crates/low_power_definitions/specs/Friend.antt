-- The Low Power node beside its Friend node: the Request is one that a Friend node takes, and both make the same credentials.
use Rattle.std.specs.Prelude.{◌≡◌, ℕ, ◌+◌, ◌≤◌, ◌==◌, ◌||◌, true, Some, None}
use Rattle.layer_states.specs.Friends.{FriendsState, field_outside, heard_of as friend_heard, offer_of, offer_slot}
use Rattle.layer_states.specs.Names.{is_unicast}
use Rattle.low_power_definitions.specs.State.{LowPowerState, after, heard_of, offer, request_of, seek}
use Rattle.mesh_base.specs.declared.address.Address.{Address}
use Rattle.mesh_base.specs.declared.keys.NetKeyRow.{NetKeyRow}

-- each element has a unicast address
pub record HasElements (st : LowPowerState) : Type 0 where
  pub first : 1 ≤ st.own.0
  pub least : 1 ≤ st.elements
  pub most : st.own.0 + st.elements ≤ 0x8000

-- A Friend node finds each field of the Request in its range, if the last friend had a unicast address.
abbrev pub RequestFits : Type 0
RequestFits =
    (st : LowPowerState) → HasElements st → (st.previous.0 == 0 || is_unicast st.previous) ≡ true
    → field_outside st.own (request_of st) ≡ None

-- A Friend node that takes the Request has credentials for the friendship, and its Offer gives the Low Power node the same ones.
abbrev pub CredentialsAgree : Type 0
CredentialsAgree =
    (st : LowPowerState) (friends : FriendsState) (now : ℕ) (net : NetKeyRow) (friend : Address)
    → heard_of (after (after st seek) (offer friend (offer_of friends.offers).friend_counter)) net
    ≡ Some (friend_heard (offer_slot friends.offers now net friend st.own (request_of st)))
