-- What one call leaves.
use Rattle.std.proofs.Common.{◌≡◌, ℕ, Bool, true, false, cond, refl, true≢false, Option, Some, None}
use Rattle.std.specs.Prelude.{Result, Ok, Err}
use Rattle.std.specs.Option.{option_map_or}
use Rattle.low_power_definitions.specs.Calls.{credentials_of, is_seek}
use Rattle.low_power_definitions.specs.State.{LpnCall, LowPowerState, after, after_list, answered, befriended, closed, hear, heard_as, is_answer, list, list_result, listed, offer, offered, poll, polled, seek}
use Rattle.low_power_definitions.specs.declared.lpn.Credentials.{Credentials}
use Rattle.low_power_definitions.specs.declared.lpn.ListFault.{ListFault}
use Rattle.low_power_definitions.specs.declared.lpn.LpnJob.{LpnJob}
use Rattle.low_power_definitions.specs.declared.lpn.Standing.{Standing}
use Rattle.low_power_definitions.specs.declared.lpn.Standing.TheVariants as S
use Rattle.mesh_base.specs.declared.address.Address.{Address}
use Rattle.mesh_base.specs.declared.pair.Name.{Name}

-- A call leaves one of two states.

pub by_list : (P : LowPowerState → Type 0) (st : LowPowerState) (a : Address) → P (listed st a) → P st → P (after st (list a))
by_list P st a more same = result (list_result st a)
  where
    result : (r : Result LpnJob ListFault) → P (after_list st a r)
    result (Ok job) = more
    result (Err fault) = same

pub by_hear : (P : LowPowerState → Type 0) (st : LowPowerState) (by_friend : Bool) (n : Name) → P (answered st n) → P st
    → P (after st (hear by_friend n))
by_hear P st by_friend n more same = test (is_answer by_friend (heard_as st by_friend n))
  where
    test : (b : Bool) → P (cond b (answered st n) st)
    test true = more
    test false = same

pub by_offer : (P : LowPowerState → Type 0) (st : LowPowerState) (from : Address) (counter : ℕ)
    → ((c : Credentials) → offered st.standing from counter ≡ Some c → P (befriended st c))
    → (offered st.standing from counter ≡ None → P st)
    → P (after st (offer from counter))
by_offer P st from counter more same = taken (offered st.standing from counter) more same
  where
    taken : (o : Option Credentials) → ((c : Credentials) → o ≡ Some c → P (befriended st c)) → (o ≡ None → P st)
        → P (option_map_or (befriended st) o st)
    taken None k same = same refl
    taken (Some c) k same = k c refl

-- What holds of all that a call but a Friend Request may leave holds of what it leaves.
pub step : (P : LowPowerState → Type 0) (st : LowPowerState) (call : LpnCall) → is_seek call ≡ false
    → P st → P (record st { standing = polled st.standing }) → ((a : Address) → P (listed st a)) → ((n : Name) → P (answered st n))
    → ((c : Credentials) (from : Address) (counter : ℕ) → offered st.standing from counter ≡ Some c → P (befriended st c))
    → P (after st call)
step P st seek lacks same after_poll after_listing after_answer after_offer = absurd (true≢false lacks)
step P st poll lacks same after_poll after_listing after_answer after_offer = after_poll
step P st (list a) lacks same after_poll after_listing after_answer after_offer = by_list P st a (after_listing a) same
step P st (hear b n) lacks same after_poll after_listing after_answer after_offer = by_hear P st b n (after_answer n) same
step P st (offer from counter) lacks same after_poll after_listing after_answer after_offer =
    by_offer P st from counter (λ c t. after_offer c from counter t) (λ none. same)

-- A friend stays the friend.

pub kept_friend : (st : LowPowerState) (c : Credentials) (call : LpnCall) → is_seek call ≡ false → credentials_of st ≡ Some c
    → credentials_of (after st call) ≡ Some c
kept_friend st c call lacks h =
    step (λ s. credentials_of s ≡ Some c) st call lacks h (after_poll st.standing h) (λ a. h) (λ n. after_answer st.standing h)
    (λ d from counter t. after_offer st.standing d from counter h t)
  where
    after_poll : (s : Standing) → credentials_of (record st { standing = s }) ≡ Some c → credentials_of (record st { standing = polled s }) ≡ Some c
    after_poll S.Alone h = h
    after_poll (S.Seeking lpn_counter) h = h
    after_poll (S.Befriended f) h = h

    after_answer : (s : Standing) → credentials_of (record st { standing = s }) ≡ Some c → credentials_of (record st { standing = closed s }) ≡ Some c
    after_answer S.Alone h = h
    after_answer (S.Seeking lpn_counter) h = h
    after_answer (S.Befriended f) h = h

    after_offer : (s : Standing) (d : Credentials) (from : Address) (counter : ℕ) → credentials_of (record st { standing = s }) ≡ Some c → offered s from counter ≡ Some d
        → Some d ≡ Some c
    after_offer S.Alone d from counter h t = cc
    after_offer (S.Seeking lpn_counter) d from counter h t = cc
    after_offer (S.Befriended f) d from counter h t = cc
