-- The credentials of the friendship change by a Friend Request and by an Offer alone.
use Rattle.std.proofs.Common.{◌≡◌, Bool, true, false, cond, List, [], ◌∷◌, ◌++◌, refl, ap, sym, ◌∙◌, Some, Result, Ok, Err}
use Rattle.std.specs.List.{flat_map}
use Rattle.std.specs.Option.{option_map, option_to_list}
use Rattle.low_power_definitions.specs.State.{LowPowerState, after, after_list, answered, closed, friend_material, friend_of, hear, heard_as, heard_of, is_answer, list, list_result, poll, polled}
use Rattle.low_power_definitions.specs.declared.lpn.Friend.{Friend}
use Rattle.low_power_definitions.specs.declared.lpn.ListFault.{ListFault}
use Rattle.low_power_definitions.specs.declared.lpn.LpnJob.{LpnJob}
use Rattle.low_power_definitions.specs.declared.lpn.Standing.{Standing}
use Rattle.low_power_definitions.specs.declared.lpn.Standing.TheVariants as S
use Rattle.low_power_machine.specs.Memory.{IsFitFor}
use Rattle.low_power_machine.specs.declared.memory.Memory.{Memory}
use Rattle.low_power_role.specs.Readings.{friend_keys, own_nets}
use Rattle.mesh_base.specs.declared.address.Address.{Address}
use Rattle.mesh_base.specs.declared.fields.Heard.{Heard}
use Rattle.mesh_base.specs.declared.keys.NetKeyRow.{NetKeyRow}
use Rattle.mesh_base.specs.declared.pair.Name.{Name}
use Rattle.node_records.specs.Tables.{config_in}
use Rattle.node_records.specs.declared.persist.Persist.{Persist}
use Rattle.store_definitions.specs.Config.{Config}

flat_same : {A B : Type 0} (f g : A → List B) → ((x : A) → f x ≡ g x) → (xs : List A) → flat_map f xs ≡ flat_map g xs
flat_same f g h [] = refl
flat_same f g h (x ∷ xs) = ap (λ l. l ++ flat_map f xs) (h x) ∙ ap (λ l. g x ++ l) (flat_same f g h xs)

keys_same : (c : Config) (st new : LowPowerState) → ((net : NetKeyRow) → heard_of new net ≡ heard_of st net) → friend_keys c new ≡ friend_keys c st
keys_same c st new h =
    flat_same (λ (net : NetKeyRow). option_to_list (heard_of new net)) (λ (net : NetKeyRow). option_to_list (heard_of st net)) (λ net. ap option_to_list (h net)) (own_nets c)

abbrev heard_by : LowPowerState → NetKeyRow → Friend → Heard
heard_by st net f = record { index = net.index; lpn = Some st.own; fresh = false; material = friend_material st.own net f.credentials }

polled_same : (st : LowPowerState) (net : NetKeyRow) (s : Standing) → option_map (heard_by st net) (friend_of (polled s)) ≡ option_map (heard_by st net) (friend_of s)
polled_same st net S.Alone = refl
polled_same st net (S.Seeking n) = refl
polled_same st net (S.Befriended f) = refl

closed_same : (st : LowPowerState) (net : NetKeyRow) (s : Standing) → option_map (heard_by st net) (friend_of (closed s)) ≡ option_map (heard_by st net) (friend_of s)
closed_same st net S.Alone = refl
closed_same st net (S.Seeking n) = refl
closed_same st net (S.Befriended f) = refl

pub poll_keys : (c : Config) (st : LowPowerState) → friend_keys c (after st poll) ≡ friend_keys c st
poll_keys c st = keys_same c st (after st poll) (λ net. polled_same st net st.standing)

pub list_keys : (c : Config) (st : LowPowerState) (a : Address) → friend_keys c (after st (list a)) ≡ friend_keys c st
list_keys c st a = keys_same c st (after st (list a)) (λ net. pick net (list_result st a))
  where
    pick : (net : NetKeyRow) (r : Result LpnJob ListFault) → heard_of (after_list st a r) net ≡ heard_of st net
    pick net (Ok job) = refl
    pick net (Err fault) = refl

pub hear_keys : (c : Config) (st : LowPowerState) (by_friend : Bool) (n : Name) → friend_keys c (after st (hear by_friend n)) ≡ friend_keys c st
hear_keys c st by_friend n = keys_same c st (after st (hear by_friend n)) (λ net. pick net (is_answer by_friend (heard_as st by_friend n)))
  where
    pick : (net : NetKeyRow) (b : Bool) → heard_of (cond b (answered st n) st) net ≡ heard_of st net
    pick net true = closed_same st net st.standing
    pick net false = refl

-- what is kept in memory fits as before, where the state moved and the credentials didn't
pub fit_moved : (memory : Memory) (p : Persist) (lpn : LowPowerState) → IsFitFor memory p → friend_keys (config_in p) lpn ≡ friend_keys (config_in p) memory.lpn
    → IsFitFor (record memory { lpn = lpn }) p
fit_moved memory p lpn fit same = record { nets = fit.nets; friend = fit.friend ∙ sym same; device = fit.device }

pub fit_heard : (memory : Memory) (p : Persist) (lpn : LowPowerState) (by_friend : Bool) (n : Name) → IsFitFor memory p → lpn ≡ after memory.lpn (hear by_friend n)
    → IsFitFor (record memory { lpn = lpn }) p
fit_heard memory p lpn by_friend n fit is =
    fit_moved memory p lpn fit (ap (λ st. friend_keys (config_in p) st) is ∙ hear_keys (config_in p) memory.lpn by_friend n)
