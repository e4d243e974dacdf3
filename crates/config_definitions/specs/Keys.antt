-- Messages about network keys and application keys (Mesh Profile 1.0.1, sections 4.3.2.31 to 4.3.2.42 and 4.3.2.58 to 4.3.2.60). The first test
-- that holds decides.
use Rattle.std.specs.Prelude.{ℕ, ◌+◌, ◌*◌, ◌==◌, ◌&&◌, ◌||◌, not, nat_le, Bool, true, false, if◌then◌else◌, List, [], ◌∷◌, ◌++◌, Option, Some, None, is_none, is_some, length, map, filter, replicate, bytes_eq}
use Rattle.std.specs.List.{list_any}
use Rattle.std.specs.Option.{option_map_or}
use Rattle.node_limits.specs.declared.TheConstants.{NETWORK_KEYS, APPLICATION_KEYS}
use Rattle.config_definitions.specs.Params.{packed, packed_list, status_octet, refused, unchanged, stored, replied, acted}
use Rattle.config_definitions.specs.declared.acts.ConfigAct.{ConfigAct}
use Rattle.config_definitions.specs.declared.acts.Outcome.{Outcome}
use Rattle.config_definitions.specs.declared.acts.Status.TheVariants as S
use Rattle.config_definitions.specs.declared.messages.AppKeyIndexes.{AppKeyIndexes}
use Rattle.config_definitions.specs.declared.messages.PhaseTransition.{PhaseTransition}
use Rattle.config_definitions.specs.declared.messages.PhaseTransition.TheVariants as T
use Rattle.layer_definitions.specs.KeyRefresh.{net_row, app_row}
use Rattle.mesh_base.specs.declared.keys.AppKeyRow.{AppKeyRow}
use Rattle.mesh_base.specs.declared.keys.NetKeyRow.{NetKeyRow}
use Rattle.model_states.specs.Access.{two_low_first}
use Rattle.record_types.specs.declared.records.StoreRecord.{StoreRecord}
use Rattle.record_types.specs.declared.records.StoreRecord.TheVariants as R
use Rattle.store_definitions.specs.Config.{Config}

-- the key of a record that needs none
abbrev pub no_key : List ℕ
no_key = replicate 16 0

abbrev pub has_net : Config → ℕ → Bool
has_net c index = is_some (net_row c.nets index)

-- the phase of a network key; 0 where it isn't held
abbrev pub phase_of : Config → ℕ → ℕ
phase_of c index = option_map_or (λ r. r.phase) (net_row c.nets index) 0

-- Whether a key is the one that is held, and whether it is the new one of a Key Refresh.
abbrev pub is_next : List ℕ → Option (List ℕ) → Bool
is_next key None = false
is_next key (Some next) = bytes_eq next key

-- Application keys.

abbrev pub app_key_add : Config → ℕ → ℕ → List ℕ → Outcome
app_key_add c net app key = if not (has_net c net) then refused S.InvalidNetKey else by_row (app_row c.apps app)
  where
    by_row : Option AppKeyRow → Outcome
    by_row (Some r) = if r.net == net && bytes_eq r.key key then unchanged else refused S.KeyIndexStored
    by_row None = if nat_le APPLICATION_KEYS (length c.apps) then refused S.InsufficientResources else stored (R.AppKey 1 net app key)

abbrev pub app_key_update : Config → ℕ → ℕ → List ℕ → Outcome
app_key_update c net app key = by_row (app_row c.apps app)
  where
    by_row : Option AppKeyRow → Outcome
    by_row None = refused S.InvalidAppKey
    by_row (Some r) =
        if not (r.net == net) then refused S.InvalidNetKey
        else if not (phase_of c net == 1) then refused S.CannotUpdate
        else if is_next key r.next then unchanged
        else if is_some r.next then refused S.CannotUpdate
        else stored (R.AppKey 2 net app key)

abbrev pub app_key_delete : Config → ℕ → ℕ → Outcome
app_key_delete c net app = if not (has_net c net) then refused S.InvalidNetKey else by_row (app_row c.apps app)
  where
    by_row : Option AppKeyRow → Outcome
    by_row None = unchanged
    by_row (Some r) = if not (r.net == net) then refused S.InvalidNetKey else stored (R.AppKey 3 net app no_key)

-- AppKey Status 8003: status, both indexes
abbrev pub app_key_act : Outcome → AppKeyIndexes → ConfigAct
app_key_act o key = acted o.change (0x80 ∷ 0x03 ∷ status_octet o.status ∷ packed key.net key.app)

-- AppKey List 8002: status, the network key, its application keys
abbrev pub app_indexes : Config → ℕ → List ℕ
app_indexes c net = map (λ r. r.index) (filter (λ r. r.net == net) c.apps)

abbrev pub app_key_list : Config → ℕ → ConfigAct
app_key_list c net =
    if has_net c net then replied (0x80 ∷ 0x02 ∷ 0x00 ∷ two_low_first net ++ packed_list (app_indexes c net))
    else replied (0x80 ∷ 0x02 ∷ status_octet S.InvalidNetKey ∷ two_low_first net)

-- Network keys.

abbrev pub net_key_add : Config → ℕ → List ℕ → Outcome
net_key_add c net key = by_row (net_row c.nets net)
  where
    by_row : Option NetKeyRow → Outcome
    by_row (Some r) = if bytes_eq r.key key then unchanged else refused S.KeyIndexStored
    by_row None = if nat_le NETWORK_KEYS (length c.nets) then refused S.InsufficientResources else stored (R.NetKey 1 net key)

abbrev pub net_key_update : Config → ℕ → List ℕ → Outcome
net_key_update c net key = by_row (net_row c.nets net)
  where
    by_row : Option NetKeyRow → Outcome
    by_row None = refused S.InvalidNetKey
    by_row (Some r) =
        if r.phase == 1 && is_next key r.next then unchanged
        else if not (r.phase == 0) then refused S.CannotUpdate
        else stored (R.NetKey 2 net key)

-- neither the last network key goes, nor the one under which the message was heard
abbrev pub net_key_delete : Config → ℕ → ℕ → Outcome
net_key_delete c under net =
    if not (has_net c net) then unchanged
    else if net == under || nat_le (length c.nets) 1 then refused S.CannotRemove
    else stored (R.NetKey 5 net no_key)

-- NetKey Status 8044: status, the index
abbrev pub net_key_act : Outcome → ℕ → ConfigAct
net_key_act o net = acted o.change (0x80 ∷ 0x44 ∷ status_octet o.status ∷ two_low_first net)

-- NetKey List 8043: the network keys
abbrev pub net_key_list : Config → ConfigAct
net_key_list c = replied (0x80 ∷ 0x43 ∷ packed_list (map (λ r. r.index) c.nets))

-- Key Refresh Phase.

-- Transition 02 begins phase 2, from phase 1; 03 ends the Key Refresh.
abbrev pub phase_two : Config → ℕ → Outcome
phase_two c net =
    if not (has_net c net) then refused S.InvalidNetKey
    else if phase_of c net == 0 then refused S.CannotSet
    else if phase_of c net == 2 then unchanged
    else stored (R.NetKey 3 net no_key)

abbrev pub phase_end : Config → ℕ → Outcome
phase_end c net =
    if not (has_net c net) then refused S.InvalidNetKey
    else if phase_of c net == 0 then unchanged
    else stored (R.NetKey 4 net no_key)

-- Key Refresh Phase Status 8017: status, the network key, its phase
abbrev pub phase_act : Outcome → ℕ → ℕ → ConfigAct
phase_act o net phase = acted o.change (0x80 ∷ 0x17 ∷ status_octet o.status ∷ two_low_first net ++ phase ∷ [])

abbrev pub phase_shown : Config → ℕ → ConfigAct
phase_shown c net = phase_act (if has_net c net then unchanged else refused S.InvalidNetKey) net (phase_of c net)

-- the phase is that before the message where it stays, and else the one that was set
abbrev pub phase_after : Config → ℕ → Outcome → ℕ → ℕ
phase_after c net o set = if is_some o.change then set else phase_of c net

abbrev pub phase_set : Config → ℕ → PhaseTransition → ConfigAct
phase_set c net T.ToPhaseTwo = phase_act (phase_two c net) net (phase_after c net (phase_two c net) 2)
phase_set c net T.ToEnd = phase_act (phase_end c net) net (phase_after c net (phase_end c net) 0)
