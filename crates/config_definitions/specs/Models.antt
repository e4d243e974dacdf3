-- Messages about the subscriptions and the application keys of models (Mesh Profile 1.0.1, sections 4.3.2.19 to 4.3.2.26 and 4.3.2.46 to 4.3.2.48).
-- The first test that holds decides.
use Rattle.std.specs.Prelude.{ℕ, ◌+◌, ◌*◌, ◌==◌, ◌&&◌, ◌||◌, not, nat_lt, nat_le, Bool, true, false, if◌then◌else◌, List, [], ◌∷◌, ◌++◌, Option, Some, None, Result, Ok, Err, is_some, length, filter}
use Rattle.std.specs.List.{list_any}
use Rattle.node_limits.specs.declared.TheConstants.{BINDINGS, SUBSCRIPTIONS}
use Rattle.cipher_definitions.specs.Kdf.{virtual_address}
use Rattle.config_definitions.specs.Params.{model_text, status_octet, refused, unchanged, stored, acted}
use Rattle.config_definitions.specs.declared.acts.ConfigAct.{ConfigAct}
use Rattle.config_definitions.specs.declared.acts.Outcome.{Outcome}
use Rattle.config_definitions.specs.declared.acts.Status.{Status}
use Rattle.config_definitions.specs.declared.acts.Status.TheVariants as S
use Rattle.config_definitions.specs.declared.messages.AppBinding.{AppBinding}
use Rattle.config_definitions.specs.declared.messages.ElementModel.{ElementModel}
use Rattle.config_definitions.specs.declared.messages.GroupSubscription.{GroupSubscription}
use Rattle.config_definitions.specs.declared.messages.LabelSubscription.{LabelSubscription}
use Rattle.config_definitions.specs.declared.messages.ModelId.{ModelId}
use Rattle.config_definitions.specs.declared.messages.ModelId.TheVariants as I
use Rattle.layer_definitions.specs.KeyRefresh.{app_row}
use Rattle.mesh_base.specs.declared.address.Address.{Address}
use Rattle.model_states.specs.Access.{two_low_first}
use Rattle.record_types.specs.declared.records.StoreRecord.{StoreRecord}
use Rattle.record_types.specs.declared.records.StoreRecord.TheVariants as R
use Rattle.store_definitions.specs.Config.{Config, is_element, is_bind, is_sub, is_label, subs_without, labels_without}

-- Which model is meant.

-- the number of a model of the Bluetooth SIG; the node has none of a vendor
abbrev pub model_number : ModelId → Option ℕ
model_number (I.Sig n) = Some n
model_number (I.Vendor company model) = None

-- an element has the Generic OnOff Server and the Generic Level Server, the first one also the Configuration Server
abbrev pub has_model : Config → Address → ℕ → Bool
has_model c element model = model == 0x1000 || model == 0x1002 || (model == 0x0000 && element.0 == c.unicast.0)

-- The model that is meant: refused where there is no such element, then where it has no such model, then with this status where it is the
-- Configuration Server, which neither subscribes nor publishes nor is bound.
abbrev pub model_of : Config → ElementModel → Status → Result ℕ Status
model_of c holder status =
    if not (is_element c holder.element.0) then Err S.InvalidAddress else by_number (model_number holder.model)
  where
    by_number : Option ℕ → Result ℕ Status
    by_number None = Err S.InvalidModel
    by_number (Some n) =
        if not (has_model c holder.element n) then Err S.InvalidModel else if n == 0 then Err status else Ok n

-- what is done to that model
abbrev pub on_model : Result ℕ Status → (ℕ → Outcome) → Outcome
on_model (Err status) outcome = refused status
on_model (Ok n) outcome = outcome n

-- Subscriptions.

-- groups and labels count together
abbrev pub is_full : List (Address × ℕ × Address) → List (Address × ℕ × List ℕ) → Bool
is_full subs labels = nat_le SUBSCRIPTIONS (length subs + length labels)

-- a group, but for the one of all nodes
abbrev pub is_subscribed : Address → Bool
is_subscribed a = nat_le 0xc000 a.0 && nat_le a.0 0xfffe

abbrev pub group_add : Config → Address → Address → ℕ → Outcome
group_add c element group model =
    if not (is_subscribed group) then refused S.InvalidAddress
    else if list_any (is_sub element model group) c.subs then unchanged
    else if is_full c.subs c.labels then refused S.InsufficientResources
    else stored (R.Subscribe 1 element model group)

abbrev pub group_delete : Config → Address → Address → ℕ → Outcome
group_delete c element group model =
    if not (is_subscribed group) then refused S.InvalidAddress
    else if list_any (is_sub element model group) c.subs then stored (R.Subscribe 2 element model group)
    else unchanged

-- the groups and the labels of a model
abbrev pub groups_of : Config → Address → ℕ → List (Address × ℕ × Address)
groups_of c element model = filter (λ s. s.0.0 == element.0 && s.1 == model) c.subs

abbrev pub labels_of : Config → Address → ℕ → List (Address × ℕ × List ℕ)
labels_of c element model = filter (λ l. l.0.0 == element.0 && l.1 == model) c.labels

-- how many subscriptions the model has, of both kinds
abbrev pub count_of_model : Config → Address → ℕ → ℕ
count_of_model c element model = length (groups_of c element model) + length (labels_of c element model)

-- those of other models alone fill the table
abbrev pub is_full_of_others : Config → Address → ℕ → Bool
is_full_of_others c element model = is_full (subs_without element model c.subs) (labels_without element model c.labels)

-- the group takes the place of all groups and labels of the model
abbrev pub group_overwrite : Config → Address → Address → ℕ → Outcome
group_overwrite c element group model =
    if not (is_subscribed group) then refused S.InvalidAddress
    else if list_any (is_sub element model group) c.subs && count_of_model c element model == 1 then unchanged
    else if is_full_of_others c element model then refused S.InsufficientResources
    else stored (R.Subscribe 4 element model group)

-- all groups and labels of the model go
abbrev pub subscriptions_delete : Config → Address → ℕ → Outcome
subscriptions_delete c element model =
    if count_of_model c element model == 0 then unchanged else stored (R.Subscribe 3 element model (record { 0 = 0 }))

abbrev pub label_add : Config → Address → List ℕ → ℕ → Outcome
label_add c element label model =
    if list_any (is_label element model label) c.labels then unchanged
    else if is_full c.subs c.labels then refused S.InsufficientResources
    else stored (R.Label 1 element model label)

abbrev pub label_delete : Config → Address → List ℕ → ℕ → Outcome
label_delete c element label model =
    if list_any (is_label element model label) c.labels then stored (R.Label 2 element model label) else unchanged

-- the label takes the place of all groups and labels of the model
abbrev pub label_overwrite : Config → Address → List ℕ → ℕ → Outcome
label_overwrite c element label model =
    if list_any (is_label element model label) c.labels && count_of_model c element model == 1 then unchanged
    else if is_full_of_others c element model then refused S.InsufficientResources
    else stored (R.Label 4 element model label)

-- Model Subscription Status 801f: status, element, address, model
abbrev pub subscription_act : Outcome → ElementModel → ℕ → ConfigAct
subscription_act o holder address =
    acted o.change
    (0x80 ∷ 0x1f ∷ status_octet o.status ∷ two_low_first holder.element.0 ++ two_low_first address
    ++ model_text holder.model)

-- an Add, a Delete or an Overwrite of a group
abbrev pub group_act : Config → (Address → Address → ℕ → Outcome) → GroupSubscription → ConfigAct
group_act c outcome s =
    subscription_act (on_model (model_of c s.holder S.NotSubscribe) (outcome s.holder.element s.group)) s.holder s.group.0

abbrev pub delete_all_act : Config → ElementModel → ConfigAct
delete_all_act c holder =
    subscription_act (on_model (model_of c holder S.NotSubscribe) (subscriptions_delete c holder.element)) holder 0

-- an Add, a Delete or an Overwrite of a label
abbrev pub label_act : Config → (Address → List ℕ → ℕ → Outcome) → LabelSubscription → ConfigAct
label_act c outcome s =
    subscription_act (on_model (model_of c s.holder S.NotSubscribe) (outcome s.holder.element s.label)) s.holder
    (virtual_address s.label)

-- Bindings.

abbrev pub has_app : Config → ℕ → Bool
has_app c app = is_some (app_row c.apps app)

abbrev pub app_bind : Config → Address → ℕ → ℕ → Outcome
app_bind c element app model =
    if not (has_app c app) then refused S.InvalidAppKey
    else if list_any (is_bind element model app) c.binds then unchanged
    else if nat_le BINDINGS (length c.binds) then refused S.InsufficientResources
    else stored (R.Bind 1 element model app)

abbrev pub app_unbind : Config → Address → ℕ → ℕ → Outcome
app_unbind c element app model =
    if not (has_app c app) then refused S.InvalidAppKey
    else if list_any (is_bind element model app) c.binds then stored (R.Bind 2 element model app)
    else unchanged

-- Model App Status 803e: status, element, application key, model
abbrev pub bind_status : Outcome → AppBinding → ConfigAct
bind_status o b =
    acted o.change
    (0x80 ∷ 0x3e ∷ status_octet o.status ∷ two_low_first b.holder.element.0 ++ two_low_first b.app
    ++ model_text b.holder.model)

-- a Bind or an Unbind
abbrev pub bind_act : Config → (Address → ℕ → ℕ → Outcome) → AppBinding → ConfigAct
bind_act c outcome b =
    bind_status (on_model (model_of c b.holder S.CannotBind) (outcome b.holder.element b.app)) b
