-- What the records of a store say of the node, one change for each record, on plain sets: a set of keys or of publications as the list of
-- its rows by index, a set of bindings or subscriptions as the list of its members in the order in which they came.
use Rattle.std.specs.Prelude.{ℕ, ◌+◌, ◌*◌, ◌/◌, ◌%◌, ◌==◌, ◌&&◌, ◌||◌, not, nat_lt, nat_le, bytes_eq, slice_set, Bool, true, false, if◌then◌else◌, List, [], ◌∷◌, ◌++◌, Some, None, unwrap_or, map, fold, filter, replicate}
use Rattle.std.specs.List.{list_any}
use Rattle.node_limits.specs.declared.TheConstants.{ELEMENTS}
use Rattle.layer_definitions.specs.KeyRefresh.{net_index, app_index}
use Rattle.layer_definitions.specs.Order.{put_by}
use Rattle.mesh_base.specs.declared.address.Address.{Address}
use Rattle.mesh_base.specs.declared.iv_state.IvState.{IvState}
use Rattle.mesh_base.specs.declared.keys.NetKeyRow.{NetKeyRow}
use Rattle.mesh_base.specs.declared.keys.AppKeyRow.{AppKeyRow}
use Rattle.record_types.specs.declared.records.PublishRow.{PublishRow}
use Rattle.record_types.specs.declared.records.StoreRecord.{StoreRecord}
use Rattle.record_types.specs.declared.records.StoreRecord.TheVariants as R

pub record Config : Type 0 where
  -- identity: the first element's address, the number of elements, which is 0 before there is an Identity, and the device key
  pub unicast : Address
  pub elements : ℕ
  pub dev_key : List ℕ
  -- the IV state and the mark, a word
  pub iv : IvState
  pub mark : ℕ
  -- network keys and application keys, by index
  pub nets : List NetKeyRow
  pub apps : List AppKeyRow
  -- element, model and application key index of each binding; element, model and group of each subscription
  pub binds : List (Address × ℕ × ℕ)
  pub subs : List (Address × ℕ × Address)
  -- element, model and label of each subscription to a virtual address, in the order in which they came
  pub labels : List (Address × ℕ × List ℕ)
  -- what models publish, by element and model
  pub publications : List PublishRow
  -- the value that each model keeps, Generic OnOff Server and Generic Level Server, by the place of its element
  pub onoffs : List ℕ
  pub levels : List ℕ
  -- the features
  pub beacon : ℕ
  pub ttl : ℕ
  pub friend : ℕ
  pub relay : ℕ
  pub retransmit : ℕ
  pub transmit : ℕ
  -- whether there was a Node Reset
  pub reset : Bool

-- before any record; the features are those of a node that was just provisioned
abbrev pub no_config : Config
no_config = record {
  unicast = record { 0 = 0 };
  elements = 0;
  dev_key = replicate 16 0;
  iv = record { current = 0; progress = false; hours = 0; since = 0 };
  mark = 0;
  nets = [];
  apps = [];
  binds = [];
  subs = [];
  labels = [];
  publications = [];
  onoffs = replicate ELEMENTS 0;
  levels = replicate ELEMENTS 0;
  beacon = 0;
  ttl = 7;
  friend = 1;
  relay = 1;
  retransmit = 0;
  transmit = 0;
  reset = false;
}

-- Network keys (Mesh Profile 1.0.1, section 3.10.4).

-- the rows with the one of this index changed
abbrev pub change_net : ℕ → (NetKeyRow → NetKeyRow) → List NetKeyRow → List NetKeyRow
change_net index change rows = map (λ r. if r.index == index then change r else r) rows

-- the end of a Key Refresh: the new key stays alone
abbrev pub finished_net : NetKeyRow → NetKeyRow
finished_net r = record r { phase = 0; key = unwrap_or r.next r.key; next = None }

-- an application key of this network key takes its new value, where it has one
abbrev pub finished_app : ℕ → AppKeyRow → AppKeyRow
finished_app net r = if r.net == net then record r { key = unwrap_or r.next r.key; next = None } else r

-- op 1 add, 2 update, 3 phase 2, 4 finish, 5 delete
abbrev pub nets_after : ℕ → ℕ → List ℕ → List NetKeyRow → List NetKeyRow
nets_after op index key nets =
    if op == 1 then put_by net_index (record { index = index; phase = 0; key = key; next = None }) nets
    else if op == 2 then change_net index (λ r. record r { phase = 1; next = Some key }) nets
    else if op == 3 then change_net index (λ r. record r { phase = 2 }) nets
    else if op == 4 then change_net index finished_net nets
    else if op == 5 then filter (λ r. not (r.index == index)) nets
    else nets

-- with a network key its application keys finish and go
abbrev pub apps_after_net : ℕ → ℕ → List AppKeyRow → List AppKeyRow
apps_after_net op index apps =
    if op == 4 then map (finished_app index) apps
    else if op == 5 then filter (λ r. not (r.net == index)) apps
    else apps

-- and with these their bindings go
abbrev pub binds_after_net : ℕ → ℕ → List AppKeyRow → List (Address × ℕ × ℕ) → List (Address × ℕ × ℕ)
binds_after_net op index apps binds =
    if op == 5 then filter (λ b. not (list_any (λ r. r.net == index && r.index == b.2) apps)) binds else binds

-- Application keys.

-- the application key of this index gets a new value
abbrev pub updated_app : ℕ → List ℕ → AppKeyRow → AppKeyRow
updated_app index key r = if r.index == index then record r { next = Some key } else r

-- op 1 add, 2 update, 3 delete
abbrev pub apps_after : ℕ → ℕ → ℕ → List ℕ → List AppKeyRow → List AppKeyRow
apps_after op net index key apps =
    if op == 1 then put_by app_index (record { net = net; index = index; key = key; next = None }) apps
    else if op == 2 then map (updated_app index key) apps
    else if op == 3 then filter (λ r. not (r.index == index)) apps
    else apps

-- with an application key its bindings go
abbrev pub binds_after_app : ℕ → ℕ → List (Address × ℕ × ℕ) → List (Address × ℕ × ℕ)
binds_after_app op index binds = if op == 3 then filter (λ b. not (b.2 == index)) binds else binds

-- Bindings and subscriptions.

abbrev pub is_bind : Address → ℕ → ℕ → Address × ℕ × ℕ → Bool
is_bind element model app b = b.0.0 == element.0 && b.1 == model && b.2 == app

-- op 1 bind, 2 unbind
abbrev pub binds_after : ℕ → Address → ℕ → ℕ → List (Address × ℕ × ℕ) → List (Address × ℕ × ℕ)
binds_after op element model app binds =
    if op == 1 then (if list_any (is_bind element model app) binds then binds else binds ++ (element, model, app) ∷ [])
    else if op == 2 then filter (λ b. not (is_bind element model app b)) binds
    else binds

abbrev pub is_sub : Address → ℕ → Address → Address × ℕ × Address → Bool
is_sub element model address s = s.0.0 == element.0 && s.1 == model && s.2.0 == address.0

-- the subscriptions without those of a model
abbrev pub subs_without : Address → ℕ → List (Address × ℕ × Address) → List (Address × ℕ × Address)
subs_without element model subs = filter (λ s. not (s.0.0 == element.0 && s.1 == model)) subs

-- op 1 add, 2 delete, 3 all of the model go, 4 all of the model go and this one comes
abbrev pub subs_after : ℕ → Address → ℕ → Address → List (Address × ℕ × Address) → List (Address × ℕ × Address)
subs_after op element model address subs =
    if op == 1
    then (if list_any (is_sub element model address) subs then subs else subs ++ (element, model, address) ∷ [])
    else if op == 2 then filter (λ s. not (is_sub element model address s)) subs
    else if op == 3 then subs_without element model subs
    else if op == 4 then subs_without element model subs ++ (element, model, address) ∷ []
    else subs

-- Labels of virtual addresses.

abbrev pub is_label : Address → ℕ → List ℕ → Address × ℕ × List ℕ → Bool
is_label element model label l = l.0.0 == element.0 && l.1 == model && bytes_eq l.2 label

-- the labels without those of a model
abbrev pub labels_without : Address → ℕ → List (Address × ℕ × List ℕ) → List (Address × ℕ × List ℕ)
labels_without element model labels = filter (λ l. not (l.0.0 == element.0 && l.1 == model)) labels

-- op 1 add, 2 delete, 4 all of the model go and this one comes
abbrev pub labels_after : ℕ → Address → ℕ → List ℕ → List (Address × ℕ × List ℕ) → List (Address × ℕ × List ℕ)
labels_after op element model label labels =
    if op == 1
    then (if list_any (is_label element model label) labels then labels else labels ++ (element, model, label) ∷ [])
    else if op == 2 then filter (λ l. not (is_label element model label l)) labels
    else if op == 4 then labels_without element model labels ++ (element, model, label) ∷ []
    else labels

-- with all groups of a model its labels go, and with all labels its groups
abbrev pub labels_after_sub : ℕ → Address → ℕ → List (Address × ℕ × List ℕ) → List (Address × ℕ × List ℕ)
labels_after_sub op element model labels = if op == 3 || op == 4 then labels_without element model labels else labels

abbrev pub subs_after_label : ℕ → Address → ℕ → List (Address × ℕ × Address) → List (Address × ℕ × Address)
subs_after_label op element model subs = if op == 4 then subs_without element model subs else subs

-- Publications.

-- by what the rows of publications are ordered: the element, then the model
abbrev pub publication_index : PublishRow → ℕ
publication_index row = row.element.0 * 65536 + row.model

-- a publication goes with its application key
abbrev pub publications_after_app : ℕ → ℕ → List PublishRow → List PublishRow
publications_after_app op index rows = if op == 3 then filter (λ row. not (row.app == index)) rows else rows

-- and with the network key of this one
abbrev pub publications_after_net : ℕ → ℕ → List AppKeyRow → List PublishRow → List PublishRow
publications_after_net op index apps rows =
    if op == 5 then filter (λ row. not (list_any (λ r. r.net == index && r.index == row.app) apps)) rows else rows

-- One record's change. Feature 1 is beacon, 2 Default TTL, 3 friend, 4 relay in the high octet and its retransmissions in the low one, and
-- 5 network transmit.
unfoldable pub changed : Config → StoreRecord → Config
changed c (R.Identity unicast elements dev_key) = record c { unicast = unicast; elements = elements; dev_key = dev_key }
changed c (R.Numbers current progress mark hours since) =
    record c { iv = record { current = current; progress = progress; hours = hours; since = since }; mark = mark }
changed c (R.Hour hours since) =
    record c { iv = record { current = c.iv.current; progress = c.iv.progress; hours = hours; since = since } }
changed c (R.Replay first second) = c
changed c (R.NetKey op index key) = record c {
  nets = nets_after op index key c.nets;
  apps = apps_after_net op index c.apps;
  binds = binds_after_net op index c.apps c.binds;
  publications = publications_after_net op index c.apps c.publications;
}
changed c (R.AppKey op net index key) = record c {
  apps = apps_after op net index key c.apps;
  binds = binds_after_app op index c.binds;
  publications = publications_after_app op index c.publications;
}
changed c (R.Bind op element model app) = record c { binds = binds_after op element model app c.binds }
changed c (R.Subscribe op element model address) = record c {
  subs = subs_after op element model address c.subs;
  labels = labels_after_sub op element model c.labels;
}
changed c (R.Feature which value) = record c {
  beacon = if which == 1 then value else c.beacon;
  ttl = if which == 2 then value else c.ttl;
  friend = if which == 3 then value else c.friend;
  relay = if which == 4 then value / 256 else c.relay;
  retransmit = if which == 4 then value % 256 else c.retransmit;
  transmit = if which == 5 then value else c.transmit;
}
changed c R.Reset = record c { reset = true }
changed c (R.Model element model value) = record c {
  onoffs = if model == 0x1000 then slice_set c.onoffs element value else c.onoffs;
  levels = if model == 0x1002 then slice_set c.levels element value else c.levels;
}
changed c (R.Label op element model label) = record c {
  labels = labels_after op element model label c.labels;
  subs = subs_after_label op element model c.subs;
}
changed c (R.Publish row) = record c { publications = put_by publication_index row c.publications }

-- what a list of records says
abbrev pub config_of : List StoreRecord → Config
config_of records = fold changed no_config records

-- whether an address is an element's
abbrev pub is_element : Config → ℕ → Bool
is_element c address = nat_le c.unicast.0 address && nat_lt address (c.unicast.0 + c.elements)

-- the address of the element with this place, from 0 on
abbrev pub element_address : Config → ℕ → Address
element_address c element = record { 0 = c.unicast.0 + element }

-- TTL of an acknowledgment or a reply: 0 to what was heard with 0, else the Default TTL
abbrev pub reply_ttl : Config → ℕ → ℕ
reply_ttl c heard = if heard == 0 then 0 else c.ttl
