-- What is known of octets that were read: their fields have a PDU, the NID has 7 bits, and so has the AID of the key that opened them 6.
use Rattle.std.proofs.Common.{◌≡◌, ℕ, ◌<◌, ◌^◌, Bool, true, false, cond, List, [], ◌∷◌, map, filter, eqb, subst, ap, Option, Some, None}
use Rattle.std.specs.Prelude.{IfSome}
use Rattle.std.specs.List.{AllByRecursion as Every, flat_map}
use Rattle.std.specs.Option.{option_map}
use Rattle.app_keys.specs.AppRows.{HasAidWidth}
use Rattle.cipher_definitions.specs.Kdf.{aid}
use Rattle.friend_steps.specs.Hearing.{IsOpenedWell, IsReadWell}
use Rattle.layer_definitions.proofs.KeyLaws.{aid_width, nid_width}
use Rattle.layer_definitions.specs.KeyRefresh.{app_key, heard_key, heard_keys, keys_of}
use Rattle.layer_definitions.specs.Network.{HasPdu}
use Rattle.layer_states.specs.Names.{is_unicast}
use Rattle.mesh_base.proofs.Every.{every_append, every_at}
use Rattle.mesh_base.specs.declared.fields.Heard.{Heard}
use Rattle.mesh_base.specs.declared.keys.AppKeyRow.{AppKeyRow}
use Rattle.mesh_base.specs.declared.keys.NetKeyRow.{NetKeyRow}
use Rattle.mesh_base.specs.declared.keys.UpperKey.TheVariants as U
use Rattle.mesh_base.specs.declared.lower.Lower.{Lower}
use Rattle.mesh_hearing.specs.Heard.{insight_of}
use Rattle.mesh_hearing.specs.declared.hearing.Hearing.{Hearing}
use Rattle.mesh_reading.specs.Held.{opening_of, reading_of, opened_in, pdu_insight, reading_in}
use Rattle.mesh_reading.specs.declared.heard.HeardPdu.{HeardPdu}
use Rattle.mesh_reading.specs.declared.heard.HeardPdu.TheVariants as H
use Rattle.mesh_types.specs.declared.events.Event.TheVariants as E
use Rattle.network_layer.specs.declared.reading.NetReading.{NetReading}
use Rattle.node_layers.proofs.FriendKeys.{friend_nids}
use Rattle.node_layers.specs.Friendship.{friend_keys}
use Rattle.node_layers.specs.NodeLayers.{node_layers}
use Rattle.event_definitions.specs.Answers.{config_before}
use Rattle.event_definitions.specs.History.{Insight, OfNothing, OfPdu, Opening, Past, Reading}
use Rattle.event_definitions.specs.Readings.{IsReading, Sees, keys_heard, keys_tried, sees_pdu}
use Rattle.event_definitions.proofs.Opened.{key_holds}
use Rattle.store_definitions.specs.Config.{Config}

-- The NID that octets were read under.

abbrev IsNarrow : Heard → Type 0
IsNarrow h = h.material.nid < 2 ^ 7

row_nids : (index : ℕ) (key : List ℕ) (next : Option (List ℕ)) → Every IsNarrow (keys_of (heard_key index) key next)
row_nids index key None = (nid_width key, tt)
row_nids index key (Some next) = (nid_width key, (nid_width next, tt))

net_nids : (rows : List NetKeyRow) → Every IsNarrow (heard_keys rows)
net_nids [] = tt
net_nids (r ∷ rows) =
    every_append IsNarrow (keys_of (heard_key r.index) r.key r.next) (heard_keys rows) (row_nids r.index r.key r.next) (net_nids rows)

pub reading_well : (past : Past) (octets : List ℕ) (r : Reading) → IsReading node_layers past octets (Some r)
    → HasPdu r.fields × (r.by.material.nid < 2 ^ 7)
unfolding node_layers
reading_well past octets r (place, reads) = (
  reads.reads.has_pdu,
  every_at IsNarrow (keys_heard node_layers past) place r.by reads.key
      (every_append IsNarrow (heard_keys (config_before past).nets) (friend_keys past) (net_nids (config_before past).nets)
      (friend_nids past)),
)

-- The key that a message opened under.

keys_width : (index : ℕ) (keys : List (List ℕ)) → Every HasAidWidth (map (app_key index) keys)
keys_width index [] = tt
keys_width index (key ∷ keys) = (aid_width key, keys_width index keys)

apps_width : (id : ℕ) (rows : List AppKeyRow)
    → Every HasAidWidth
    (flat_map (λ (r : AppKeyRow). map (app_key r.index) (filter (λ key. eqb (aid key) id) (keys_of (λ fresh key. key) r.key r.next))) rows)
apps_width id [] = tt
apps_width id (r ∷ rows) = every_append HasAidWidth _ _ (keys_width r.index _) (apps_width id rows)

tried_width : (c : Config) (r : Reading) (akf : Bool) (id : ℕ) → Every HasAidWidth (keys_tried c r akf id)
tried_width c r true id = apps_width id (filter (λ (row : AppKeyRow). eqb row.net r.by.index) c.apps)
tried_width c r false id = own (is_unicast r.fields.dst)
  where
    own : (b : Bool) → Every HasAidWidth (cond b (U.Device c.dev_key ∷ []) [])
    own true = (tt, tt)
    own false = tt

-- So of what was heard.

read_by : (past : Past) (octets : List ℕ) (r : Reading) (low : Option Lower) (opening : Option Opening)
    → Sees node_layers past (E.Net octets) (OfPdu (Some r) low opening) → HasPdu r.fields × (r.by.material.nid < 2 ^ 7)
read_by past octets r low opening (sees_pdu reset reads lower opens) = reading_well past octets r reads

opened_by : (past : Past) (octets : List ℕ) (reading : Option Reading) (low : Option Lower) (o : Opening)
    → Sees node_layers past (E.Net octets) (OfPdu reading low (Some o)) → HasAidWidth o.key
opened_by past octets reading low o (sees_pdu reset reads lower opens) = key_holds HasAidWidth tried_width node_layers past reading low o opens

pdu_read : (pdu : HeardPdu) (past : Past) (octets : List ℕ) → Sees node_layers past (E.Net octets) (pdu_insight pdu)
    → IfSome (reading_in pdu) (λ r. HasPdu r.fields × (r.by.material.nid < 2 ^ 7))
pdu_read H.Reset past octets sees = tt
pdu_read H.Unread past octets sees = tt
pdu_read (H.Network r) past octets sees = read_by past octets (reading_of r) None None sees
pdu_read (H.Lower r low) past octets sees = read_by past octets (reading_of r) (Some low) None sees
pdu_read (H.Opened r low o) past octets sees = read_by past octets (reading_of r) (Some low) (Some (opening_of o)) sees

pdu_opened : (pdu : HeardPdu) (past : Past) (octets : List ℕ) → Sees node_layers past (E.Net octets) (pdu_insight pdu)
    → IfSome (opened_in pdu) (λ o. HasAidWidth o.key)
pdu_opened H.Reset past octets sees = tt
pdu_opened H.Unread past octets sees = tt
pdu_opened (H.Network r) past octets sees = tt
pdu_opened (H.Lower r low) past octets sees = tt
pdu_opened (H.Opened r low o) past octets sees = opened_by past octets (Some (reading_of r)) (Some low) (opening_of o) sees

pub read_well : (h : Hearing) (past : Past) (octets : List ℕ) → Sees node_layers past (E.Net octets) (insight_of h) → IsReadWell h
read_well h past octets sees = pdu_read h.pdu past octets sees

pub opened_well : (h : Hearing) (past : Past) (octets : List ℕ) → Sees node_layers past (E.Net octets) (insight_of h) → IsOpenedWell h
opened_well h past octets sees = pdu_opened h.pdu past octets sees
