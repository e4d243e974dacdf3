-- The replies to an access message are within their ranges.
use Rattle.std.proofs.Common.{ℕ, Bool, true, false, cond, List, [], ◌∷◌, ◌++◌, map, filter, eqb, Option, Some, None}
use Rattle.std.specs.Prelude.{IfSome, fold}
use Rattle.std.specs.List.{AllByRecursion as Every}
use Rattle.std.specs.Option.{option_to_list}
use Rattle.cipher_definitions.specs.Kdf.{aid}
use Rattle.config_definitions.proofs.Answered.{IsReplied, replied}
use Rattle.config_definitions.proofs.Cases.{Inside}
use Rattle.config_definitions.specs.Answers.{config_answer}
use Rattle.config_definitions.specs.declared.acts.ConfigAct.{ConfigAct}
use Rattle.element_models.proofs.Filled.{IsFilled, level_replies, onoff_replies, taken}
use Rattle.layer_definitions.proofs.KeyLaws.{aid_width}
use Rattle.layer_definitions.specs.KeyRefresh.{app_key, keys_of}
use Rattle.layer_states.specs.Friends.{FriendsState, after}
use Rattle.layer_states.specs.Names.{is_unicast}
use Rattle.machine_contract.specs.Ranges.{IsJob, IsUpperKey}
use Rattle.machine_ties.proofs.Acks.{IsShort, reply_short}
use Rattle.mesh_base.proofs.Every.{every_append, every_flat, every_flat_any, every_made, every_mapped, every_pick}
use Rattle.machine_ties.proofs.Widths.{every_under}
use Rattle.mesh_base.specs.declared.address.Address.{Address}
use Rattle.mesh_base.specs.declared.keys.AppKeyRow.{AppKeyRow}
use Rattle.mesh_base.specs.declared.keys.UpperKey.TheVariants as U
use Rattle.mesh_base.specs.declared.lower.Lower.{Lower}
use Rattle.mesh_types.specs.declared.events.Event.{Event}
use Rattle.model_states.specs.declared.publication.HeartbeatRow.{HeartbeatRow}
use Rattle.node_layers.specs.Configuration.{config_act, is_for_server}
use Rattle.node_layers.specs.ConfiguredLayers.{reply_job, sent_reply}
use Rattle.node_layers.specs.Friendship.{act_of, ended_calls, friends, replies_to}
use Rattle.node_layers.specs.Models.{element_replies, elements_of, level_answer, level_server, level_state, model_replies, onoff_answer, onoff_server, onoff_state, takes}
use Rattle.node_layers.specs.NodeLayers.{node_layers, replies_of, reply_jobs}
use Rattle.event_definitions.specs.Answers.{config_before}
use Rattle.event_definitions.specs.History.{Opening, Past, Reading, now_of}
use Rattle.event_definitions.specs.Layers.{AccessMessage}
use Rattle.event_definitions.specs.Readings.{IsOpening, keys_tried}
use Rattle.event_definitions.proofs.Opened.{key_holds}
use Rattle.store_definitions.specs.Config.{Config}

-- The key that a message opened under: its AID is that of the key.

tried_width : (c : Config) (r : Reading) (akf : Bool) (id : ℕ) → Every IsUpperKey (keys_tried c r akf id)
tried_width c r true id =
    every_flat_any IsUpperKey
    (λ (row : AppKeyRow). map (app_key row.index)
    (filter (λ key. eqb (aid key) id) (keys_of (λ fresh key. key) row.key row.next)))
    (λ row. every_made IsUpperKey (app_key row.index) aid_width _) _
tried_width c r false id = own (is_unicast r.fields.dst)
  where
    own : (b : Bool) → Every IsUpperKey (cond b (U.Device c.dev_key ∷ []) [])
    own true = (tt, tt)
    own false = tt

pub key_width : (past : Past) (r : Reading) (low : Option Lower) (o : Opening)
    → IsOpening node_layers past (Some r) low (Some o) → IsUpperKey o.key
key_width past r low o s = key_holds IsUpperKey tried_width node_layers past (Some r) low o s

-- Each reply has an octet.

abbrev pub IsReply : ℕ × List ℕ → Type 0
IsReply reply = IsFilled reply.1

-- where the Configuration Server answers, its reply has an octet, and a heartbeat that it sets a TTL of 7 bits
pub acts : (c : Config) (polls : List (Address × ℕ)) (beat : HeartbeatRow) (m : AccessMessage)
    → Inside IsReplied (config_act c polls beat m)
acts c polls beat m =
    for_server (is_for_server c m) (config_answer c m.net polls beat m.payload) (replied c m.net polls beat m.payload)
  where
    for_server : (b : Bool) (o : Option ConfigAct) → Inside IsReplied o → Inside IsReplied (cond b o None)
    for_server true o h = h
    for_server false o h = tt

act_replies : (o : Option ConfigAct) → Inside IsReplied o
    → Every IsReply (map (λ (act : ConfigAct). (0, act.reply)) (option_to_list o))
act_replies None h = tt
act_replies (Some act) h = (h.octet, tt)

listed : (o : Option (List ℕ)) → IfSome o IsFilled → Every IsFilled (option_to_list o)
listed None h = tt
listed (Some payload) h = (h, tt)

element_filled : (past : Past) (c : Config) (m : AccessMessage) (element : ℕ)
    → Every IsReply (element_replies past c m element)
element_filled past c m element =
    every_mapped IsFilled IsReply (λ (payload : List ℕ). (element, payload)) (λ payload h. h)
    (option_to_list (onoff_answer past c element m) ++ option_to_list (level_answer past c element m))
    (every_append IsFilled (option_to_list (onoff_answer past c element m)) (option_to_list (level_answer past c element m))
    (listed (onoff_answer past c element m)
    (taken (takes c element onoff_server m) _
    (onoff_replies (onoff_state past element) (now_of past.told) m.name.src m.dst m.payload)))
    (listed (level_answer past c element m)
    (taken (takes c element level_server m) _
    (level_replies (level_state past element) (now_of past.told) m.name.src m.dst m.payload))))

replies_filled : (past : Past) (st : FriendsState) (m : AccessMessage) → Every IsReply (replies_to past st m)
replies_filled past st m =
    let c : Config = config_before past in
    let act : Option ConfigAct = act_of past st m in
    every_append IsReply (map (λ (act : ConfigAct). (0, act.reply)) (option_to_list act)) (model_replies past m)
    (act_replies act (acts c _ _ m))
    (every_flat_any IsReply (element_replies past c m) (element_filled past c m) (elements_of c))

-- So each is a job within its ranges.

pub replied_in : (event : Event) (past : Past) (c : Config) (m : AccessMessage) → IsShort c.ttl → IsUpperKey m.key
    → Every (IsJob event) (replies_of past c m)
replied_in event past c m h key =
    let st : FriendsState = fold after (friends past) (ended_calls (config_before past) m) in
    every_flat IsReply (IsJob event) (reply_jobs c st m)
    (λ reply octet. every_pick (IsJob event) _ [] (sent_reply c m reply) tt
    (every_under (IsJob event) c m.net (reply_job c m reply)
    (λ material nid. (nid, reply_short c m.ttl h, key, octet))))
    (replies_to past (friends past) m) (replies_filled past (friends past) m)
