-- What a control message asks to be sent is within its ranges.
use Rattle.std.proofs.Common.{◌≡◌, ℕ, Bool, List, fold, ap, sym, ◌∙◌, arith, Option, Some, None}
use Rattle.std.specs.Bool.{⊤}
use Rattle.std.specs.List.{AllByRecursion as Every}
use Rattle.app_keys.specs.AppRows.{HasAidWidth}
use Rattle.event_plans.specs.Plans.{LeavesConfig}
use Rattle.layer_definitions.proofs.KeyLaws.{nid_width}
use Rattle.layer_definitions.specs.Control.{control_text}
use Rattle.layer_definitions.specs.ControlReading.{control_of}
use Rattle.layer_definitions.specs.KeyRefresh.{heard_key, heard_keys, keys_of}
use Rattle.layer_states.specs.Friends.{FriendsState, after}
use Rattle.layer_states.specs.declared.friends.PollAnswer.{PollAnswer}
use Rattle.layer_states.specs.declared.friends.PollAnswer.TheVariants as P
use Rattle.machine_contract.specs.Ranges.{IsJob, IsUpperKey}
use Rattle.machine_ties.proofs.Acks.{IsShort}
use Rattle.mesh_base.proofs.Every.{every_append, every_flat_any}
use Rattle.mesh_base.proofs.Every.{every_at}
use Rattle.machine_ties.proofs.Widths.{every_under}
use Rattle.mesh_base.specs.declared.address.Address.{Address}
use Rattle.mesh_base.specs.declared.keys.NetKeyRow.{NetKeyRow}
use Rattle.mesh_base.specs.declared.keys.UpperKey.{UpperKey}
use Rattle.mesh_base.specs.declared.keys.UpperKey.TheVariants as U
use Rattle.mesh_jobs.specs.Acting.{IsActIn}
use Rattle.mesh_types.specs.declared.answers.Answer.{Answer}
use Rattle.mesh_types.specs.declared.answers.Answer.TheVariants as A
use Rattle.mesh_types.specs.declared.events.Event.{Event}
use Rattle.node_friends.proofs.ActJobs.{jobs_are}
use Rattle.node_friends.specs.Acts.{jobs_of_act}
use Rattle.node_friends.specs.Queues.{IsSendableAct, IsSendableAnswer}
use Rattle.node_friends.specs.declared.acts.FriendAct.{FriendAct}
use Rattle.node_friends.specs.declared.acts.FriendAct.TheVariants as F
use Rattle.node_layers.proofs.FriendKeys.{HasNid, friend_nids}
use Rattle.node_layers.specs.Friendship.{answer_jobs, clear_jobs, control_jobs, friend_keys, friends, heard_calls}
use Rattle.node_layers.specs.NodeLayers.{node_layers}
use Rattle.event_definitions.specs.Answers.{config_before}
use Rattle.event_definitions.specs.History.{Insight, OfBeacon, OfNothing, OfPdu, Past, Reading, now_of}
use Rattle.event_definitions.specs.Readings.{IsReading, keys_heard}
use Rattle.store_definitions.specs.Config.{Config}

-- The material by which a PDU was heard has a NID of 7 bits: it is that of a network key, or of a friendship.

row_nids : (row : NetKeyRow) (next : Option (List ℕ)) → Every HasNid (keys_of (heard_key row.index) row.key next)
row_nids row None = (nid_width row.key, tt)
row_nids row (Some next) = (nid_width row.key, (nid_width next, tt))

heard_nids : (past : Past) → Every HasNid (keys_heard node_layers past)
unfolding node_layers
heard_nids past =
    every_append HasNid (heard_keys (config_before past).nets) (friend_keys past)
    (every_flat_any HasNid (λ (row : NetKeyRow). keys_of (heard_key row.index) row.key row.next) (λ row. row_nids row row.next) (config_before past).nets)
    (friend_nids past)

pub reading_nid : (past : Past) (octets : List ℕ) (r : Reading) → IsReading node_layers past octets (Some r) → HasNid r.by
reading_nid past octets r reads = every_at HasNid (keys_heard node_layers past) reads.0 r.by reads.1.key (heard_nids past)

-- What an act asks to be sent, where what answers a Poll can be sent.

upper_key : (key : UpperKey) → HasAidWidth key → IsUpperKey key
upper_key (U.Device key) h = tt
upper_key (U.App index aid key) h = h

module _ (event : Event) where
  answer_in : (c : Config) (r : Reading) (fsn : Bool) (answer : PollAnswer) → HasNid r.by → IsSendableAnswer answer → Every (IsJob event) (answer_jobs c r fsn answer)
  unfolding control_text
  answer_in c r fsn P.Update nid s = ((nid, omega arith, omega arith, omega arith), tt)
  answer_in c r fsn (P.Stored f) nid s = ((nid, s), tt)
  answer_in c r fsn (P.Own m) nid s = ((nid, s.ttl, upper_key m.key s.key, s.payload), tt)
  answer_in c r fsn (P.Repeat name pdu) nid s = (tt, tt)
  answer_in c r fsn P.Silent nid s = tt

  clear_in : (c : Config) (r : Reading) (told : Option (Address × ℕ)) → IsShort c.ttl → Every (IsJob event) (clear_jobs c r told)
  unfolding control_text
  clear_in c r None h = tt
  clear_in c r (Some told) h = every_under (IsJob event) c r.by.index _ (λ m nid. (nid, h, omega arith, omega arith))

  pub act_in : (c : Config) (r : Reading) (act : FriendAct) → IsShort c.ttl → HasNid r.by → IsSendableAct act → Every (IsJob event) (jobs_of_act c r act)
  unfolding control_text
  act_in c r F.Nothing h nid s = tt
  act_in c r (F.Offered offer) h nid s = every_under (IsJob event) c r.by.index _ (λ m n. (n, omega arith, omega arith, omega arith))
  act_in c r (F.Answered fsn polled) h nid s =
      every_append (IsJob event) (answer_jobs c r fsn polled.answer) (clear_jobs c r polled.clear) (answer_in c r fsn polled.answer nid s) (clear_in c r polled.clear h)
  act_in c r (F.Confirmed transaction) h nid s = ((nid, omega arith, omega arith, omega arith), tt)
  act_in c r (F.Cleared l) h nid s = every_under (IsJob event) c r.by.index _ (λ m n. (n, h, omega arith, omega arith))

-- What a control message asks to be sent is that of an act that can be sent.
pub record IsSentBy (past : Past) (c : Config) (r : Reading) (opcode : ℕ) (params : List ℕ) : Type 0 where
  pub act : FriendAct
  pub sendable : IsSendableAct act
  pub jobs : control_jobs past c (record { reading = r; opcode = opcode; params = params }) ≡ jobs_of_act c r act

abbrev pub HasAct : Past → Config → Insight → Answer → Type 0
HasAct past c (OfPdu (Some r) low opening) (A.Control name dst opcode params) = IsSentBy past c r opcode params
HasAct past c _ answer = ⊤

-- The act of a plan is that of the records before it, which a control message leaves.
pub has_act : (past : Past) (c : Config) (i : Insight) (a : Answer) (act : FriendAct) → IsActIn past (config_before past) i a act → IsSendableAct act
    → LeavesConfig a (config_before past) c → HasAct past c i a
has_act past c (OfPdu (Some r) low opening) (A.Control name dst opcode params) act is s leaves =
    let st : FriendsState = fold after (friends past) (heard_calls r) in
    record {
      act = act;
      sendable = s;
      jobs = rw (← leaves) (sym (ap (λ (x : FriendAct). jobs_of_act (config_before past) r x) is ∙ jobs_are (config_before past) st (now_of past.told) r (control_of opcode params)));
    }
has_act past c (OfPdu (Some r) low opening) _ act is s leaves = tt
has_act past c (OfPdu None low opening) a act is s leaves = tt
has_act past c (OfBeacon b) a act is s leaves = tt
has_act past c OfNothing a act is s leaves = tt
