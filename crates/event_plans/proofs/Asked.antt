-- What the plan of an event says for its jobs.
use Rattle.std.proofs.Common.{◌≡◌, ℕ, Bool, true, false, cond, List, refl, ap, sym, subst, ◌∙◌, Option, Some, None}
use Rattle.std.specs.Prelude.{IfSome, MatchOption}
use Rattle.event_plans.specs.Plans.{IsBasisOf, LeavesConfig}
use Rattle.event_plans.specs.Sending.{IsOwn, IsSendable}
use Rattle.event_plans.specs.Basis as B
use Rattle.layer_definitions.specs.Lower.{Fits}
use Rattle.mesh_base.specs.declared.lower.Lower.{Lower}
use Rattle.mesh_hearing.specs.Below.{is_any}
use Rattle.mesh_hearing.specs.Tables.{AreTablesOf, TablesView}
use Rattle.mesh_types.specs.declared.answers.Answer.{Answer}
use Rattle.mesh_types.specs.declared.answers.Answer.TheVariants as A
use Rattle.mesh_reading.specs.Held.{low_in, opening_of, pdu_insight, reading_of}
use Rattle.mesh_reading.specs.declared.heard.HeardPdu.{HeardPdu}
use Rattle.mesh_reading.specs.declared.heard.HeardPdu.TheVariants as H
use Rattle.mesh_jobs.specs.Acting.{IsActIn}
use Rattle.mesh_jobs.specs.Own.{IsBefriended, IsSingle}
use Rattle.mesh_types.specs.declared.events.Event.{Event}
use Rattle.mesh_types.specs.declared.events.Event.TheVariants as E
use Rattle.mesh_types.specs.declared.events.Outgoing.{Outgoing}
use Rattle.node_friends.specs.declared.acts.FriendAct.{FriendAct}
use Rattle.node_layers.specs.BuiltLayers.{built_layers}
use Rattle.node_layers.specs.ConfiguredLayers.{configured_layers}
use Rattle.node_layers.specs.NodeLayers.{node_layers}
use Rattle.event_definitions.specs.Answers.{answer_of, config_before, is_busy, later, network_answer}
use Rattle.event_definitions.specs.History.{Insight, OfPdu, Opening, Past, Reading}
use Rattle.event_definitions.specs.Readings.{IsLowerPdu, Sees, sees_pdu}
use Rattle.store_definitions.specs.Config.{Config}

lower_fits : (o : Option Answer) (r : Reading) (low : Lower) → MatchOption o (IsLowerPdu r.fields (Some low)) (λ answer. Some low ≡ None) → Fits low
lower_fits None r low h = h.fits
lower_fits (Some a) r low h = absurd cc

pub low_fits : (past : Past) (octets : List ℕ) (r : Option Reading) (low : Lower) (opening : Option Opening)
    → Sees node_layers past (E.Net octets) (OfPdu r (Some low) opening) → Fits low
low_fits past octets (Some r) low opening (sees_pdu reset reads lower opens) = lower_fits (network_answer past r) r low lower
low_fits past octets None low opening (sees_pdu reset reads lower opens) = absurd cc

-- the answer to time
pub time_told : (past : Past) (ticks : ℕ) (i : Insight)
    → answer_of node_layers past (E.Tick ticks) i ≡ cond (config_before past).reset A.Reset (A.Ticked (later past ticks))
unfolding answer_of
time_told past ticks i = refl

-- time is told where there was no Node Reset
pub told_time : (past : Past) (ticks now : ℕ) (i : Insight) (a : Answer) → a ≡ answer_of node_layers past (E.Tick ticks) i → a ≡ A.Ticked now → (config_before past).reset ≡ false
unfolding answer_of
told_time past ticks now i a is e = pick (config_before past).reset (sym is ∙ e)
  where
    pick : (b : Bool) → cond b A.Reset (A.Ticked (later past ticks)) ≡ A.Ticked now → b ≡ false
    pick true e = absurd cc
    pick false e = refl

-- an event that brings neither octets heard nor time, and doesn't begin segments, asks for one job at most
pub own_single : (c : Config) (event : Event) → IsOwn event → IsSendable c event → ((m : Outgoing) → event ≡ E.Begin m → ⊥) → IsSingle c event
own_single c (E.Net octets) own h begin = absurd own
own_single c (E.Bcn octets) own h begin = absurd own
own_single c (E.Tick ticks) own h begin = absurd own
own_single c (E.Begin m) own h begin = begin m refl
own_single c (E.Send element dst ttl key payload) own h begin = h.0
own_single c _ own h begin = tt

-- a message that the node is asked to send, by whether it goes to an address of a friendship
pub befriended_so : (past : Past) (event : Event) (a : Answer) (befriended : Bool) → IsBasisOf past event a (B.Own befriended)
    → IsBefriended node_layers past event befriended
unfolding node_layers
befriended_so past (E.Send element dst ttl key payload) a befriended h = h
befriended_so past _ a befriended h = tt

-- what a control message led to may be asked of the records after it
pub act_still : (past : Past) (c : Config) (i : Insight) (a : Answer) (act : FriendAct) → LeavesConfig a (config_before past) c → IsActIn past (config_before past) i a act → IsActIn past c i a act
act_still past c (OfPdu (Some r) low opening) (A.Control name dst opcode params) act same h =
    subst (λ (d : Config). IsActIn past d (OfPdu (Some r) low opening) (A.Control name dst opcode params) act) same h
act_still past c (OfPdu (Some r) low opening) _ act same h = tt
act_still past c _ a act same h = tt

pub busy_is : (past : Past) (t : TablesView) → AreTablesOf t past.told → is_any t.own ≡ is_busy node_layers past
unfolding node_layers configured_layers built_layers
busy_is past t h = ap is_any h.own

-- the lower transport PDU that octets were read as
pub heard_fits : (past : Past) (octets : List ℕ) (h : HeardPdu) → Sees node_layers past (E.Net octets) (pdu_insight h) → IfSome (low_in h) Fits
heard_fits past octets H.Reset sees = tt
heard_fits past octets H.Unread sees = tt
heard_fits past octets (H.Network r) sees = tt
heard_fits past octets (H.Lower r low) sees = low_fits past octets (Some (reading_of r)) low None sees
heard_fits past octets (H.Opened r low o) sees = low_fits past octets (Some (reading_of r)) low (Some (opening_of o)) sees
