-- What the law asks of a kind of node beside safety: it stores no identity, and what it sends comes from an element. So does a node with safe
-- layers that send from an element alone, and so does a Low Power node.
use Rattle.std.proofs.Common.{◌≡◌, ◌+◌, ◌≤◌, true, [], ◌∷◌, subst, arith, Option, Some, None}
use Rattle.std.specs.List.{AllByRecursion as Every}
use Rattle.std.specs.Option.{option_map_or}
use Rattle.layer_laws.proofs.Node.{IsNoIdentity, stores_none}
use Rattle.layer_laws.proofs.Own.{place_own}
use Rattle.layer_laws.proofs.Parts.{sees_here}
use Rattle.low_power_role.proofs.Safe.{is_safe}
use Rattle.low_power_role.specs.Readings.{own_nets}
use Rattle.low_power_role.specs.Role.{control_job, jobs_of, jobs_under, low_power_role, sent_by, stores}
use Rattle.low_power_role.specs.State.{event_calls, state_of}
use Rattle.mesh_base.proofs.Every.{every_flat_any, every_made}
use Rattle.mesh_base.specs.declared.pair.Name.{Name}
use Rattle.mesh_types.specs.declared.answers.Answer.{Answer}
use Rattle.mesh_types.specs.declared.events.Event.{Event}
use Rattle.mesh_types.specs.declared.events.Event.TheVariants as E
use Rattle.record_types.specs.declared.records.StoreRecord.TheVariants as R
use Rattle.event_definitions.specs.Answers.{accepted, config_before}
use Rattle.event_definitions.specs.Fit.{IsOwn, IsOwnEvent}
use Rattle.event_definitions.specs.History.{Insight, Past}
use Rattle.event_definitions.specs.Layers.{Layers}
use Rattle.event_definitions.specs.Role.{Role, node_role}
use Rattle.event_definitions.specs.Safe.{AreSafe}
use Rattle.run_safety.proofs.NodeRole.{node_is_safe}
use Rattle.run_safety.specs.SafeRole.{IsSafeRole}
use Rattle.store_definitions.specs.Config.{Config, is_element}
use Rattle.audit_laws.specs.Laws.{IsOwnPast, SendOwn}
use Rattle.audit_laws.proofs.Sources.{jobs_own}

pub record Owned (role : Role) : Type 0 where
  pub safe : IsSafeRole role
  pub stores : (past : Past) (event : Event) (insight : Insight) → Every IsNoIdentity (role.stores past event insight (role.answer past event insight))
  pub jobs : (past : Past) (c : Config) (event : Event) (insight : Insight) → IsOwnPast role past c → role.sees past event insight
      → IsOwnEvent (config_before past) event → Every (IsOwn c) (role.jobs past c event insight (role.answer past event insight))

pub node_owned : (layers : Layers) → AreSafe layers → SendOwn layers → Owned (node_role layers)
node_owned layers safe sends = record {
  safe = node_is_safe layers safe;
  stores = λ past event insight. stores_none layers safe past event insight _;
  jobs = λ past c event insight own sees k. jobs_own layers sends past c own event insight _ (sees_here layers past event insight sees) k;
}

-- A Low Power node stores replay entries alone, and sends from its first element.

replays_none : (past : Past) (event : Event) (insight : Insight) (answer : Answer) → Every IsNoIdentity (stores past event insight answer)
unfolding stores
replays_none past (E.Net octets) insight answer = of_name (accepted answer)
  where
    of_name : (o : Option Name) → Every IsNoIdentity (option_map_or (λ name. R.Replay name None ∷ []) o [])
    of_name None = tt
    of_name (Some name) = (tt, tt)
replays_none past _ insight answer = tt

first_own : (c : Config) → 1 ≤ c.elements → is_element c c.unicast.0 ≡ true
first_own c h =
    let same : c.unicast.0 + 0 ≡ c.unicast.0 = omega arith in
    subst (λ a. is_element c a ≡ true) same (place_own c 0 h)

sent_own : (past : Past) (c : Config) (event : Event) (insight : Insight) (answer : Answer) → 1 ≤ c.elements → Every (IsOwn c) (jobs_of past c event insight answer)
unfolding jobs_of
sent_own past c event insight answer h =
    every_flat_any (IsOwn c) (jobs_under c) (λ job. every_made (IsOwn c) (control_job c job) (λ net. first_own c h) (own_nets c))
    (sent_by (state_of past) (event_calls event insight answer))

pub low_power_owned : Owned low_power_role
low_power_owned = record {
  safe = is_safe;
  stores = λ past event insight. replays_none past event insight _;
  jobs = λ past c event insight own sees k.
      let e = own.elements.elements in let s = own.some in sent_own past c event insight _ (omega arith);
}
