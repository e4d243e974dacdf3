-- SRC of the jobs of an event is an element's.
use Rattle.std.proofs.Common.{◌≡◌, ℕ, ◌-◌, ◌/◌, ◌<◌, ◌≤◌, true, not, ◌&&◌, ◌||◌, eqb, ltb, leb, length, List, [], ◌∷◌, map, sym, ◌∙◌, arith, Option, Some, None}
use Rattle.std.specs.List.{AllByRecursion as Every, list_any}
use Rattle.std.specs.Option.{option_map_or}
use Rattle.std.proofs.lemmas.List.Elements.{recursion_from_All}
use Rattle.layer_definitions.specs.KeyRefresh.{own_beacon}
use Rattle.layer_definitions.specs.Lower.{acknowledgment, lower_text}
use Rattle.layer_laws.proofs.Lists.{by_test, every_flat_any, every_pick}
use Rattle.layer_laws.proofs.Node.{IsSameNode, same_element}
use Rattle.layer_laws.proofs.Own.{place_own}
use Rattle.layer_laws.proofs.Parts.{IsHeardHere, every_under}
use Rattle.layer_states.specs.Names.{is_unicast}
use Rattle.mesh_base.specs.declared.address.Address.{Address}
use Rattle.mesh_base.specs.declared.keys.NetKeyRow.{NetKeyRow}
use Rattle.mesh_base.specs.declared.lower.Lower.{Lower}
use Rattle.mesh_types.specs.declared.answers.Answer.{Answer}
use Rattle.mesh_types.specs.declared.answers.Answer.TheVariants as A
use Rattle.mesh_types.specs.declared.events.Event.{Event}
use Rattle.mesh_types.specs.declared.events.Event.TheVariants as E
use Rattle.mesh_types.specs.declared.events.Outgoing.{Outgoing}
use Rattle.mesh_types.specs.declared.events.SendKey.{SendKey}
use Rattle.mesh_types.specs.declared.jobs.Job.{Job}
use Rattle.mesh_types.specs.declared.jobs.Job.TheVariants as J
use Rattle.event_definitions.specs.Answers.{config_before, later}
use Rattle.event_definitions.specs.Fit.{IsOwn, IsOwnEvent}
use Rattle.event_definitions.specs.History.{Insight, OfBeacon, OfNothing, OfPdu, Opening, Past, Reading, now_of}
use Rattle.event_definitions.specs.Jobs.{ack_asked, ack_job, ack_jobs, beacon_jobs, beacons_due, begin_jobs, block_asked, element_address, first_net, first_round_job, is_moved, is_refreshed, jobs_of, message_jobs, pdu_jobs, raw_jobs, refresh_jobs, relay_jobs, reply_ttl, segment_numbers, send_jobs, send_keys, sent_job, tick_jobs, under}
use Rattle.event_definitions.specs.Layers.{Layers}
use Rattle.event_definitions.specs.Role.{node_role}
use Rattle.event_definitions.specs.Stores.{message_of}
use Rattle.event_definitions.proofs.Each.{every_append}
use Rattle.store_definitions.specs.Config.{Config, is_element}
use Rattle.audit_laws.specs.Laws.{IsOwnPast, SendOwn}

-- The jobs of each kind of event.

every_or : {A : Type 0} (P : Job → Type 0) (jobs : A → List Job) (o : Option A) → ((x : A) → Every P (jobs x)) → Every P (option_map_or jobs o [])
every_or P jobs None h = tt
every_or P jobs (Some x) h = h x

beacons_own : (c : Config) → Every (IsOwn c) (beacon_jobs c)
beacons_own c = every_pick (IsOwn c) (eqb c.beacon 1) _ [] (all c.nets) tt
  where
    all : (rows : List NetKeyRow) → Every (IsOwn c) (map (λ r. J.Beacon (own_beacon c.iv r)) rows)
    all [] = tt
    all (r ∷ rs) = (tt, all rs)

relay_own : (c : Config) (r : Reading) → Every (IsOwn c) (relay_jobs c r)
relay_own c r =
    every_pick (IsOwn c) (eqb c.relay 1 && leb 2 r.fields.ttl && not (is_element c r.fields.dst.0)) _ []
    (every_under (IsOwn c) c r.by.index (λ m. J.Relay m (record r.fields { ttl = r.fields.ttl - 1 })) (λ m. tt)) tt

asked_own : (c : Config) (r : Reading) (answer : Answer) (o : Option (ℕ × ℕ)) → is_element c r.fields.dst.0 ≡ true → Every (IsOwn c) (ack_asked c r answer o)
asked_own c r answer None h = tt
asked_own c r answer (Some numbers) h =
    every_or (IsOwn c) (ack_job c r numbers.0) (block_asked answer numbers.1)
    (λ block. every_under (IsOwn c) c r.by.index (λ m. J.Control m (reply_ttl c r.fields.ttl) r.fields.dst r.fields.src (lower_text (acknowledgment numbers.0 block)) None) (λ m. h))

refresh_own : (before c : Config) → Every (IsOwn c) (refresh_jobs before c)
refresh_own before c = every_pick (IsOwn c) (list_any (is_refreshed before.nets) c.nets) _ [] (beacons_own c) tt

begin_own : (c : Config) (m : Outgoing) → is_element c m.name.src.0 ≡ true → Every (IsOwn c) (begin_jobs c m)
begin_own c m h =
    every_flat_any (IsOwn c) (λ seg_o. under c m.net (first_round_job m seg_o)) (λ seg_o. every_under (IsOwn c) c m.net (first_round_job m seg_o) (λ material. h)) _

raw_own : (c : Config) (dst : Address) (ttl : ℕ) (tpdu : List ℕ) → 1 ≤ c.elements → Every (IsOwn c) (raw_jobs c dst ttl tpdu)
raw_own c dst ttl tpdu h =
    every_or (IsOwn c) (λ net. under c net (λ m. J.Control m ttl (element_address c 0) dst tpdu None)) (first_net c)
    (λ net. every_under (IsOwn c) c net (λ m. J.Control m ttl (element_address c 0) dst tpdu None) (λ m. place_own c 0 h))

sent_own : (c : Config) (element : ℕ) (dst : Address) (ttl : ℕ) (key : SendKey) → element < c.elements → Every (IsOwn c) (option_map_or (sent_job c element dst ttl) (send_keys c key) [])
sent_own c element dst ttl key h =
    every_or (IsOwn c) (sent_job c element dst ttl) (send_keys c key)
    (λ keys. every_under (IsOwn c) c keys.0 (λ m. J.Sent keys.0 m keys.1 ttl (element_address c element) dst) (λ m. place_own c element h))

module _ (layers : Layers) (sends : SendOwn layers) (past : Past) (c : Config) (own : IsOwnPast (node_role layers) past c) where
  same : IsSameNode (config_before past) c
  same = record { unicast = own.elements.unicast; elements = own.elements.elements }

  some : 1 ≤ c.elements
  some = let e = own.elements.elements in let h = own.some in omega arith

  still : (a : ℕ) → is_element (config_before past) a ≡ true → is_element c a ≡ true
  still a h = sym (same_element (config_before past) c a same) ∙ h

  acks_own : (r : Reading) (low : Option Lower) (opening : Option Opening) (answer : Answer) → IsHeardHere (config_before past) (OfPdu (Some r) low opening) → Every (IsOwn c) (ack_jobs c r low answer)
  acks_own r None opening answer h = tt
  acks_own r (Some low) opening answer h =
      by_test (Every (IsOwn c)) (is_unicast r.fields.dst) _ [] (λ e. asked_own c r answer (segment_numbers low) (still r.fields.dst.0 (h e))) (λ e. tt)

  messages_own : (r : Reading) (insight : Insight) (answer : Answer) → Every (IsOwn c) (message_jobs layers past c r insight answer)
  messages_own r insight (A.Control name dst opcode params) =
      recursion_from_All (IsOwn c) _ (sends.control_jobs past c (record { reading = r; opcode = opcode; params = params }) own)
  messages_own r insight (A.Delivered name dst key payload) =
      every_or (IsOwn c) (layers.replies past c) (message_of insight name dst) (λ m. recursion_from_All (IsOwn c) _ (sends.replies past c m own))
  messages_own r insight _ = tt

  pdu_own : (insight : Insight) (answer : Answer) → IsHeardHere (config_before past) insight → Every (IsOwn c) (pdu_jobs layers past c insight answer)
  pdu_own (OfPdu (Some r) low opening) answer h =
      every_pick (IsOwn c) _ [] _ tt
      (every_append (IsOwn c) _ _
      (every_append (IsOwn c) _ _ (every_append (IsOwn c) _ _ (relay_own c r) (acks_own r low opening answer h)) (messages_own r (OfPdu (Some r) low opening) answer))
      (refresh_own (config_before past) c))
  pdu_own (OfPdu None low opening) answer h = tt
  pdu_own (OfBeacon b) answer h = tt
  pdu_own OfNothing answer h = tt

  due_own : (ticks : ℕ) → Every (IsOwn c) (beacons_due past c ticks)
  due_own ticks = every_pick (IsOwn c) (ltb (now_of past.told / 1000) (later past ticks / 1000) || is_moved (config_before past).iv c.iv) _ [] (beacons_own c) tt

  tick_own : (ticks : ℕ) → Every (IsOwn c) (tick_jobs layers past c ticks)
  tick_own ticks =
      every_append (IsOwn c) _ _
      (every_append (IsOwn c) _ _
      (every_append (IsOwn c) _ _ (recursion_from_All (IsOwn c) _ (sends.acks_due past c ticks own)) (recursion_from_All (IsOwn c) _ (sends.segments_due past c ticks own)))
      (due_own ticks))
      (recursion_from_All (IsOwn c) _ (sends.published past c ticks own))

  send_own : (element : ℕ) (dst : Address) (ttl : ℕ) (key : SendKey) (payload : List ℕ) → element < (config_before past).elements → Every (IsOwn c) (send_jobs layers past c element dst ttl key payload)
  send_own element dst ttl key payload h =
      every_pick (IsOwn c) (layers.is_befriended past dst && leb (length payload) 11) [] _ tt
      (sent_own c element dst ttl key (let e = own.elements.elements in omega arith))

  pub jobs_own : (event : Event) (insight : Insight) (answer : Answer) → IsHeardHere (config_before past) insight → IsOwnEvent (config_before past) event
      → Every (IsOwn c) (jobs_of layers past c event insight answer)
  unfolding jobs_of
  jobs_own (E.Net octets) insight answer h k = pdu_own insight answer h
  jobs_own (E.Bcn octets) insight answer h k = tt
  jobs_own (E.Send element dst ttl key payload) insight A.Planned h k = send_own element dst ttl key payload k
  jobs_own (E.Send element dst ttl key payload) insight _ h k = tt
  jobs_own (E.Raw dst ttl tpdu) insight A.Planned h k = raw_own c dst ttl tpdu some
  jobs_own (E.Raw dst ttl tpdu) insight _ h k = tt
  jobs_own (E.Tick ticks) insight (A.Ticked now) h k = tick_own ticks
  jobs_own (E.Tick ticks) insight _ h k = tt
  jobs_own (E.Begin m) insight A.Begun h k = begin_own c m (still m.name.src.0 k)
  jobs_own (E.Begin m) insight _ h k = tt
  jobs_own (E.Kept lpn fsn name octets) insight answer h k = tt
  jobs_own (E.LowPower event) insight answer h k = tt
