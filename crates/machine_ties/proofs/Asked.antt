-- The jobs of an event are within their ranges.
use Rattle.std.proofs.Common.{◌≡◌, ℕ, suc, ◌-◌, ◌*◌, ◌<◌, ◌≤◌, ◌^◌, Bool, false, List, [], ◌++◌, length, take, drop, filter, refl, subst, sym, arith, Option, Some, None}
use Rattle.std.specs.Bool.{⊤}
use Rattle.std.specs.Prelude.{All}
use Rattle.std.specs.List.{AllByRecursion as Every, range_with_len}
use Rattle.std.specs.Option.{option_map, option_map_or}
use Rattle.std.proofs.lemmas.List.Elements.{All-from_recursion}
use Rattle.layer_definitions.specs.KeyRefresh.{own_beacon}
use Rattle.layer_definitions.specs.Lower.{lower_text, segment}
use Rattle.layer_definitions.specs.Network.{HasPdu}
use Rattle.layer_states.specs.Reassembly.{acks_due}
use Rattle.layer_states.specs.Sending.{round_of}
use Rattle.layer_states.specs.declared.reassembly.DueAck.{DueAck}
use Rattle.mesh_types.specs.declared.events.Outgoing.{Outgoing}
use Rattle.layer_states.specs.declared.sending.Sending.{Sending}
use Rattle.machine_contract.specs.Ranges.{IsEvent, IsJob, IsQuiet, IsUpperKey}
use Rattle.machine_ties.proofs.Acks.{IsShort, IsShortTold, acks_short, reply_short}
use Rattle.machine_ties.proofs.Acts.{HasAct, act_in, reading_nid}
use Rattle.mesh_base.proofs.Every.{Inside, every_append, every_flat, every_flat_any, every_made, every_pick}
use Rattle.machine_ties.proofs.Published.{published_in}
use Rattle.machine_ties.proofs.Replied.{key_width, replied_in}
use Rattle.machine_ties.proofs.Widths.{HasUpperKey, app_width, every_under, take_few}
use Rattle.mesh_base.specs.declared.address.Address.{Address}
use Rattle.mesh_base.specs.declared.fields.NetMaterial.{NetMaterial}
use Rattle.mesh_base.specs.declared.keys.NetKeyRow.{NetKeyRow}
use Rattle.mesh_base.specs.declared.keys.UpperKey.{UpperKey}
use Rattle.mesh_base.specs.declared.keys.UpperKey.TheVariants as U
use Rattle.mesh_base.specs.declared.lower.Lower.{Lower}
use Rattle.mesh_types.specs.declared.answers.Answer.{Answer}
use Rattle.mesh_types.specs.declared.answers.Answer.TheVariants as A
use Rattle.mesh_types.specs.declared.events.Event.{Event}
use Rattle.mesh_types.specs.declared.events.Event.TheVariants as E
use Rattle.mesh_types.specs.declared.events.SendKey.{SendKey}
use Rattle.mesh_types.specs.declared.events.SendKey.TheVariants as K
use Rattle.mesh_types.specs.declared.jobs.Job.{Job}
use Rattle.mesh_types.specs.declared.jobs.Job.TheVariants as J
use Rattle.node_layers.specs.BuiltLayers.{built_layers}
use Rattle.node_layers.specs.ConfiguredLayers.{configured_layers}
use Rattle.node_layers.specs.NodeLayers.{node_layers, published_at}
use Rattle.mesh_jobs.proofs.Rounds.{rounds_are}
use Rattle.node_layers.proofs.FriendKeys.{HasNid}
use Rattle.node_layers.specs.Reassembly.{acks_at, due_job, due_jobs, messages}
use Rattle.node_layers.specs.Sending.{round_jobs, segments_at}
use Rattle.node_layers.specs.Sending as own
use Rattle.node_snapshot.proofs.Built.{IsPublishRow}
use Rattle.event_definitions.specs.Answers.{config_before, is_before_cache, later}
use Rattle.event_definitions.specs.History.{Insight, OfBeacon, OfNothing, OfPdu, Opening, Past, Reading}
use Rattle.event_definitions.specs.Jobs.{ack_asked, ack_job, ack_jobs, beacon_jobs, beacons_due, begin_jobs, block_asked, element_address, first_net, first_round_job, jobs_of, message_jobs, pdu_jobs, raw_jobs, refresh_jobs, relay_jobs, segment_numbers, send_jobs, send_keys, sent_job, under, segment_job}
use Rattle.run_definitions.specs.Order.{is_outside}
use Rattle.event_definitions.specs.Readings.{IsOpening, Sees, sees_pdu}
use Rattle.segment_sender.specs.Held.{IsHeldWell, IsOutgoing, has_round}
use Rattle.store_definitions.specs.Config.{Config}

-- Of a network PDU.

module _ (event : Event) where
  relay_in : (c : Config) (r : Reading) → HasPdu r.fields → Every (IsJob event) (relay_jobs c r)
  relay_in c r h =
      every_pick (IsJob event) _ _ []
      (every_under (IsJob event) c r.by.index (λ m. J.Relay m (record r.fields { ttl = r.fields.ttl - 1 }))
      (λ m nid. (nid, record { ttl = omega (arith, h.ttl); seq = h.seq; least = h.least; most = h.most })))
      tt

  ack_in : (c : Config) (r : Reading) (seq_zero block : ℕ) → IsShort c.ttl
      → Every (IsJob event) (ack_job c r seq_zero block)
  unfolding lower_text
  ack_in c r seq_zero block h =
      every_under (IsJob event) c r.by.index _ (λ m nid. (nid, reply_short c r.fields.ttl h, omega arith, omega arith))

  asked_in : (c : Config) (r : Reading) (a : Answer) (numbers : Option (ℕ × ℕ)) → IsShort c.ttl
      → Every (IsJob event) (ack_asked c r a numbers)
  asked_in c r a None h = tt
  asked_in c r a (Some numbers) h = pick (block_asked a numbers.1)
    where
      pick : (o : Option ℕ) → Every (IsJob event) (option_map_or (ack_job c r numbers.0) o [])
      pick None = tt
      pick (Some block) = ack_in c r numbers.0 block h

  acks_in : (c : Config) (r : Reading) (low : Option Lower) (a : Answer) → IsShort c.ttl
      → Every (IsJob event) (ack_jobs c r low a)
  acks_in c r None a h = tt
  acks_in c r (Some low) a h = every_pick (IsJob event) _ _ [] (asked_in c r a (segment_numbers low) h) tt

  beacons_in : (c : Config) → Every (IsJob event) (beacon_jobs c)
  beacons_in c = every_pick (IsJob event) _ _ [] (every_made (IsJob event) (λ (r : NetKeyRow). J.Beacon (own_beacon c.iv r)) (λ r. tt) c.nets) tt

  refresh_in : (before c : Config) → Every (IsJob event) (refresh_jobs before c)
  refresh_in before c = every_pick (IsJob event) _ _ [] (beacons_in c) tt

  due_beacons_in : (past : Past) (c : Config) (ticks : ℕ) → Every (IsJob event) (beacons_due past c ticks)
  due_beacons_in past c ticks = every_pick (IsJob event) _ _ [] (beacons_in c) tt

  message_in : (past : Past) (c : Config) (r : Reading) (low : Option Lower) (opening : Option Opening) (a : Answer)
      → IsShort c.ttl → Inside (λ (o : Opening). IsUpperKey o.key) opening → HasNid r.by
      → HasAct past c (OfPdu (Some r) low opening) a
      → Every (IsJob event) (message_jobs node_layers past c r (OfPdu (Some r) low opening) a)
  unfolding node_layers configured_layers built_layers
  message_in past c r low opening (A.Control name dst opcode params) h k nid act =
      subst (Every (IsJob event)) (sym act.jobs) (act_in event c r act.act h nid act.sendable)
  message_in past c r low None (A.Delivered name dst key payload) h k nid act = tt
  message_in past c r low (Some o) (A.Delivered name dst key payload) h k nid act =
      replied_in event past c
      (record { name = name; dst = dst; net = r.by.index; ttl = r.fields.ttl; key = o.key; label = o.label; payload = o.payload }) h k
  message_in past c r low opening _ h k nid act = tt

  opening_width : (past : Past) (r : Reading) (low : Option Lower) (opening : Option Opening)
      → IsOpening node_layers past (Some r) low opening
      → Inside (λ (o : Opening). IsUpperKey o.key) opening
  opening_width past r low None s = tt
  opening_width past r low (Some o) s = key_width past r low o s

  pdu_in : (past : Past) (c : Config) (octets : List ℕ) (i : Insight) (a : Answer)
      → Sees node_layers past (E.Net octets) i → IsShort c.ttl → HasAct past c i a
      → Every (IsJob event) (pdu_jobs node_layers past c i a)
  pdu_in past c octets (OfPdu (Some r) low opening) a (sees_pdu reset reads lower opens) h act =
      let refresh : List Job = refresh_jobs (config_before past) c in
      let messages : List Job = message_jobs node_layers past c r (OfPdu (Some r) low opening) a in
      every_pick (IsJob event) (is_before_cache a) [] (relay_jobs c r ++ ack_jobs c r low a ++ messages ++ refresh) tt
      (every_append (IsJob event) (relay_jobs c r ++ ack_jobs c r low a ++ messages) refresh
      (every_append (IsJob event) (relay_jobs c r ++ ack_jobs c r low a) messages
      (every_append (IsJob event) (relay_jobs c r) (ack_jobs c r low a) (relay_in c r reads.1.reads.has_pdu) (acks_in c r low a h))
      (message_in past c r low opening a h (opening_width past r low opening opens) (reading_nid past octets r reads) act))
      (refresh_in (config_before past) c))
  pdu_in past c octets (OfPdu None low opening) a s h act = tt
  pdu_in past c octets (OfBeacon b) a s h act = tt
  pdu_in past c octets OfNothing a s h act = tt

  -- Of a tick.

  due_in : (c : Config) (d : DueAck) → IsShort d.ack_ttl → Every (IsJob event) (due_jobs c d)
  unfolding lower_text
  due_in c d h = every_under (IsJob event) c d.net (due_job d) (λ m nid. (nid, h, omega arith, omega arith))

  -- A round of an own segmented message.

  segment_length : (akf : Bool) (id seq : ℕ) (upper : List ℕ) (seg_o : ℕ)
      → length (lower_text (segment akf id seq upper seg_o)) ≡ suc (suc (suc (suc (length (take 12 (drop (12 * seg_o) upper))))))
  unfolding lower_text
  segment_length akf id seq upper seg_o = refl

  piece_in : (m : Outgoing) (seg_o : ℕ) (material : NetMaterial) → IsOutgoing m → material.nid < 2 ^ 7
      → IsJob event (segment_job false m seg_o material)
  piece_in m seg_o material h nid =
      let octets = segment_length m.akf m.aid m.name.pair.seq m.upper seg_o in
      (nid, h.ttl, h.seq, omega (arith, octets), omega (arith, octets, take_few 12 (drop (12 * seg_o) m.upper)))

  round_in : (c : Config) (now : ℕ) (s : Sending) → IsHeldWell s → Every (IsJob event) (round_jobs c now s)
  round_in c now s h =
      every_pick (IsJob event) (has_round now s) _ []
      (every_flat_any (IsJob event) (λ seg_o. under c s.message.net (segment_job false s.message seg_o))
      (λ seg_o. every_under (IsJob event) c s.message.net (segment_job false s.message seg_o) (λ m nid. piece_in s.message seg_o m h.message nid)) (round_of s))
      tt

  rounds_in : (past : Past) (c : Config) (ticks : ℕ)
      → Every IsHeldWell (filter (has_round (later past ticks)) (own.messages past))
      → Every (IsJob event) (segments_at past c ticks)
  rounds_in past c ticks h =
      let now : ℕ = later past ticks in
      subst (Every (IsJob event)) (rounds_are c now (own.messages past))
      (every_flat IsHeldWell (IsJob event) (round_jobs c now) (round_in c now) (filter (has_round now) (own.messages past)) h)

  tick_in : (past : Past) (c : Config) (ticks : ℕ) (i : Insight) (now : ℕ) → IsShort c.ttl
      → Every IsPublishRow c.publications → Every IsShortTold past.told
      → Every IsHeldWell (filter (has_round (later past ticks)) (own.messages past))
      → Every (IsJob event) (jobs_of node_layers past c (E.Tick ticks) i (A.Ticked now))
  unfolding node_layers configured_layers built_layers jobs_of
  tick_in past c ticks i now short rows h rounds =
      every_append (IsJob event) (acks_at past c ticks ++ segments_at past c ticks ++ beacons_due past c ticks) (published_at past c ticks)
      (every_append (IsJob event) (acks_at past c ticks ++ segments_at past c ticks) (beacons_due past c ticks)
      (every_append (IsJob event) (acks_at past c ticks) (segments_at past c ticks)
      (every_flat (λ (d : DueAck). IsShort d.ack_ttl) (IsJob event) (due_jobs c) (due_in c) (acks_due (later past ticks) (messages past)) (acks_short past (later past ticks) h))
      (rounds_in past c ticks rounds))
      (due_beacons_in past c ticks))
      (published_in event past c ticks short rows)

  raw_in : (c : Config) (dst : Address) (ttl : ℕ) (tpdu : List ℕ) → ttl < 2 ^ 7 → 1 ≤ length tpdu → length tpdu ≤ 12
      → Every (IsJob event) (raw_jobs c dst ttl tpdu)
  raw_in c dst ttl tpdu short least most = pick (first_net c)
    where
      pick : (o : Option ℕ)
          → Every (IsJob event) (option_map_or (λ net. under c net (λ m. J.Control m ttl (element_address c 0) dst tpdu None)) o [])
      pick None = tt
      pick (Some net) = every_under (IsJob event) c net _ (λ m nid. (nid, short, least, most))

  -- Of a segmented message that begins.

  begin_in : (c : Config) (m : Outgoing) → m.name.pair.seq < 2 ^ 24 → m.ttl < 2 ^ 7 → Every (IsJob event) (begin_jobs c m)
  begin_in c m seq short =
      every_flat_any (IsJob event) _
      (λ seg_o. every_under (IsJob event) c m.net (first_round_job m seg_o)
      (λ material nid. (
        nid,
        short,
        seq,
        omega (arith, segment_length m.akf m.aid m.name.pair.seq m.upper seg_o),
        omega (arith, segment_length m.akf m.aid m.name.pair.seq m.upper seg_o, take_few 12 (drop (12 * seg_o) m.upper)),
      )))
      (range_with_len 0 _)

-- Of a message that the node is asked to send.

keys_width : (c : Config) (key : SendKey) → Inside HasUpperKey (send_keys c key)
keys_width c K.Own = pick (first_net c)
  where
    pick : (o : Option ℕ) → Inside HasUpperKey (option_map (λ net. (net, U.Device c.dev_key)) o)
    pick None = tt
    pick (Some net) = tt
keys_width c (K.Other key) = pick (first_net c)
  where
    pick : (o : Option ℕ) → Inside HasUpperKey (option_map (λ net. (net, U.Device key)) o)
    pick None = tt
    pick (Some net) = tt
keys_width c (K.App index) = app_width c index

send_in : (past : Past) (c : Config) (element : ℕ) (dst : Address) (ttl : ℕ) (key : SendKey) (payload : List ℕ)
    → ttl < 2 ^ 7 → 1 ≤ length payload → length payload ≤ 380
    → Every (IsJob (E.Send element dst ttl key payload)) (send_jobs node_layers past c element dst ttl key payload)
send_in past c element dst ttl key payload short least most =
    every_pick (IsJob (E.Send element dst ttl key payload)) _ [] _ tt (pick (send_keys c key) (keys_width c key))
  where
    pick : (o : Option (ℕ × UpperKey)) → Inside HasUpperKey o
        → Every (IsJob (E.Send element dst ttl key payload)) (option_map_or (sent_job c element dst ttl) o [])
    pick None h = tt
    pick (Some keys) h = every_under (IsJob (E.Send element dst ttl key payload)) c keys.0 _ (λ m nid. (nid, short, h, least, most))

-- where time was told, what sends a round is well formed
abbrev pub HasRounds : Past → Event → Answer → Type 0
HasRounds past (E.Tick ticks) (A.Ticked now) = Every IsHeldWell (filter (has_round (later past ticks)) (own.messages past))
HasRounds past event answer = ⊤

-- what a network PDU asks for is what its control message led to
abbrev pub HasActs : Past → Config → Event → Insight → Answer → Type 0
HasActs past c (E.Net octets) i a = HasAct past c i a
HasActs past c _ i a = ⊤

every_job : (past : Past) (c : Config) (event : Event) (i : Insight) (a : Answer) (elements : ℕ)
    → Sees node_layers past event i → IsEvent elements event → IsShort c.ttl
    → Every IsPublishRow c.publications → Every IsShortTold past.told → HasRounds past event a → HasActs past c event i a
    → Every (IsJob event) (jobs_of node_layers past c event i a)
unfolding jobs_of
every_job past c (E.Net octets) i a elements s e h rows k r act = pdu_in (E.Net octets) past c octets i a s h act
every_job past c (E.Bcn octets) i a elements s e h rows k r act = tt
every_job past c (E.Send element dst ttl key payload) i A.Planned elements s e h rows k r act = send_in past c element dst ttl key payload e.3 e.5 e.6
every_job past c (E.Send element dst ttl key payload) i _ elements s e h rows k r act = tt
every_job past c (E.Raw dst ttl tpdu) i A.Planned elements s e h rows k r act = raw_in (E.Raw dst ttl tpdu) c dst ttl tpdu e.1 e.2 e.3
every_job past c (E.Raw dst ttl tpdu) i _ elements s e h rows k r act = tt
every_job past c (E.Tick ticks) i (A.Ticked now) elements s e h rows k r act = tick_in (E.Tick ticks) past c ticks i now h rows k r
every_job past c (E.Tick ticks) i _ elements s e h rows k r act = tt
every_job past c (E.Begin m) i A.Begun elements s e h rows k r act = begin_in (E.Begin m) c m e.0 e.1
every_job past c (E.Begin m) i _ elements s e h rows k r act = tt
every_job past c (E.Kept lpn fsn name pdu) i a elements s e h rows k r act = tt
every_job past c (E.LowPower event) i a elements s e h rows k r act = tt

pub jobs_ranged : (past : Past) (c : Config) (event : Event) (i : Insight) (a : Answer) (elements : ℕ)
    → Sees node_layers past event i → IsEvent elements event → IsShort c.ttl
    → Every IsPublishRow c.publications → Every IsShortTold past.told → HasRounds past event a → HasActs past c event i a
    → All (IsJob event) (jobs_of node_layers past c event i a)
jobs_ranged past c event i a elements s e h rows k r act =
    All-from_recursion (IsJob event) _ (every_job past c event i a elements s e h rows k r act)

-- After the lines of a segmented message nothing is handled.

begun_quiet : (c : Config) (m : Outgoing) → Every IsQuiet (begin_jobs c m)
begun_quiet c m =
    every_flat_any IsQuiet _ (λ seg_o. every_under IsQuiet c m.net (first_round_job m seg_o) (λ material nid outcome. refl)) (range_with_len 0 _)

every_quiet : (past : Past) (c : Config) (event : Event) (i : Insight) (a : Answer) → is_outside event ≡ false
    → Every IsQuiet (jobs_of node_layers past c event i a)
unfolding jobs_of
every_quiet past c (E.Begin m) i A.Begun e = begun_quiet c m
every_quiet past c (E.Begin m) i _ e = tt
every_quiet past c (E.Kept lpn fsn name pdu) i a e = tt
every_quiet past c (E.LowPower event) i a e = absurd cc
every_quiet past c (E.Net octets) i a e = absurd cc
every_quiet past c (E.Bcn octets) i a e = absurd cc
every_quiet past c (E.Send element dst ttl key payload) i a e = absurd cc
every_quiet past c (E.Raw dst ttl tpdu) i a e = absurd cc
every_quiet past c (E.Tick ticks) i a e = absurd cc

pub jobs_quiet : (past : Past) (c : Config) (event : Event) (i : Insight) (a : Answer) → is_outside event ≡ false
    → All IsQuiet (jobs_of node_layers past c event i a)
jobs_quiet past c event i a e = All-from_recursion IsQuiet _ (every_quiet past c event i a e)
