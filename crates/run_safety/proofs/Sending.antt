-- The jobs of an entry: a PDU that goes on is none of this node's, and a first segment is the first job of a `begin`
-- entry alone.
use Rattle.std.proofs.Common.{add-one, ne_eqb, zero, suc, ◌≡◌, ℕ, ◌-◌, ◌/◌, Bool, true, false, cond, not, ◌&&◌, ◌||◌, eqb, ltb, leb, List, [], ◌∷◌, ◌++◌, map, refl, ap, sym, subst, ◌∙◌, arith, Option, Some, None, length}
use Rattle.std.specs.List.{All, AllByRecursion, flat_map, list_any, range_with_len}
use Rattle.std.specs.Option.{option_map, option_map_or, option_to_list, unwrap_or}
use Rattle.std.proofs.lemmas.List.Elements.{recursion_from_All, All-from_recursion, All-contains}
use Rattle.mesh_base.specs.declared.address.Address.{Address}
use Rattle.mesh_base.specs.declared.fields.NetFields.{NetFields}
use Rattle.mesh_base.specs.declared.fields.NetMaterial.{NetMaterial}
use Rattle.layer_definitions.specs.KeyRefresh.{own_beacon, transmit_material}
use Rattle.layer_definitions.specs.Lower.{acknowledgment, last_segment, lower_text}
use Rattle.mesh_base.specs.declared.keys.NetKeyRow.{NetKeyRow}
use Rattle.mesh_base.specs.declared.keys.UpperKey.{UpperKey}
use Rattle.mesh_base.specs.declared.lower.Lower.{Lower}
use Rattle.mesh_base.specs.declared.pair.Pair.{Pair}
use Rattle.mesh_types.specs.declared.answers.Answer.{Answer}
use Rattle.mesh_types.specs.declared.answers.Answer.TheVariants as A
use Rattle.mesh_types.specs.declared.events.Event.{Event}
use Rattle.mesh_types.specs.declared.events.Event.TheVariants as E
use Rattle.mesh_types.specs.declared.events.Outgoing.{Outgoing}
use Rattle.mesh_types.specs.declared.events.SendKey.{SendKey}
use Rattle.mesh_types.specs.declared.jobs.Job.{Job}
use Rattle.mesh_types.specs.declared.jobs.Job.TheVariants as J
use Rattle.mesh_types.specs.declared.jobs.Segment.{Segment}
use Rattle.layer_states.specs.Names.{is_unicast}
use Rattle.event_definitions.specs.Answers.{answer_of, config_before, is_before_cache, later, network_answer, pdu_answer, transport_answer, unless_reset}
use Rattle.store_definitions.specs.Config.{Config, is_element}
use Rattle.event_definitions.specs.History.{Insight, OfBeacon, OfNothing, OfPdu, Opening, Past, Reading, now_of}
use Rattle.event_definitions.specs.Jobs.{ack_asked, ack_job, ack_jobs, beacon_jobs, beacons_due, begin_jobs, block_asked, element_address, first_net, first_round_job, is_moved, is_refreshed, reply_ttl, jobs_of, message_jobs, pdu_jobs, raw_jobs, refresh_jobs, relay_jobs, segment_numbers, send_jobs, send_keys, sent_job, tick_jobs, under}
use Rattle.event_definitions.specs.Layers.{Layers}
use Rattle.event_definitions.specs.Readings.{IsReading, Sees, sees_pdu, sees_beacon, sees_nothing}
use Rattle.run_safety.specs.SafeRole.{BeginFits, Fine, first_of, Foreign, HeardFits, JobsFit}
use Rattle.event_definitions.specs.Safe.{AreSafe, IsFitJob}
use Rattle.event_definitions.specs.Stores.{message_of}
use Rattle.event_definitions.proofs.Accepting.{some_is}
use Rattle.event_definitions.proofs.Each.{every_map}
use Rattle.run_safety.proofs.Rising.{Later}

-- What was heard.

element_refused : (past : Past) (r : Reading) (x : Answer) → is_element (config_before past) r.fields.src.0 ≡ true
    → is_before_cache (unwrap_or (network_answer past r) x) ≡ true
element_refused past r x e = refused (not (is_unicast r.fields.src) || eqb r.fields.dst.0 0) _ _ x e
  where
    refused : (bad own : Bool) (o : Option Answer) (x : Answer) → own ≡ true
        → is_before_cache (unwrap_or (cond bad (Some A.BadAddress) (cond own (Some A.Own) o)) x) ≡ true
    refused true own o x e = refl
    refused false true o x e = refl
    refused false false o x e = absurd cc

reset_before_cache : (b : Bool) (a : Answer) → is_before_cache (cond b A.Reset a) ≡ false → is_before_cache a ≡ false
reset_before_cache true a e = absurd cc
reset_before_cache false a e = e

is_false : (b : Bool) → (b ≡ true → ⊥) → b ≡ false
is_false true h = absurd (h refl)
is_false false h = refl

passed_foreign : (layers : Layers) (past : Past) (octets : List ℕ) (r : Reading) (low : Option Lower) (opening : Option Opening)
    → IsReading layers past octets (Some r) → is_before_cache (pdu_answer layers past (OfPdu (Some r) low opening)) ≡ false
    → Foreign (config_before past) r.fields.src
passed_foreign layers past octets r low opening h e = (
  is_false _ (λ own. let f : is_before_cache (pdu_answer layers past (OfPdu (Some r) low opening)) ≡ true = element_refused past r (transport_answer layers past r low opening) own in cc),
  h.1.reads.in_widths.src,
)

pub foreign_in : (own c : Config) (src : Address) → Later own c → Foreign c src → Foreign own src
foreign_in own c src h k = (rw (← h.unicast, ← h.elements) k.0, k.1)

-- one that is handled, after its answer
pdu_heard : (layers : Layers) (own : Config) (past : Past) (octets : List ℕ) (reading : Option Reading) (low : Option Lower) (opening : Option Opening) (answer : Answer)
    → Later own (config_before past) → IsReading layers past octets reading → answer ≡ unless_reset past (pdu_answer layers past (OfPdu reading low opening))
    → (r : Reading) → reading ≡ Some r → is_before_cache answer ≡ false → Foreign own r.fields.src
pdu_heard layers own past octets None low opening answer k h e r is passed = absurd cc
pdu_heard layers own past octets (Some q) low opening answer k h e r is passed =
    let here : is_before_cache (pdu_answer layers past (OfPdu (Some q) low opening)) ≡ false = reset_before_cache _ _ (ap is_before_cache (sym e) ∙ passed) in
    let foreign : Foreign own q.fields.src = foreign_in own (config_before past) q.fields.src k (passed_foreign layers past octets q low opening h here) in
    let same : q ≡ r = some_is is in
    subst (λ (x : Reading). Foreign own x.fields.src) same foreign

reading_of : Insight → Option Reading
reading_of (OfPdu reading low opening) = reading
reading_of _ = None

pub heard_of : (layers : Layers) (own : Config) (past : Past) (event : Event) (insight : Insight) (answer : Answer)
    → Later own (config_before past) → Sees layers past event insight → answer ≡ answer_of layers past event insight
    → (r : Reading) (low : Option Lower) (opening : Option Opening) → insight ≡ OfPdu (Some r) low opening → is_before_cache answer ≡ false → Foreign own r.fields.src
unfolding answer_of reading_of
heard_of layers own past _ _ answer k (sees_pdu {octets = octets} {reading = reading} {low = l} {opening = o} reset h m n) e r low opening is passed =
    pdu_heard layers own past octets reading l o answer k h e r (ap reading_of is) passed
heard_of layers own past _ _ answer k (sees_beacon reset h) e r low opening is passed = absurd cc
heard_of layers own past _ _ answer k (sees_nothing h) e r low opening is passed = absurd cc

-- The jobs of each kind of event.

data AllFine (own : Config) : List Job → Type 0 where
  no_job : AllFine own []
  a_job : {job : Job} {jobs : List Job} → Fine own job → AllFine own jobs → AllFine own (job ∷ jobs)

every_fine : (own : Config) (jobs : List Job) → AllFine own jobs → AllByRecursion (Fine own) jobs
every_fine own _ no_job = tt
every_fine own _ (a_job {jobs = jobs} h k) = (h, every_fine own jobs k)

fine_all : (own : Config) (jobs : List Job) → AllByRecursion (Fine own) jobs → AllFine own jobs
fine_all own [] h = no_job
fine_all own (job ∷ jobs) h = a_job h.0 (fine_all own jobs h.1)

fine_append : (own : Config) (xs ys : List Job) → AllFine own xs → AllFine own ys → AllFine own (xs ++ ys)
fine_append own _ ys no_job k = k
fine_append own _ ys (a_job {jobs = xs} h hs) k = a_job h (fine_append own xs ys hs k)

fine_made : (own : Config) (o : Option NetMaterial) (job : NetMaterial → Job) → ((m : NetMaterial) → Fine own (job m)) → AllFine own (option_to_list (option_map job o))
fine_made own None job h = no_job
fine_made own (Some m) job h = a_job (h m) no_job

fine_under : (own c : Config) (net : ℕ) (job : NetMaterial → Job) → ((m : NetMaterial) → Fine own (job m)) → AllFine own (under c net job)
fine_under own c net job h = fine_made own (transmit_material c.nets net) job h

fine_pick : (own : Config) (b : Bool) (xs ys : List Job) → AllFine own xs → AllFine own ys → AllFine own (cond b xs ys)
fine_pick own true xs ys h k = h
fine_pick own false xs ys h k = k

fine_option : {A : Type 0} (own : Config) (jobs : A → List Job) (o : Option A) → ((x : A) → AllFine own (jobs x)) → AllFine own (option_map_or jobs o [])
fine_option own jobs None h = no_job
fine_option own jobs (Some x) h = h x

fine_map : (own c : Config) (nets : List NetKeyRow) → AllFine own (map (λ r. J.Beacon (own_beacon c.iv r)) nets)
fine_map own c [] = no_job
fine_map own c (r ∷ rs) = a_job tt (fine_map own c rs)

fine_beacons : (own c : Config) → AllFine own (beacon_jobs c)
fine_beacons own c = fine_pick own (eqb c.beacon 1) _ _ (fine_map own c c.nets) no_job

-- what a layer gives
fit_fine : (own : Config) (past : Past) (job : Job) → AllByRecursion (HeardFits own) past.told → IsFitJob past job → Fine own job
fit_fine own past (J.Relay material f) h k =
    let heard : HeardFits own k.told = All-contains (HeardFits own) past.told k.told (All-from_recursion (HeardFits own) past.told h) k.is_told in
    rw (ap (λ (g : NetFields). g.src) k.fields) (heard k.reading k.low k.opening k.read k.passed)
fit_fine own past (J.Segment s) h k = k
fit_fine own past (J.Control material ttl src dst tpdu keep) h k = tt
fit_fine own past (J.Message net material key ttl src dst payload keep) h k = tt
fit_fine own past (J.Sent net material key ttl src dst) h k = tt
fit_fine own past (J.Repeat name octets) h k = tt
fit_fine own past (J.Beacon octets) h k = tt

fit_all : (own : Config) (past : Past) (jobs : List Job) → AllByRecursion (HeardFits own) past.told → All (IsFitJob past) jobs → AllFine own jobs
fit_all own past jobs h k =
    fine_all own jobs (every_map (IsFitJob past) (Fine own) (λ job. fit_fine own past job h) jobs (recursion_from_All (IsFitJob past) jobs k))

fine_relay : (own c : Config) (r : Reading) → Foreign own r.fields.src → AllFine own (relay_jobs c r)
fine_relay own c r h =
    fine_pick own (eqb c.relay 1 && leb 2 r.fields.ttl && not (is_element c r.fields.dst.0)) _ _
    (fine_under own c r.by.index (λ m. J.Relay m (record r.fields { ttl = r.fields.ttl - 1 })) (λ m. h)) no_job

fine_ack : (own c : Config) (r : Reading) (numbers : ℕ × ℕ) (block : ℕ) → AllFine own (ack_job c r numbers.0 block)
fine_ack own c r numbers block =
    fine_under own c r.by.index (λ m. J.Control m (reply_ttl c r.fields.ttl) r.fields.dst r.fields.src (lower_text (acknowledgment numbers.0 block)) None) (λ m. tt)

fine_asked : (own c : Config) (r : Reading) (answer : Answer) (o : Option (ℕ × ℕ)) → AllFine own (ack_asked c r answer o)
fine_asked own c r answer None = no_job
fine_asked own c r answer (Some numbers) = fine_option own (ack_job c r numbers.0) (block_asked answer numbers.1) (fine_ack own c r numbers)

fine_acks : (own c : Config) (r : Reading) (low : Option Lower) (answer : Answer) → AllFine own (ack_jobs c r low answer)
fine_acks own c r None answer = no_job
fine_acks own c r (Some low) answer = fine_pick own (is_unicast r.fields.dst) _ _ (fine_asked own c r answer (segment_numbers low)) no_job

fine_messages : (layers : Layers) → AreSafe layers → (own c : Config) (past : Past) (r : Reading) (insight : Insight) (answer : Answer)
    → AllByRecursion (HeardFits own) past.told → AllFine own (message_jobs layers past c r insight answer)
fine_messages layers safe own c past r insight (A.Control name dst opcode params) h =
    fit_all own past _ h (safe.control_jobs past c (record { reading = r; opcode = opcode; params = params }))
fine_messages layers safe own c past r insight (A.Delivered name dst key payload) h =
    fine_option own (layers.replies past c) (message_of insight name dst) (λ m. fit_all own past _ h (safe.replies past c m))
fine_messages layers safe own c past r insight _ h = no_job

fine_refresh : (own before c : Config) → AllFine own (refresh_jobs before c)
fine_refresh own before c = fine_pick own (list_any (is_refreshed before.nets) c.nets) _ _ (fine_beacons own c) no_job

fine_unless : (own : Config) (b : Bool) (jobs : List Job) → (b ≡ false → AllFine own jobs) → AllFine own (cond b [] jobs)
fine_unless own true jobs f = no_job
fine_unless own false jobs f = f refl

fine_read : (layers : Layers) → AreSafe layers → (own c : Config) (past : Past) (r : Reading) (low : Option Lower) (opening : Option Opening) (answer : Answer)
    → AllByRecursion (HeardFits own) past.told → (is_before_cache answer ≡ false → Foreign own r.fields.src)
    → AllFine own (pdu_jobs layers past c (OfPdu (Some r) low opening) answer)
fine_read layers safe own c past r low opening answer h k =
    fine_unless own (is_before_cache answer) _ (λ passed.
    fine_append own _ _
    (fine_append own _ _ (fine_append own _ _ (fine_relay own c r (k passed)) (fine_acks own c r low answer)) (fine_messages layers safe own c past r (OfPdu (Some r) low opening) answer h))
    (fine_refresh own (config_before past) c))

-- a PDU heard
fine_pdu : (layers : Layers) → AreSafe layers → (own c : Config) (past : Past) (insight : Insight) (answer : Answer)
    → AllByRecursion (HeardFits own) past.told
    → ((r : Reading) (low : Option Lower) (opening : Option Opening) → insight ≡ OfPdu (Some r) low opening → is_before_cache answer ≡ false → Foreign own r.fields.src)
    → AllFine own (pdu_jobs layers past c insight answer)
fine_pdu layers safe own c past (OfPdu (Some r) low opening) answer h k = fine_read layers safe own c past r low opening answer h (k r low opening refl)
fine_pdu layers safe own c past (OfPdu None low opening) answer h k = no_job
fine_pdu layers safe own c past (OfBeacon b) answer h k = no_job
fine_pdu layers safe own c past OfNothing answer h k = no_job

-- a tick
fine_due : (own c : Config) (past : Past) (ticks : ℕ) → AllFine own (beacons_due past c ticks)
fine_due own c past ticks =
    fine_pick own (ltb (now_of past.told / 1000) (later past ticks / 1000) || is_moved (config_before past).iv c.iv) _ _ (fine_beacons own c) no_job

fine_tick : (layers : Layers) → AreSafe layers → (own c : Config) (past : Past) (ticks : ℕ) → AllByRecursion (HeardFits own) past.told → AllFine own (tick_jobs layers past c ticks)
fine_tick layers safe own c past ticks h =
    fine_append own _ _
    (fine_append own _ _
    (fine_append own _ _ (fit_all own past _ h (safe.acks_due past c ticks)) (fit_all own past _ h (safe.segments_due past c ticks)))
    (fine_due own c past ticks))
    (fit_all own past _ h (safe.published past c ticks))

-- the node's own messages
fine_sent : (own c : Config) (element : ℕ) (dst : Address) (ttl : ℕ) (keys : ℕ × UpperKey) → AllFine own (sent_job c element dst ttl keys)
fine_sent own c element dst ttl keys = fine_under own c keys.0 (λ m. J.Sent keys.0 m keys.1 ttl (element_address c element) dst) (λ m. tt)

fine_send : (layers : Layers) (own c : Config) (past : Past) (element : ℕ) (dst : Address) (ttl : ℕ) (key : SendKey) (payload : List ℕ) → AllFine own (send_jobs layers past c element dst ttl key payload)
fine_send layers own c past element dst ttl key payload =
    fine_pick own (layers.is_befriended past dst && leb (length payload) 11) _ _ no_job (fine_option own (sent_job c element dst ttl) (send_keys c key) (fine_sent own c element dst ttl))

fine_raw : (own c : Config) (dst : Address) (ttl : ℕ) (tpdu : List ℕ) → AllFine own (raw_jobs c dst ttl tpdu)
fine_raw own c dst ttl tpdu =
    fine_option own (λ net. under c net (λ m. J.Control m ttl (element_address c 0) dst tpdu None)) (first_net c)
    (λ net. fine_under own c net (λ m. J.Control m ttl (element_address c 0) dst tpdu None) (λ m. tt))

-- The segments of a message that begins.

abbrev round_jobs : Config → Outgoing → ℕ → List Job
round_jobs c m seg_o = under c m.net (first_round_job m seg_o)

not_zero : (k : ℕ) → eqb (suc k) 0 ≡ false
not_zero k = ne_eqb (suc k) 0 (λ e. absurd (omega (arith, e)))

later_segments : (own c : Config) (m : Outgoing) (k n : ℕ) → AllFine own (flat_map (round_jobs c m) (range_with_len (suc k) n))
later_segments own c m k zero = no_job
later_segments own c m k (suc n) =
    rw add-one (fine_append own _ _ (fine_under own c m.net (first_round_job m (suc k)) (λ material. not_zero k)) (later_segments own c m (suc k) n))

begin_made : (own : Config) (m : Outgoing) (o : Option NetMaterial) (rest : List Job)
    → AllFine own rest → (o ≡ None → rest ≡ []) → BeginFits own m.name.pair (option_to_list (option_map (first_round_job m 0) o) ++ rest)
begin_made own m None rest h k = subst (BeginFits own m.name.pair) (sym (k refl)) tt
begin_made own m (Some material) rest h k = (first_of refl refl, every_fine own rest h)

none_under : (c : Config) (net : ℕ) (job : ℕ → NetMaterial → Job) (ks : List ℕ) → transmit_material c.nets net ≡ None → flat_map (λ k. under c net (job k)) ks ≡ []
none_under c net job [] e = refl
none_under c net job (k ∷ ks) e = rw e (none_under c net job ks e)

begin_fits : (own c : Config) (m : Outgoing) → BeginFits own m.name.pair (begin_jobs c m)
begin_fits own c m =
    rw add-one
    (begin_made own m (transmit_material c.nets m.net) _ (later_segments own c m 0 (last_segment m.upper))
    (none_under c m.net (first_round_job m) (range_with_len 1 (last_segment m.upper))))

-- The jobs of each entry.

pub jobs_fit : (layers : Layers) → AreSafe layers → (own c : Config) (past : Past) (event : Event) (insight : Insight) (answer : Answer)
    → AllByRecursion (HeardFits own) past.told
    → ((r : Reading) (low : Option Lower) (opening : Option Opening) → insight ≡ OfPdu (Some r) low opening → is_before_cache answer ≡ false → Foreign own r.fields.src)
    → JobsFit own event (jobs_of layers past c event insight answer)
unfolding jobs_of
jobs_fit layers safe own c past (E.Net octets) insight answer h k = every_fine own _ (fine_pdu layers safe own c past insight answer h k)
jobs_fit layers safe own c past (E.Bcn octets) insight answer h k = tt
jobs_fit layers safe own c past (E.Send element dst ttl key payload) insight A.Planned h k = every_fine own _ (fine_send layers own c past element dst ttl key payload)
jobs_fit layers safe own c past (E.Send element dst ttl key payload) insight _ h k = tt
jobs_fit layers safe own c past (E.Raw dst ttl tpdu) insight A.Planned h k = every_fine own _ (fine_raw own c dst ttl tpdu)
jobs_fit layers safe own c past (E.Raw dst ttl tpdu) insight _ h k = tt
jobs_fit layers safe own c past (E.Tick ticks) insight (A.Ticked now) h k = every_fine own _ (fine_tick layers safe own c past ticks h)
jobs_fit layers safe own c past (E.Tick ticks) insight _ h k = tt
jobs_fit layers safe own c past (E.Begin m) insight A.Begun h k = begin_fits own c m
jobs_fit layers safe own c past (E.Begin m) insight _ h k = tt
jobs_fit layers safe own c past (E.Kept lpn fsn name octets) insight answer h k = tt
jobs_fit layers safe own c past (E.LowPower event) insight answer h k = tt
