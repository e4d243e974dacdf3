-- The Low Power node is a safe kind of node.
use Rattle.std.proofs.Common.{◌≡◌, ℕ, Bool, true, false, cond, not, ◌||◌, eqb, List, [], ◌∷◌, refl, ap, subst, Option, Some, None}
use Rattle.std.specs.List.{AllByRecursion, flat_map}
use Rattle.std.specs.Option.{is_some, option_map_or, option_or, unwrap_or}
use Rattle.layer_states.specs.Names.{is_unicast}
use Rattle.low_power_definitions.specs.State.{heard_as, name_of}
use Rattle.low_power_definitions.specs.declared.lpn.LpnHeard.{LpnHeard}
use Rattle.low_power_definitions.specs.declared.lpn.LpnHeard.TheVariants.{Unasked, Repeat, Pass}
use Rattle.low_power_definitions.specs.declared.lpn.LpnJob.{LpnJob}
use Rattle.mesh_base.proofs.Every.{every_flat_any, every_made}
use Rattle.mesh_base.specs.declared.lower.Lower.{Lower}
use Rattle.mesh_base.specs.declared.pair.Name.{Name}
use Rattle.mesh_base.specs.declared.pair.Pair.{Pair}
use Rattle.mesh_types.specs.declared.answers.Answer.{Answer}
use Rattle.mesh_types.specs.declared.answers.Answer.TheVariants as A
use Rattle.mesh_types.specs.declared.events.Event.{Event}
use Rattle.mesh_types.specs.declared.events.Event.TheVariants as E
use Rattle.record_types.specs.declared.records.StoreRecord.{StoreRecord}
use Rattle.record_types.specs.declared.records.StoreRecord.TheVariants as R
use Rattle.event_definitions.proofs.Accepting.{Refuses, no_answer, not_expired, past_refusal, refused, refuses_pick, replay_refuses, some_is, whole_accepts}
use Rattle.event_definitions.proofs.Events.{Silent, nothing_accepted, silent}
use Rattle.event_definitions.specs.Answers.{accepted, config_before, is_before_cache, pair_of, replayed, whole_answer}
use Rattle.event_definitions.specs.History.{Insight, OfNothing, OfPdu, Opening, Past, Reading}
use Rattle.event_definitions.specs.Layers.{quiet_layers}
use Rattle.low_power_role.specs.Answers.{answer_of, friendship_answer, is_mine, is_segmented, network_answer, pdu_answer, transport_answer}
use Rattle.low_power_role.specs.Readings.{IsReading, Sees, own_nets, sees_nothing, sees_pdu}
use Rattle.low_power_role.specs.Role.{control_job, jobs_of, jobs_under, low_power_role, sent_by, stores}
use Rattle.low_power_role.specs.State.{event_calls, state_of}
use Rattle.run_safety.specs.SafeRole.{Fine, Foreign, Fresh, IsHeardFrom, IsSafeRole, JobsFit, RiseAll}
use Rattle.store_definitions.specs.Config.{Config, is_element}
use Rattle.store_definitions.specs.Entries.{entry_of}

-- An accepted message has the name of its PDU, and is no replay.

pub network_refuses : (past : Past) (r : Reading) → Refuses (network_answer past r)
network_refuses past r =
    refuses_pick (not (is_unicast r.fields.src) || eqb r.fields.dst.0 0) _ _ (refused refl)
    (refuses_pick (is_element (config_before past) r.fields.src.0) _ _ (refused refl)
    (refuses_pick (not (is_mine (config_before past) (state_of past) r.fields.dst)) _ _ (refused refl)
    (refuses_pick (is_segmented r.fields.tpdu) _ _ (refused refl) no_answer)))

pub early_passes : (h : LpnHeard) (kept : Option Pair) (p : Pair) (a : Answer) (n : Name)
    → accepted (unwrap_or (option_or (friendship_answer h) (replayed kept p)) a) ≡ Some n → (replayed kept p ≡ None) × (accepted a ≡ Some n)
early_passes Unasked kept p a n e = absurd cc
early_passes Repeat kept p a n e = absurd cc
early_passes Pass kept p a n e = past_refusal (replayed kept p) a n (replay_refuses kept p) e

record Accepts (past : Past) (r : Reading) (n : Name) : Type 0 where
  named : name_of r.fields ≡ n
  newer : replayed (entry_of past.records r.fields.src.0) (pair_of r.fields) ≡ None

transport_accepts : (past : Past) (r : Reading) (low : Option Lower) (opening : Option Opening) (n : Name)
    → accepted (transport_answer past r low opening) ≡ Some n → Accepts past r n
transport_accepts past r None opening n e = absurd cc
transport_accepts past r (Some low) opening n e =
    let (newer, whole) =
    early_passes (heard_as (state_of past) (is_some r.by.lpn) (name_of r.fields)) (entry_of past.records r.fields.src.0) (pair_of r.fields)
    (whole_answer quiet_layers past r low (name_of r.fields) opening) n e in
    record { named = (whole_accepts quiet_layers past r low (name_of r.fields) opening n whole).0; newer = newer }

pdu_fresh : (past : Past) (octets : List ℕ) (reading : Option Reading) (low : Option Lower) (opening : Option Opening) (n : Name)
    → IsReading past octets reading → accepted (pdu_answer past (OfPdu reading low opening)) ≡ Some n → Fresh past n
pdu_fresh past octets None low opening n h e = absurd cc
pdu_fresh past octets (Some r) low opening n h e =
    let (passed, rest) = past_refusal (network_answer past r) _ n (network_refuses past r) e in
    let a : Accepts past r n = transport_accepts past r low opening n rest in
    subst (Fresh past) a.named
    (record { read = not_expired (config_before past).iv.current r.fields.iv (name_of r.fields).pair refl h.1.reads.iv.0; newer = a.newer })

-- Nothing else is accepted.

pub nothing_silent : (past : Past) (event : Event) → Silent (answer_of past event OfNothing)
unfolding answer_of
nothing_silent past (E.Net octets) = silent refl
nothing_silent past (E.LowPower what) = silent refl
nothing_silent past _ = silent refl

fresh : (past : Past) (event : Event) (insight : Insight) (n : Name) → Sees past event insight → accepted (answer_of past event insight) ≡ Some n → Fresh past n
unfolding answer_of
fresh past _ _ n (sees_pdu {octets = octets} {reading = reading} {low = low} {opening = opening} r l o) e =
    pdu_fresh past octets reading low opening n r e
fresh past _ _ n (sees_nothing {event = event} h) e = absurd (nothing_accepted _ n (nothing_silent past event) e)

-- What is stored.

abbrev named : Option Name → List StoreRecord
named o = option_map_or (λ name. R.Replay name None ∷ []) o []

replay : (past : Past) (event : Event) (insight : Insight) (n : Name) → Sees past event insight → accepted (answer_of past event insight) ≡ Some n
    → (rest : List StoreRecord) × (stores past event insight (answer_of past event insight) ≡ R.Replay n None ∷ rest)
unfolding stores
replay past _ _ n (sees_pdu r l o) e = ([], ap named e)
replay past _ _ n (sees_nothing {event = event} h) e = absurd (nothing_accepted _ n (nothing_silent past event) e)

pub rises : (past : Past) (c : Config) (event : Event) (insight : Insight) (answer : Answer) → RiseAll c (stores past event insight answer)
unfolding stores
rises past c (E.Net octets) insight answer = of_name (accepted answer)
  where
    of_name : (o : Option Name) → RiseAll c (named o)
    of_name None = tt
    of_name (Some n) = (tt, tt)
rises past c _ insight answer = tt

-- What got past `own`.

element_refused : (past : Past) (r : Reading) (x : Answer) → is_element (config_before past) r.fields.src.0 ≡ true
    → is_before_cache (unwrap_or (network_answer past r) x) ≡ true
element_refused past r x e = found (not (is_unicast r.fields.src) || eqb r.fields.dst.0 0) _ _ x e
  where
    found : (bad own : Bool) (o : Option Answer) (x : Answer) → own ≡ true
        → is_before_cache (unwrap_or (cond bad (Some A.BadAddress) (cond own (Some A.Own) o)) x) ≡ true
    found true own o x e = refl
    found false true o x e = refl
    found false false o x e = absurd cc

is_false : (b : Bool) → (b ≡ true → ⊥) → b ≡ false
is_false true h = absurd (h refl)
is_false false h = refl

reading_in : Insight → Option Reading
reading_in (OfPdu reading low opening) = reading
reading_in _ = None

pdu_heard : (past : Past) (octets : List ℕ) (reading : Option Reading) (low : Option Lower) (opening : Option Opening) → IsReading past octets reading
    → (r : Reading) → reading ≡ Some r → is_before_cache (pdu_answer past (OfPdu reading low opening)) ≡ false → Foreign (config_before past) r.fields.src
pdu_heard past octets None low opening h r is passed = absurd cc
pdu_heard past octets (Some q) low opening h r is passed =
    subst (λ (x : Reading). Foreign (config_before past) x.fields.src) (some_is is)
    (is_false _ (λ own. let f : is_before_cache (pdu_answer past (OfPdu (Some q) low opening)) ≡ true = element_refused past q (transport_answer past q low opening) own in cc), h.1.reads.in_widths.src)

heard : (past : Past) (event : Event) (insight : Insight) → Sees past event insight → IsHeardFrom (config_before past) insight (answer_of past event insight)
unfolding reading_in answer_of
heard past _ _ (sees_pdu {octets = octets} {reading = reading} {low = l} {opening = o} h m n) r low opening is passed =
    pdu_heard past octets reading l o h r (ap reading_in is) passed
heard past _ _ (sees_nothing h) r low opening is passed = absurd cc

-- Jobs: control PDUs alone.

all_fine : (own c : Config) (jobs : List LpnJob) → AllByRecursion (Fine own) (flat_map (jobs_under c) jobs)
all_fine own c jobs = every_flat_any (Fine own) (jobs_under c) (λ job. every_made (Fine own) (control_job c job) (λ net. tt) (own_nets c)) jobs

fits : (own c : Config) (past : Past) (event : Event) (insight : Insight) (answer : Answer) → JobsFit own event (jobs_of past c event insight answer)
unfolding jobs_of
fits own c past (E.Begin m) insight answer = tt
fits own c past (E.Net octets) insight answer = all_fine own c (sent_by (state_of past) (event_calls (E.Net octets) insight answer))
fits own c past (E.LowPower what) insight answer = all_fine own c (sent_by (state_of past) (event_calls (E.LowPower what) insight answer))
fits own c past _ insight answer = tt

pub is_safe : IsSafeRole low_power_role
is_safe = record {
  rises = λ past event insight m. rises past (config_before past) event insight (answer_of past event insight);
  fresh = fresh;
  replay = replay;
  heard = heard;
  jobs = λ own c past event insight answer h k. fits own c past event insight answer;
}
