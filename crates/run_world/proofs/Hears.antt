-- What both kinds of node hear: a PDU of the known IV Index or the one before, and one Replay record for each message that is accepted.
use Rattle.std.proofs.Common.{◌≡◌, ◌⊎◌, ℕ, ◌+◌, Bool, true, false, cond, eqb, List, [], ◌∷◌, refl, ap, sym, subst, ◌∙◌, Option, Some, None}
use Rattle.std.specs.Bool.{⊤}
use Rattle.std.specs.List.{AllByRecursion}
use Rattle.std.specs.Option.{is_some, option_map_or}
use Rattle.std.proofs.lemmas.List.Elements.{recursion_from_All}
use Rattle.event_definitions.proofs.Accepting.{AcceptedFrom, past_refusal, some_is, whole_accepts}
use Rattle.event_definitions.proofs.Each.{every_append, every_map}
use Rattle.event_definitions.proofs.Events.{beacon_silent, nothing_accepted, nothing_silent, pdu_accepts, reset_accepts, unless_silent}
use Rattle.event_definitions.specs.Answers.{accepted, answer_of, config_before, pair_of, pdu_answer, whole_answer}
use Rattle.event_definitions.specs.History.{Insight, OfPdu, Opening, Past, Reading}
use Rattle.event_definitions.specs.Layers.{AccessMessage, Layers, quiet_layers}
use Rattle.event_definitions.specs.Readings.{IsReading, Sees, sees_beacon, sees_nothing, sees_pdu}
use Rattle.event_definitions.specs.Role.{Role, node_role}
use Rattle.event_definitions.specs.Safe.{AreSafe, IsChange}
use Rattle.event_definitions.specs.Stores.{asked, hours_passed, hours_step, message_of, phase_records, step_records, stores, tick_records}
use Rattle.low_power_definitions.specs.State.{heard_as, name_of}
use Rattle.low_power_role.proofs.Safe.{early_passes, network_refuses}
use Rattle.low_power_role.proofs.Safe as low
use Rattle.low_power_role.specs.Answers as low_answers
use Rattle.low_power_role.specs.Readings as low_readings
use Rattle.low_power_role.specs.Role.{low_power_role}
use Rattle.low_power_role.specs.Role as low_role
use Rattle.low_power_role.specs.State.{state_of}
use Rattle.mesh_base.specs.declared.iv_state.IvStep.{IvStep}
use Rattle.mesh_base.specs.declared.iv_state.IvStep.TheVariants as I
use Rattle.mesh_base.specs.declared.lower.Lower.{Lower}
use Rattle.mesh_base.specs.declared.pair.Name.{Name}
use Rattle.mesh_types.specs.declared.answers.Answer.{Answer}
use Rattle.mesh_types.specs.declared.answers.Answer.TheVariants as A
use Rattle.mesh_types.specs.declared.answers.KeyStep.{KeyStep}
use Rattle.mesh_types.specs.declared.answers.KeyStep.TheVariants as S
use Rattle.mesh_types.specs.declared.events.Event.{Event}
use Rattle.mesh_types.specs.declared.events.Event.TheVariants as E
use Rattle.record_types.specs.declared.records.StoreRecord.{StoreRecord}
use Rattle.record_types.specs.declared.records.StoreRecord.TheVariants as R
use Rattle.store_definitions.specs.Config.{Config}
use Rattle.store_definitions.specs.Entries.{entry_of}

-- a record that names no message
abbrev pub IsUnnamed : StoreRecord → Type 0
IsUnnamed (R.Replay first second) = ⊥
IsUnnamed _ = ⊤

-- read under the known IV Index or the one before it
abbrev pub IsUnder : ℕ → Name → Type 0
IsUnder current n = (n.pair.iv ≡ current) ⊎ (n.pair.iv + 1 ≡ current)

-- what is stored with an accepted message: its Replay record, and none behind that
pub record StoresName (n : Name) (stored : List StoreRecord) : Type 0 where
  pub rest : List StoreRecord
  pub is : stored ≡ R.Replay n None ∷ rest
  pub unnamed : AllByRecursion IsUnnamed rest

pub record Hears (role : Role) : Type 0 where
  pub read : (past : Past) (event : Event) (insight : Insight) (n : Name) → role.sees past event insight
      → accepted (role.answer past event insight) ≡ Some n → IsUnder (config_before past).iv.current n
  pub named : (past : Past) (event : Event) (insight : Insight) (n : Name) → role.sees past event insight
      → accepted (role.answer past event insight) ≡ Some n → StoresName n (role.stores past event insight (role.answer past event insight))
  pub silent : (past : Past) (event : Event) (insight : Insight) → role.sees past event insight
      → accepted (role.answer past event insight) ≡ None → AllByRecursion IsUnnamed (role.stores past event insight (role.answer past event insight))

-- A node with layers above the lower transport layer.

under_reading : (layers : Layers) (past : Past) (octets : List ℕ) (r : Reading) (n : Name) → IsReading layers past octets (Some r) → AcceptedFrom past r n
    → IsUnder (config_before past).iv.current n
under_reading layers past octets r n h k =
    subst (λ iv. (iv ≡ (config_before past).iv.current) ⊎ (iv + 1 ≡ (config_before past).iv.current)) (sym k.iv) h.1.reads.iv.0

under_pdu : (layers : Layers) (past : Past) (octets : List ℕ) (reading : Option Reading) (low : Option Lower) (opening : Option Opening) (n : Name)
    → IsReading layers past octets reading → accepted (pdu_answer layers past (OfPdu reading low opening)) ≡ Some n → IsUnder (config_before past).iv.current n
under_pdu layers past octets None low opening n h e = absurd cc
under_pdu layers past octets (Some r) low opening n h e = under_reading layers past octets r n h (pdu_accepts layers past r low opening n e)

node_reads : (layers : Layers) (past : Past) (event : Event) (insight : Insight) (n : Name)
    → Sees layers past event insight → accepted (answer_of layers past event insight) ≡ Some n → IsUnder (config_before past).iv.current n
unfolding answer_of
node_reads layers past _ _ n (sees_pdu {octets = octets} {reading = reading} {low = low} {opening = opening} reset r l o) e =
    under_pdu layers past octets reading low opening n r (reset_accepts _ _ n e)
node_reads layers past _ _ n (sees_beacon {b = b} reset k) e =
    absurd (nothing_accepted _ n (unless_silent past _ (beacon_silent layers past b)) e)
node_reads layers past _ _ n (sees_nothing {event = event} h) e = absurd (nothing_accepted _ n (nothing_silent layers past event) e)

change_unnamed : (r : StoreRecord) → IsChange r → IsUnnamed r
change_unnamed (R.Replay first second) h = h
change_unnamed _ h = tt

asked_unnamed : (layers : Layers) → AreSafe layers → (past : Past) (m : Option AccessMessage) → AllByRecursion IsUnnamed (asked layers past m)
asked_unnamed layers safe past None = tt
asked_unnamed layers safe past (Some m) =
    every_map IsChange IsUnnamed change_unnamed (layers.changes past m) (recursion_from_All IsChange (layers.changes past m) (safe.changes past m))

net_named : (layers : Layers) → AreSafe layers → (past : Past) (octets : List ℕ) (insight : Insight) (answer : Answer) (n : Name) → accepted answer ≡ Some n
    → StoresName n (stores layers past (E.Net octets) insight answer)
unfolding stores
net_named layers safe past octets insight (A.Delivered name dst key payload) n a =
    let same : name ≡ n = some_is a in
    record {
      rest = asked layers past (message_of insight name dst);
      is = ap (λ m. R.Replay m None ∷ asked layers past (message_of insight name dst)) same;
      unnamed = asked_unnamed layers safe past (message_of insight name dst);
    }
net_named layers safe past octets insight (A.Control name dst opcode params) n a =
    let same : name ≡ n = some_is a in record { rest = []; is = ap (λ m. R.Replay m None ∷ []) same; unnamed = tt }
net_named layers safe past octets insight _ n a = absurd cc

node_named : (layers : Layers) → AreSafe layers → (past : Past) (event : Event) (insight : Insight) (answer : Answer) (n : Name)
    → Sees layers past event insight → answer ≡ answer_of layers past event insight → accepted answer ≡ Some n
    → StoresName n (stores layers past event insight answer)
unfolding answer_of
node_named layers safe past _ _ answer n (sees_pdu {octets = octets} {reading = reading} {low = low} {opening = opening} reset r l o) e a =
    net_named layers safe past octets (OfPdu reading low opening) answer n a
node_named layers safe past _ _ answer n (sees_beacon {b = b} reset k) e a =
    absurd (nothing_accepted _ n (unless_silent past _ (beacon_silent layers past b)) (ap accepted (sym e) ∙ a))
node_named layers safe past _ _ answer n (sees_nothing {event = event} h) e a =
    absurd (nothing_accepted _ n (nothing_silent layers past event) (ap accepted (sym e) ∙ a))

phase_unnamed : (index : ℕ) (key : KeyStep) → AllByRecursion IsUnnamed (phase_records index key)
phase_unnamed index S.Same = tt
phase_unnamed index S.Phase2 = (tt, tt)
phase_unnamed index S.Phase0 = (tt, tt)

step_unnamed : (c : Config) (step : IvStep) → AllByRecursion IsUnnamed (step_records c step)
step_unnamed c (I.Ignore rule) = tt
step_unnamed c (I.Begin s) = (tt, tt)
step_unnamed c (I.Finish s) = (tt, tt)
step_unnamed c (I.Recover s) = (tt, tt)
step_unnamed c I.Wait = tt

unnamed_pick : (b : Bool) (xs ys : List StoreRecord) → AllByRecursion IsUnnamed xs → AllByRecursion IsUnnamed ys → AllByRecursion IsUnnamed (cond b xs ys)
unnamed_pick true xs ys h k = h
unnamed_pick false xs ys h k = k

tick_unnamed : (layers : Layers) (past : Past) (ticks : ℕ) → AllByRecursion IsUnnamed (tick_records layers past ticks)
tick_unnamed layers past ticks =
    let hour : StoreRecord = R.Hour (hours_step layers past ticks).0.hours (hours_step layers past ticks).0.since in
    let rest : AllByRecursion IsUnnamed (step_records (config_before past) (hours_step layers past ticks).1) =
    step_unnamed (config_before past) (hours_step layers past ticks).1 in
    unnamed_pick (eqb (hours_passed past ticks) 0) [] (hour ∷ step_records (config_before past) (hours_step layers past ticks).1) tt (tt, rest)

node_silent : (layers : Layers) → AreSafe layers → (past : Past) (event : Event) (insight : Insight) (answer : Answer) → accepted answer ≡ None
    → AllByRecursion IsUnnamed (stores layers past event insight answer)
unfolding stores
node_silent layers safe past (E.Net octets) insight (A.Delivered name dst key payload) a = absurd cc
node_silent layers safe past (E.Net octets) insight (A.Control name dst opcode params) a = absurd cc
node_silent layers safe past (E.Net octets) insight _ a = tt
node_silent layers safe past (E.Bcn octets) insight (A.Beacon index key iv) a =
    every_append IsUnnamed (phase_records index key) (step_records (config_before past) iv) (phase_unnamed index key) (step_unnamed (config_before past) iv)
node_silent layers safe past (E.Bcn octets) insight _ a = tt
node_silent layers safe past (E.Tick ticks) insight (A.Ticked now) a = tick_unnamed layers past ticks
node_silent layers safe past (E.Tick ticks) insight _ a = tt
node_silent layers safe past _ insight _ a = tt

pub node_hears : (layers : Layers) → AreSafe layers → Hears (node_role layers)
node_hears layers safe = record {
  read = λ past event insight n sees e. node_reads layers past event insight n sees e;
  named = λ past event insight n sees e. node_named layers safe past event insight _ n sees refl e;
  silent = λ past event insight sees e. node_silent layers safe past event insight _ e;
}

-- A Low Power node.

low_transport_named : (past : Past) (r : Reading) (low : Option Lower) (opening : Option Opening) (n : Name)
    → accepted (low_answers.transport_answer past r low opening) ≡ Some n → name_of r.fields ≡ n
low_transport_named past r None opening n e = absurd cc
low_transport_named past r (Some low) opening n e =
    let (newer, whole) =
    early_passes (heard_as (state_of past) (is_some r.by.lpn) (name_of r.fields)) (entry_of past.records r.fields.src.0) (pair_of r.fields)
    (whole_answer quiet_layers past r low (name_of r.fields) opening) n e in
    (whole_accepts quiet_layers past r low (name_of r.fields) opening n whole).0

low_under : (past : Past) (octets : List ℕ) (reading : Option Reading) (low : Option Lower) (opening : Option Opening) (n : Name)
    → low_readings.IsReading past octets reading → accepted (low_answers.pdu_answer past (OfPdu reading low opening)) ≡ Some n
    → IsUnder (config_before past).iv.current n
low_under past octets None low opening n h e = absurd cc
low_under past octets (Some r) low opening n h e =
    let (passed, rest) = past_refusal (low_answers.network_answer past r) _ n (network_refuses past r) e in
    subst (IsUnder (config_before past).iv.current) (low_transport_named past r low opening n rest) h.1.reads.iv.0

low_reads : (past : Past) (event : Event) (insight : Insight) (n : Name) → low_readings.Sees past event insight
    → accepted (low_answers.answer_of past event insight) ≡ Some n → IsUnder (config_before past).iv.current n
unfolding low_answers.answer_of
low_reads past _ _ n (low_readings.sees_pdu {octets = octets} {reading = reading} {low = low} {opening = opening} r l o) e =
    low_under past octets reading low opening n r e
low_reads past _ _ n (low_readings.sees_nothing {event = event} h) e = absurd (nothing_accepted _ n (low.nothing_silent past event) e)

abbrev names_stored : Option Name → List StoreRecord
names_stored o = option_map_or (λ name. R.Replay name None ∷ []) o []

low_named : (past : Past) (event : Event) (insight : Insight) (n : Name) → low_readings.Sees past event insight
    → accepted (low_answers.answer_of past event insight) ≡ Some n
    → StoresName n (low_role.stores past event insight (low_answers.answer_of past event insight))
unfolding low_role.stores
low_named past _ _ n (low_readings.sees_pdu r l o) e = record { rest = []; is = ap names_stored e; unnamed = tt }
low_named past _ _ n (low_readings.sees_nothing {event = event} h) e = absurd (nothing_accepted _ n (low.nothing_silent past event) e)

low_silent : (past : Past) (event : Event) (insight : Insight) (answer : Answer) → accepted answer ≡ None
    → AllByRecursion IsUnnamed (low_role.stores past event insight answer)
unfolding low_role.stores
low_silent past (E.Net octets) insight answer e = subst (λ o. AllByRecursion IsUnnamed (names_stored o)) (sym e) tt
low_silent past _ insight answer e = tt

pub low_power_hears : Hears low_power_role
low_power_hears = record {
  read = low_reads;
  named = low_named;
  silent = λ past event insight sees e. low_silent past event insight _ e;
}
