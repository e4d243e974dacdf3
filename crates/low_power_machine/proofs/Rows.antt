-- A network PDU heard, from row to row.
use Rattle.std.proofs.Common.{◌≡◌, ℕ, Bool, true, false, cond, not, ◌||◌, eqb, List, [], ◌∷◌, ◌++◌, refl, ap, sym, subst, ◌∙◌, fold, Option, Some, None}
use Rattle.std.specs.Bool.{⊤}
use Rattle.std.specs.Prelude.{MatchOption}
use Rattle.std.specs.Option.{is_some, option_or, option_to_list, unwrap_or}
use Rattle.event_definitions.specs.Answers.{config_before, name_of, opened_answer, pair_of, replayed, whole_answer}
use Rattle.event_definitions.specs.History.{OfNothing, OfPdu, Opening, Past, Reading}
use Rattle.event_definitions.specs.Layers.{quiet_layers}
use Rattle.event_definitions.specs.Readings.{IsLowerPdu, IsOpenedUnder, fields_heard}
use Rattle.low_power_definitions.specs.State.{LowPowerState, LpnCall, after, hear, heard_as}
use Rattle.low_power_definitions.specs.declared.lpn.LpnHeard.{LpnHeard}
use Rattle.low_power_definitions.specs.declared.lpn.LpnHeard.TheVariants.{Unasked, Repeat, Pass}
use Rattle.low_power_definitions.specs.declared.lpn.LpnJob.{LpnJob}
use Rattle.layer_definitions.specs.KeyRefresh.{heard_keys}
use Rattle.layer_definitions.specs.Network.{IsUnread, Reads}
use Rattle.layer_states.specs.Names.{is_unicast}
use Rattle.low_power_machine.specs.Hearing.{IsJudgedSo, network_row}
use Rattle.low_power_machine.specs.Memory.{IsFitFor, keys_under}
use Rattle.low_power_machine.specs.Plans.{IsHeardSo, IsPlanned, IsTransportSo, records_by}
use Rattle.low_power_machine.specs.Telling.{IsToldSo}
use Rattle.low_power_machine.specs.declared.memory.Memory.{Memory}
use Rattle.low_power_machine.specs.declared.plan.Plan.{Plan}
use Rattle.low_power_role.specs.Answers.{answer_of, early_answer, friendship_answer, is_mine, is_segmented, network_answer, told_answer, transport_answer}
use Rattle.low_power_role.specs.Readings.{IsOpened, friend_keys, keys_heard, keys_tried, own_nets, sees_nothing, sees_pdu}
use Rattle.low_power_role.specs.Role.{sent_by, stores}
use Rattle.low_power_role.specs.State.{control_calls, heard_calls, state_of, told_calls}
use Rattle.mesh_base.specs.Pairs.{is_newer}
use Rattle.mesh_base.specs.declared.fields.Heard.{Heard}
use Rattle.mesh_base.specs.declared.keys.NetKeyRow.{NetKeyRow}
use Rattle.mesh_base.specs.declared.keys.UpperKey.{UpperKey}
use Rattle.mesh_base.specs.declared.keys.UpperKey.TheVariants as U
use Rattle.mesh_base.specs.declared.lower.Lower.{Lower}
use Rattle.mesh_base.specs.declared.lower.Lower.TheVariants.{Access}
use Rattle.mesh_base.specs.declared.pair.Name.{Name}
use Rattle.mesh_base.specs.declared.pair.Pair.{Pair}
use Rattle.mesh_types.specs.declared.answers.Answer.{Answer}
use Rattle.mesh_types.specs.declared.answers.Answer.TheVariants as A
use Rattle.mesh_types.specs.declared.events.Event.{Event}
use Rattle.mesh_types.specs.declared.events.Event.TheVariants as E
use Rattle.mesh_types.specs.declared.low_power.LowPowerAnswer.TheVariants as P
use Rattle.mesh_types.specs.declared.low_power.LowPowerEvent.{LowPowerEvent}
use Rattle.message_answers.specs.Kinds.{is_of_whole}
use Rattle.node_records.specs.Meaning.{IsMeaningOf}
use Rattle.node_records.specs.Tables.{config_in}
use Rattle.node_records.specs.declared.persist.Persist.{Persist}
use Rattle.store_definitions.specs.Config.{Config, config_of, is_element}
use Rattle.store_definitions.specs.Entries.{entry_of}

abbrev heard_one : Reading → LpnCall
heard_one r = hear (is_some r.by.lpn) (name_of r.fields)

-- The calls of an answer that comes before a whole message: the PDU was heard, and nothing follows.

some_of : {A : Type 0} {a b : A} → Some a ≡ Some b → a ≡ b
some_of e = cc

early_calls : (r : Reading) (h : LpnHeard) (kept : Option Pair) (p : Pair) (a : Answer)
    → option_or (friendship_answer h) (replayed kept p) ≡ Some a → heard_calls r a ≡ heard_one r ∷ []
early_calls r Unasked kept p a e = subst (λ x. heard_calls r x ≡ heard_one r ∷ []) (some_of e) refl
early_calls r Repeat kept p a e = subst (λ x. heard_calls r x ≡ heard_one r ∷ []) (some_of e) refl
early_calls r Pass None p a e = absurd cc
early_calls r Pass (Some k) p a e = pick (is_newer p k) e
  where
    pick : (b : Bool) → cond b None (Some (A.Replay k)) ≡ Some a → heard_calls r a ≡ heard_one r ∷ []
    pick true e = absurd cc
    pick false e = subst (λ x. heard_calls r x ≡ heard_one r ∷ []) (some_of e) refl

abbrev no_opening : Option Opening
no_opening = None

abbrev no_lower : Option Lower
no_lower = None

pub heard_early : (past : Past) (r : Reading) (low : Lower) (a : Answer) (old new : LowPowerState) → old ≡ state_of past
    → early_answer past r ≡ Some a → new ≡ after old (heard_one r)
    → IsHeardSo past r (Some low) (record { answer = a; job = None }) new
heard_early past r low a old new is e step =
    let calls : heard_calls r a ≡ heard_one r ∷ [] =
    early_calls r (heard_as (state_of past) (is_some r.by.lpn) (name_of r.fields)) (entry_of past.records r.fields.src.0) (pair_of r.fields) a e in
    record {
      opening = no_opening;
      opens = subst (λ (o : Option Answer). MatchOption o (IsOpened past r low no_opening) (λ answer. no_opening ≡ None)) (sym e) refl;
      answer = subst (λ (o : Option Answer). a ≡ unwrap_or o (whole_answer quiet_layers past r low (name_of r.fields) no_opening)) (sym e) refl;
      job = ap (λ l. sent_by (state_of past) l) (sym calls);
      state = step ∙ ap (λ st. after st (heard_one r)) is ∙ ap (λ l. fold after (state_of past) l) (sym calls);
    }

-- The calls of the answer to a whole message: the PDU was heard, and then what a control message leads to.

whole_calls : (r : Reading) (a : Answer) → is_of_whole a ≡ true → heard_calls r a ≡ heard_one r ∷ control_calls r a
whole_calls r A.NoKey e = refl
whole_calls r (A.ListFull held) e = refl
whole_calls r (A.Delivered name dst key payload) e = refl
whole_calls r (A.Control name dst opcode params) e = refl
whole_calls r _ e = absurd cc

pub heard_whole : (past : Past) (r : Reading) (low : Lower) (a : Answer) (job : Option LpnJob) (old mid new : LowPowerState) → old ≡ state_of past
    → early_answer past r ≡ None → mid ≡ after old (heard_one r) → is_of_whole a ≡ true → IsJudgedSo past r low a
    → option_to_list job ≡ sent_by mid (control_calls r a) → new ≡ fold after mid (control_calls r a)
    → IsHeardSo past r (Some low) (record { answer = a; job = job }) new
heard_whole past r low a job old mid new is e step whole judged sends leaves =
    let calls : heard_calls r a ≡ heard_one r ∷ control_calls r a = whole_calls r a whole in
    let now : mid ≡ after (state_of past) (heard_one r) = step ∙ ap (λ st. after st (heard_one r)) is in
    record {
      opening = judged.opening;
      opens = subst (λ (o : Option Answer). MatchOption o (IsOpened past r low judged.opening) (λ answer. judged.opening ≡ None)) (sym e) judged.opens;
      answer = subst (λ (o : Option Answer). a ≡ unwrap_or o (whole_answer quiet_layers past r low (name_of r.fields) judged.opening)) (sym e) judged.answer;
      job = sends ∙ ap (λ st. sent_by st (control_calls r a)) now ∙ ap (λ l. sent_by (state_of past) l) (sym calls);
      state = leaves ∙ ap (λ st. fold after st (control_calls r a)) now ∙ ap (λ l. fold after (state_of past) l) (sym calls);
    }

-- there is no lower transport PDU in it
pub heard_malformed : (past : Past) (r : Reading) (old : LowPowerState) → old ≡ state_of past
    → IsHeardSo past r None (record { answer = A.Malformed; job = None }) old
heard_malformed past r old is = record { opening = None; opens = refl; answer = refl; job = refl; state = is }

-- From the octets on.

pub keys_are : (past : Past) (memory : Memory) (p : Persist) → IsFitFor memory p → IsMeaningOf past.records p → memory.lpn ≡ state_of past
    → heard_keys memory.nets ++ memory.friend ≡ keys_heard past
keys_are past memory p fit meaning is =
    ap (λ (l : List NetKeyRow). heard_keys l ++ memory.friend) fit.nets ∙ ap (λ (l : List Heard). heard_keys (own_nets (config_in p)) ++ l) fit.friend
    ∙ ap (λ (c : Config). heard_keys (own_nets c) ++ friend_keys c memory.lpn) meaning.config
    ∙ ap (λ (st : LowPowerState). heard_keys (own_nets (config_of past.records)) ++ friend_keys (config_of past.records) st) is

-- the row of the network layer
pub row_is : (past : Past) (p : Persist) (st : LowPowerState) (r : Reading) (o : Option Answer) → IsMeaningOf past.records p → st ≡ state_of past
    → o ≡ network_row (config_in p) st r.fields → network_answer past r ≡ o
row_is past p st r o meaning is e =
    sym (e ∙ ap (λ (c : Config). network_row c st r.fields) meaning.config ∙ ap (λ (x : LowPowerState). network_row (config_of past.records) x r.fields) is)

-- leads to no call
row_calls : (r : Reading) (bad own other part : Bool) (a : Answer)
    → cond bad (Some A.BadAddress) (cond own (Some A.Own) (cond other (Some A.NotMine) (cond part (Some (A.LowPower P.Segmented)) None))) ≡ Some a
    → heard_calls r a ≡ []
row_calls r true own other part a e = subst (λ x. heard_calls r x ≡ []) (some_of e) refl
row_calls r false true other part a e = subst (λ x. heard_calls r x ≡ []) (some_of e) refl
row_calls r false false true part a e = subst (λ x. heard_calls r x ≡ []) (some_of e) refl
row_calls r false false false true a e = subst (λ x. heard_calls r x ≡ []) (some_of e) refl
row_calls r false false false false a e = absurd cc

abbrev IsReadAs : Past → List ℕ → Reading → Type 0
IsReadAs past octets r = (place : ℕ) × Reads (keys_heard past) (config_before past).iv.current octets r.fields place r.by

pub planned_unread : (past : Past) (octets : List ℕ) (st : LowPowerState) → st ≡ state_of past → IsUnread (keys_heard past) (config_before past).iv.current octets
    → IsPlanned past (E.Net octets) (record { answer = A.Unread; job = None }) st
unfolding answer_of stores
planned_unread past octets st is unread = record {
  insight = OfPdu None None None;
  sees = sees_pdu unread refl refl;
  answer = refl;
  records = refl;
  job = refl;
  state = is;
}

pub planned_row : (past : Past) (octets : List ℕ) (r : Reading) (a : Answer) (st : LowPowerState) → st ≡ state_of past → IsReadAs past octets r
    → network_answer past r ≡ Some a → IsPlanned past (E.Net octets) (record { answer = a; job = None }) st
unfolding answer_of stores
planned_row past octets r a st is reads e =
    let calls : heard_calls r a ≡ [] =
    row_calls r (not (is_unicast r.fields.src) || eqb r.fields.dst.0 0) (is_element (config_before past) r.fields.src.0)
    (not (is_mine (config_before past) (state_of past) r.fields.dst)) (is_segmented r.fields.tpdu) a e in
    record {
      insight = OfPdu (Some r) None None;
      sees = sees_pdu reads (subst (λ (o : Option Answer). MatchOption o (IsLowerPdu r.fields None) (λ answer. no_lower ≡ None)) (sym e) refl) refl;
      answer = subst (λ (o : Option Answer). a ≡ unwrap_or o (transport_answer past r None None)) (sym e) refl;
      records = refl;
      job = ap (λ l. sent_by (state_of past) l) (sym calls);
      state = is ∙ ap (λ l. fold after (state_of past) l) (sym calls);
    }

pub planned_heard : (past : Past) (octets : List ℕ) (r : Reading) (plan : Plan) (st : LowPowerState) → IsReadAs past octets r
    → network_answer past r ≡ None → IsTransportSo past r plan st → IsPlanned past (E.Net octets) plan st
unfolding answer_of stores
planned_heard past octets r plan st reads e h = record {
  insight = OfPdu (Some r) h.low h.heard.opening;
  sees = sees_pdu reads (subst (λ (o : Option Answer). MatchOption o (IsLowerPdu r.fields h.low) (λ answer. h.low ≡ None)) (sym e) h.lower) h.heard.opens;
  answer = subst (λ (o : Option Answer). plan.answer ≡ unwrap_or o (transport_answer past r h.low h.heard.opening)) (sym e) h.heard.answer;
  records = refl;
  job = h.heard.job;
  state = h.heard.state;
}

-- What the node is told to do, and what it isn't told.

pub planned_told : (past : Past) (what : LowPowerEvent) (plan : Plan) (old new : LowPowerState) → old ≡ state_of past → IsToldSo old what plan new
    → IsPlanned past (E.LowPower what) plan new
unfolding answer_of stores
planned_told past what plan old new is h = record {
  insight = OfNothing;
  sees = sees_nothing refl;
  answer = h.answer ∙ ap (λ st. A.LowPower (told_answer st what)) is;
  records = ap records_by h.answer;
  job = h.job ∙ ap (λ st. sent_by st (told_calls what)) is;
  state = h.state ∙ ap (λ st. fold after st (told_calls what)) is;
}

abbrev IsUntold : Event → Type 0
IsUntold (E.Net octets) = ⊥
IsUntold (E.LowPower what) = ⊥
IsUntold _ = ⊤

pub untold : (event : Event) → ((octets : List ℕ) → event ≡ E.Net octets → ⊥) → ((what : LowPowerEvent) → event ≡ E.LowPower what → ⊥) → IsUntold event
untold (E.Net octets) net told = absurd (net octets refl)
untold (E.LowPower what) net told = absurd (told what refl)
untold _ net told = tt

pub planned_dropped : (past : Past) (event : Event) (st : LowPowerState) → st ≡ state_of past → IsUntold event
    → IsPlanned past event (record { answer = A.Dropped; job = None }) st
unfolding answer_of stores
planned_dropped past (E.Net octets) st is h = absurd h
planned_dropped past (E.LowPower what) st is h = absurd h
planned_dropped past _ st is h = record {
  insight = OfNothing;
  sees = sees_nothing refl;
  answer = refl;
  records = refl;
  job = refl;
  state = is;
}

-- A whole access message: the device key alone is tried.

tried_are : (device : UpperKey) (c : Config) (r : Reading) (akf : Bool) → device ≡ U.Device c.dev_key → keys_under device r.fields.dst akf ≡ keys_tried c r akf
tried_are device c r true is = refl
tried_are device c r false is = ap (λ (k : UpperKey). keys_under k r.fields.dst false) is

pub judged_access : (past : Past) (p : Persist) (memory : Memory) (r : Reading) (low : Lower) (akf : Bool) (aid : ℕ) (upper : List ℕ) (name : Name)
    (opening : Option Opening) (answer : Answer) → IsFitFor memory p → IsMeaningOf past.records p → low ≡ Access akf aid upper → name ≡ name_of r.fields
    → IsOpenedUnder (keys_under memory.device r.fields.dst akf) (fields_heard r name false) upper opening → answer ≡ opened_answer past r name opening
    → IsJudgedSo past r low answer
judged_access past p memory r low akf aid upper name opening answer fit meaning is named opens given =
    let c : Config = config_of past.records in
    let tried : keys_under memory.device r.fields.dst akf ≡ keys_tried c r akf =
    tried_are memory.device c r akf (fit.device ∙ ap (λ (d : Config). U.Device d.dev_key) meaning.config) in
    let opened : IsOpened past r (Access akf aid upper) opening =
    subst (λ (n : Name). IsOpenedUnder (keys_tried c r akf) (fields_heard r n false) upper opening) named
    (subst (λ (ks : List UpperKey). IsOpenedUnder ks (fields_heard r name false) upper opening) tried opens) in
    let judged : IsJudgedSo past r (Access akf aid upper) answer =
    record { opening = opening; opens = opened; answer = given ∙ ap (λ (n : Name). opened_answer past r n opening) named } in
    subst (λ (l : Lower). IsJudgedSo past r l answer) (sym is) judged
