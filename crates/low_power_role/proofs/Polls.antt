-- FSN in a life, by what follows for Polls of a list of calls.
use Rattle.std.proofs.Common.{◌≡◌, ◌↔◌, ◌∙◌, ℕ, ◌+◌, ◌%◌, Bool, true, false, cond, List, [], ◌∷◌, ◌++◌, append-nil, append_assoc, refl, ap, sym, subst, arith, Option, Some, None}
use Rattle.std.specs.Prelude.{◌&&◌, fold, is_none, is_some}
use Rattle.std.specs.List.{AllByRecursion as Every, count_by, flat_map, list_any}
use Rattle.std.specs.Option.{option_or, option_to_list, unwrap_or}
use Rattle.std.proofs.lemmas.Bool.{or_from, or_parts}
use Rattle.std.proofs.lemmas.List.Concat.{flat_map-append}
use Rattle.std.proofs.lemmas.List.Elements.{All-contains, All-from_recursion}
use Rattle.std.proofs.lemmas.List.Folds.{list_any-append}
use Rattle.std.proofs.lemmas.List.Sums.{sum_by-cons}
use Rattle.layer_definitions.specs.Control.{control_text}
use Rattle.layer_definitions.specs.ControlReading.{control_of}
use Rattle.low_power_definitions.specs.Calls.{has_seek, is_seek as seeks}
use Rattle.low_power_definitions.specs.Polls as polls
use Rattle.low_power_definitions.specs.Polls.{closings, sent}
use Rattle.low_power_definitions.specs.State.{LpnCall, LowPowerState, after, hear, heard_as, is_answer as answers, list, lpn, name_of, no_friend, offer, poll, seek}
use Rattle.low_power_definitions.specs.declared.lpn.LpnHeard.{LpnHeard}
use Rattle.low_power_definitions.specs.declared.lpn.LpnHeard.TheVariants.{Unasked, Repeat, Pass}
use Rattle.low_power_definitions.specs.declared.lpn.LpnJob.{LpnJob}
use Rattle.mesh_base.proofs.Every.{every_flat, every_made}
use Rattle.mesh_base.specs.declared.address.Address.{Address}
use Rattle.mesh_base.specs.declared.control.ControlMsg.{ControlMsg}
use Rattle.mesh_base.specs.declared.control.ControlMsg.TheVariants as C
use Rattle.mesh_base.specs.declared.lower.Lower.{Lower}
use Rattle.mesh_base.specs.declared.lower.Lower.TheVariants.{Access, AccessPart, Control, ControlPart}
use Rattle.mesh_base.specs.declared.pair.Name.{Name}
use Rattle.mesh_base.specs.declared.pair.Pair.{Pair}
use Rattle.mesh_types.specs.declared.answers.Answer.{Answer}
use Rattle.mesh_types.specs.declared.answers.Answer.TheVariants as A
use Rattle.mesh_types.specs.declared.events.Event.{Event}
use Rattle.mesh_types.specs.declared.events.Event.TheVariants as E
use Rattle.mesh_types.specs.declared.jobs.Job.{Job}
use Rattle.mesh_types.specs.declared.low_power.LowPowerAnswer.TheVariants as P
use Rattle.mesh_types.specs.declared.low_power.LowPowerEvent.{LowPowerEvent}
use Rattle.mesh_types.specs.declared.low_power.LowPowerEvent.TheVariants as W
use Rattle.record_types.specs.declared.records.StoreRecord.{StoreRecord}
use Rattle.event_definitions.specs.Answers.{opened_answer, pair_of, placed_answer, replayed, whole_answer}
use Rattle.event_definitions.specs.Handling.{AreHandled, Handles, past_of}
use Rattle.event_definitions.specs.History.{Insight, OfPdu, Opening, Past, Reading, Told}
use Rattle.event_definitions.specs.Layers.{quiet_layers}
use Rattle.low_power_role.proofs.Life.{At, at, goes_on, more_calls, state_at}
use Rattle.low_power_role.specs.Answers.{answer_of, friendship_answer, pdu_answer, transport_answer}
use Rattle.low_power_role.specs.Laws.{FsnCountsAnswers, IsPoll, SendsPoll, closes, is_answer, is_seek}
use Rattle.low_power_role.specs.Readings.{Sees, own_nets, sees_nothing, sees_pdu}
use Rattle.low_power_role.specs.Role.{control_job, jobs_of, jobs_under, low_power_role, sent_by}
use Rattle.low_power_role.specs.State.{calls_in, control_calls, event_calls, heard_calls, is_passed, is_past_lower, life_state, offer_calls, state_of, told_calls}
use Rattle.store_definitions.specs.Config.{Config, config_of}

abbrev one : Bool → ℕ
one b = cond b 1 0

-- Lists of calls.

closings_append : (st : LowPowerState) (xs ys : List LpnCall) → closings st (xs ++ ys) ≡ closings st xs + closings (fold after st xs) ys
closings_append st [] ys = omega arith
closings_append st (x ∷ xs) ys =
    let more = closings_append (after st x) xs ys in
    ap (λ n. one (polls.is_closed_by st x) + n) more ∙ omega arith

seek_append : (xs ys : List LpnCall) → has_seek xs ≡ false → has_seek ys ≡ false → has_seek (xs ++ ys) ≡ false
seek_append xs ys h k = list_any-append seeks xs ys ∙ or_from (has_seek xs) (has_seek ys) h k

-- What an entry closes: at most one Poll, by a PDU under friendship credentials that passes.

-- an offer closes none
offers_close_none : (st : LowPowerState) (r : Reading) (answer : Answer) → closings st (control_calls r answer) ≡ 0
offers_close_none st r (A.Control name dst opcode params) = of_message (control_of opcode params)
  where
    by_master : (b : Bool) (call : LpnCall) → polls.is_closed_by st call ≡ false → closings st (cond b (call ∷ []) []) ≡ 0
    by_master true call e = rw e refl
    by_master false call e = refl

    of_message : (m : ControlMsg) → closings st (offer_calls r m) ≡ 0
    of_message (C.Offer o) = by_master (is_none r.by.lpn) (offer r.fields.src o.friend_counter) refl
    of_message _ = refl
offers_close_none st r _ = refl

-- the answers of a message that isn't a segment's
whole_passed : (past : Past) (r : Reading) (low : Lower) (n : Name) (opening : Option Opening) → is_passed (whole_answer quiet_layers past r low n opening) ≡ true
whole_passed past r low n opening = of_lower low opening
  where
    placed : (past : Past) (n : Name) (a : Answer) → is_passed a ≡ true → is_passed (placed_answer past n a) ≡ true
    placed past n a h = pick _ _
      where
        pick : (b : Bool) (held : ℕ) → is_passed (cond b (A.ListFull held) a) ≡ true
        pick true held = refl
        pick false held = h

    opened : (o : Option Opening) → is_passed (opened_answer past r n o) ≡ true
    opened None = refl
    opened (Some o) = placed past n _ refl

    of_lower : (low : Lower) (opening : Option Opening) → is_passed (whole_answer quiet_layers past r low n opening) ≡ true
    of_lower (Access akf aid upper) o = opened o
    of_lower (AccessPart akf aid szmic seq_zero seg_o seg_n piece) o = opened o
    of_lower (Control opcode params) o = placed past n _ refl
    of_lower (ControlPart opcode seq_zero seg_o seg_n piece) o = placed past n _ refl

replay_passed : (kept : Option Pair) (p : Pair) (a : Answer) → is_passed a ≡ true → is_passed (unwrap_or (replayed kept p) a) ≡ true
replay_passed None p a h = h
replay_passed (Some q) p a h = pick _
  where
    pick : (b : Bool) → is_passed (unwrap_or (cond b None (Some (A.Replay q))) a) ≡ true
    pick true = h
    pick false = refl

-- an answer says what the friendship said of the PDU: nothing, since it didn't come so far, or this
data Says (said : LpnHeard) : Answer → Type 0 where
  below : {a : Answer} → is_past_lower a ≡ false → is_passed a ≡ false → Says said a
  unasked : said ≡ Unasked → Says said (A.LowPower P.Unasked)
  repeats : said ≡ Repeat → Says said (A.LowPower P.Repeat)
  passes : {a : Answer} → said ≡ Pass → is_past_lower a ≡ true → is_passed a ≡ true → Says said a

past_lower : (a : Answer) → is_passed a ≡ true → is_past_lower a ≡ true
past_lower (A.LowPower answer) h = absurd cc
past_lower (A.Replay kept) h = refl
past_lower A.NoKey h = refl
past_lower (A.ListFull held) h = refl
past_lower (A.Delivered name dst key payload) h = refl
past_lower (A.Control name dst opcode params) h = refl
past_lower _ h = absurd cc

early_says : (said heard : LpnHeard) (kept : Option Pair) (p : Pair) (a : Answer) → said ≡ heard → is_passed a ≡ true
    → Says said (unwrap_or (option_or (friendship_answer heard) (replayed kept p)) a)
early_says said Unasked kept p a e h = unasked e
early_says said Repeat kept p a e h = repeats e
early_says said Pass kept p a e h = passes e (past_lower _ (replay_passed kept p a h)) (replay_passed kept p a h)

network_says : (said : LpnHeard) (bad own other part : Bool) (a : Answer) → Says said a
    → Says said (unwrap_or (cond bad (Some A.BadAddress) (cond own (Some A.Own) (cond other (Some A.NotMine) (cond part (Some (A.LowPower P.Segmented)) None)))) a)
network_says said true own other part a h = below refl refl
network_says said false true other part a h = below refl refl
network_says said false false true part a h = below refl refl
network_says said false false false true a h = below refl refl
network_says said false false false false a h = h

abbrev said_of : Past → Reading → LpnHeard
said_of past r = heard_as (state_of past) (is_some r.by.lpn) (name_of r.fields)

transport_says : (past : Past) (r : Reading) (low : Option Lower) (opening : Option Opening) → Says (said_of past r) (transport_answer past r low opening)
transport_says past r None opening = below refl refl
transport_says past r (Some low) opening =
    early_says (said_of past r) (said_of past r) _ (pair_of r.fields) _ refl (whole_passed past r low (name_of r.fields) opening)

pdu_says : (past : Past) (r : Reading) (low : Option Lower) (opening : Option Opening) → Says (said_of past r) (pdu_answer past (OfPdu (Some r) low opening))
pdu_says past r low opening = network_says (said_of past r) _ _ _ _ _ (transport_says past r low opening)

and_false : (b : Bool) → (b && false) ≡ false
and_false true = refl
and_false false = refl

and_true : (b : Bool) → (b && true) ≡ b
and_true true = refl
and_true false = refl

not_unasked : (b : Bool) → answers b Unasked ≡ false
not_unasked b = refl

heard_closes : (st : LowPowerState) (r : Reading) (a : Answer) → Says (heard_as st (is_some r.by.lpn) (name_of r.fields)) a
    → closings st (heard_calls r a) ≡ one (is_some r.by.lpn && is_passed a)
heard_closes st r a (below h k) =
    rw (h, k, and_false (is_some r.by.lpn)) (offers_close_none st r a)
heard_closes st r _ (unasked e) = rw (e, and_false (is_some r.by.lpn)) refl
heard_closes st r _ (repeats e) = rw (e, and_false (is_some r.by.lpn)) refl
heard_closes st r a (passes e h k) =
    let call : LpnCall = hear (is_some r.by.lpn) (name_of r.fields) in
    let none = offers_close_none (after st call) r a in
    rw (h, k, and_true (is_some r.by.lpn), none) (rw e (omega arith))

entry_closes : (past : Past) (event : Event) (insight : Insight) (answer : Answer) → Sees past event insight → answer ≡ answer_of past event insight
    → closings (state_of past) (event_calls event insight answer) ≡ one (is_answer insight answer)
unfolding answer_of
entry_closes past _ _ answer (sees_pdu {reading = Some r} {low = low} {opening = opening} h l o) e =
    heard_closes (state_of past) r answer (subst (λ a. Says (said_of past r) a) (sym e) (pdu_says past r low opening))
entry_closes past _ _ answer (sees_pdu {reading = None} {low = low} {opening = opening} h l o) e = refl
entry_closes past _ _ answer (sees_nothing {event = E.LowPower what} h) e = of_told what
  where
    of_told : (what : LowPowerEvent) → closings (state_of past) (told_calls what) ≡ 0
    of_told W.Seek = refl
    of_told W.Poll = refl
    of_told (W.List a) = refl
entry_closes past _ _ answer (sees_nothing {event = E.Net octets} h) e = refl
entry_closes past _ _ answer (sees_nothing {event = _} h) e = refl

-- What an entry sends.

-- The last of these calls sends a Poll with this FSN; those before it close no Poll, and are no Friend Requests.
record Sends (st : LowPowerState) (calls : List LpnCall) (fsn : Bool) : Type 0 where
  front : List LpnCall
  call : LpnCall
  are : calls ≡ front ++ call ∷ []
  sends : polls.SendsPoll (fold after st front) call fsn
  quiet : closings st front ≡ 0
  calm : has_seek front ≡ false

abbrev Polled : LowPowerState → List LpnCall → LpnJob → Type 0
Polled st calls job = (fsn : Bool) → job.tpdu ≡ control_text (C.Poll fsn) → Sends st calls fsn

last_sends : (st : LowPowerState) (front : List LpnCall) (call : LpnCall) → closings st front ≡ 0 → has_seek front ≡ false
    → (o : Option LpnJob) → sent (fold after st front) call ≡ o → Every (Polled st (front ++ call ∷ [])) (option_to_list o)
last_sends st front call q c None e = tt
last_sends st front call q c (Some job) e =
    (λ fsn t. record { front = front; call = call; are = refl; sends = (job, e, t); quiet = q; calm = c }, tt)

one_sends : (st : LowPowerState) (call : LpnCall) → Every (Polled st (call ∷ [])) (sent_by st (call ∷ []))
one_sends st call = rw append-nil (last_sends st [] call refl refl (sent st call) refl)

never : (h : LpnHeard) → answers false h ≡ false
never Unasked = refl
never Repeat = refl
never Pass = refl

offer_sends : (st : LowPowerState) (n : Name) (call : LpnCall) (lpn : Option Address)
    → Every (Polled st (hear (is_some lpn) n ∷ cond (is_none lpn) (call ∷ []) [])) (sent_by st (hear (is_some lpn) n ∷ cond (is_none lpn) (call ∷ []) []))
offer_sends st n call None =
    let quiet : closings st (hear false n ∷ []) ≡ 0 = rw (never (heard_as st false n)) refl in
    rw append-nil (last_sends st (hear false n ∷ []) call quiet refl (sent (after st (hear false n)) call) refl)
offer_sends st n call (Some a) = tt

heard_sends : (st : LowPowerState) (r : Reading) (a : Answer) → Every (Polled st (heard_calls r a)) (sent_by st (heard_calls r a))
heard_sends st r (A.Control name dst opcode params) = of_message (control_of opcode params)
  where
    of_message : (m : ControlMsg)
        → Every (Polled st (hear (is_some r.by.lpn) (name_of r.fields) ∷ offer_calls r m)) (sent_by st (hear (is_some r.by.lpn) (name_of r.fields) ∷ offer_calls r m))
    of_message (C.Offer o) = offer_sends st (name_of r.fields) (offer r.fields.src o.friend_counter) r.by.lpn
    of_message _ = tt
heard_sends st r (A.LowPower P.Unasked) = tt
heard_sends st r (A.LowPower P.Repeat) = tt
heard_sends st r (A.LowPower _) = tt
heard_sends st r _ = tt

event_sends : (st : LowPowerState) (event : Event) (insight : Insight) (answer : Answer)
    → Every (Polled st (event_calls event insight answer)) (sent_by st (event_calls event insight answer))
event_sends st (E.LowPower W.Seek) insight answer = one_sends st seek
event_sends st (E.LowPower W.Poll) insight answer = one_sends st poll
event_sends st (E.LowPower (W.List a)) insight answer = one_sends st (list a)
event_sends st (E.Net octets) (OfPdu (Some r) low opening) answer = heard_sends st r answer
event_sends st (E.Net octets) _ answer = tt
event_sends st _ insight answer = tt

abbrev PolledJob : LowPowerState → List LpnCall → Job → Type 0
PolledJob st calls job = (fsn : Bool) → IsPoll fsn job → Sends st calls fsn

entry_sends : (past : Past) (c : Config) (event : Event) (insight : Insight) (answer : Answer)
    → Every (PolledJob (state_of past) (event_calls event insight answer)) (jobs_of past c event insight answer)
unfolding jobs_of
entry_sends past c event insight answer =
    let st = state_of past in
    let calls = event_calls event insight answer in
    every_flat (Polled st calls) (PolledJob st calls) (jobs_under c)
    (λ job polled. every_made (PolledJob st calls) (control_job c job) (λ net fsn t. polled fsn t) (own_nets c))
    (sent_by st calls) (event_sends st event insight answer)

poll_sends : (past : Past) (t : Told) (fsn : Bool) → Handles low_power_role past t → SendsPoll t fsn → Sends (state_of past) (calls_in t) fsn
poll_sends past t fsn h s =
    let good : Every (PolledJob (state_of past) (calls_in t)) t.entry.jobs =
    subst (λ jobs. Every (PolledJob (state_of past) (calls_in t)) jobs) (sym h.jobs) (entry_sends past _ t.entry.event t.insight t.entry.answer) in
    All-contains (PolledJob (state_of past) (calls_in t)) t.entry.jobs s.job
    (All-from_recursion (PolledJob (state_of past) (calls_in t)) t.entry.jobs good) s.is_job fsn s.poll

-- Entries that are no Friend Requests.

heard_calm : (r : Reading) (a : Answer) → has_seek (heard_calls r a) ≡ false
heard_calm r (A.Control name dst opcode params) = of_message (control_of opcode params)
  where
    by_master : (b : Bool) (from : Address) (counter : ℕ) → has_seek (cond b (offer from counter ∷ []) []) ≡ false
    by_master true from counter = refl
    by_master false from counter = refl

    of_message : (m : ControlMsg) → has_seek (offer_calls r m) ≡ false
    of_message (C.Offer o) = by_master (is_none r.by.lpn) r.fields.src o.friend_counter
    of_message _ = refl
heard_calm r (A.LowPower P.Unasked) = refl
heard_calm r (A.LowPower P.Repeat) = refl
heard_calm r (A.LowPower _) = refl
heard_calm r _ = refl

event_calm : (event : Event) (insight : Insight) (answer : Answer) → is_seek event ≡ false → has_seek (event_calls event insight answer) ≡ false
event_calm (E.LowPower W.Seek) insight answer h = absurd cc
event_calm (E.LowPower W.Poll) insight answer h = refl
event_calm (E.LowPower (W.List a)) insight answer h = refl
event_calm (E.Net octets) (OfPdu (Some r) low opening) answer h = heard_calm r answer
event_calm (E.Net octets) _ answer h = refl
event_calm _ insight answer h = refl

many_calm : (ts : List Told) → list_any (λ t. is_seek t.entry.event) ts ≡ false → has_seek (flat_map calls_in ts) ≡ false
many_calm [] h = refl
many_calm (t ∷ ts) h =
    let parts = or_parts (is_seek t.entry.event) (list_any (λ (x : Told). is_seek x.entry.event) ts) h in
    seek_append (calls_in t) (flat_map calls_in ts) (event_calm t.entry.event t.insight t.entry.answer parts.0) (many_calm ts parts.1)

-- The life.

module _ (over : List StoreRecord) where
  abbrev state : List Told → LowPowerState
  state told = life_state (config_of over).unicast (config_of over).elements told

  many_close : (before between rest : List Told) → AreHandled low_power_role over [] (before ++ (between ++ rest))
      → closings (state before) (flat_map calls_in between) ≡ count_by closes between
  many_close before [] rest h = refl
  many_close before (t ∷ ts) rest h =
      let here : At over before t = at over [] before t (ts ++ rest) h in
      let one_here : closings (state before) (calls_in t) ≡ one (closes t) =
      ap (λ s. closings s (calls_in t)) (sym (state_at over before t here.rose))
      ∙ entry_closes (past_of before t) t.entry.event t.insight t.entry.answer here.handled.sees here.handled.answer in
      let more : closings (state (before ++ t ∷ [])) (flat_map calls_in ts) ≡ count_by closes ts =
      many_close (before ++ t ∷ []) ts rest
      (subst (λ l. AreHandled low_power_role over [] l) (sym (append_assoc before (t ∷ []) (ts ++ rest))) h) in
      let rest_closes : closings (fold after (state before) (calls_in t)) (flat_map calls_in ts) ≡ count_by closes ts =
      ap (λ s. closings s (flat_map calls_in ts)) (sym (goes_on (config_of over).unicast (config_of over).elements before t)) ∙ more in
      closings_append (state before) (calls_in t) (flat_map calls_in ts)
      ∙ ap (λ n. n + closings (fold after (state before) (calls_in t)) (flat_map calls_in ts)) one_here
      ∙ ap (λ n. one (closes t) + n) rest_closes
      ∙ sym (sum_by-cons (λ (x : Told). one (closes x)) t ts)

joined : (b f m g k whole : List LpnCall) (call : LpnCall) → k ≡ f ++ call ∷ [] → whole ≡ b ++ (k ++ m)
    → (b ++ f) ++ call ∷ (m ++ g) ≡ whole ++ g
joined b f m g k whole call e w =
    rw (w, e, append_assoc b f (call ∷ (m ++ g)), append_assoc b ((f ++ call ∷ []) ++ m) g, append_assoc (f ++ call ∷ []) m g, append_assoc f (call ∷ []) (m ++ g)) refl

pub fsn : polls.FsnCountsAnswers → FsnCountsAnswers
fsn law plan over l next life before between rest first second f g is a b calm =
    let own = (config_of over).unicast in
    let elements = (config_of over).elements in
    let at_once : AreHandled low_power_role over [] ((before ++ first ∷ between) ++ second ∷ rest) =
    subst (λ ts. AreHandled low_power_role over [] ts) is life.handled in
    let handled : AreHandled low_power_role over [] (before ++ (first ∷ (between ++ second ∷ rest))) =
    subst (λ ts. AreHandled low_power_role over [] ts) (append_assoc before (first ∷ between) (second ∷ rest)) at_once in
    let at_first : At over before first = at over [] before first (between ++ second ∷ rest) handled in
    let at_second : At over (before ++ first ∷ between) second =
    at over [] (before ++ first ∷ between) second rest at_once in
    let s : Sends (life_state own elements before) (calls_in first) f =
    subst (λ st. Sends st (calls_in first) f) (state_at over before first at_first.rose) (poll_sends (past_of before first) first f at_first.handled a) in
    let t : Sends (life_state own elements (before ++ first ∷ between)) (calls_in second) g =
    subst (λ st. Sends st (calls_in second) g) (state_at over (before ++ first ∷ between) second at_second.rose)
    (poll_sends (past_of (before ++ first ∷ between) second) second g at_second.handled b) in
    let calls = flat_map calls_in before in
    let inside = flat_map calls_in between in
    let first_polls : polls.SendsPoll (lpn own elements (calls ++ s.front)) s.call f =
    subst (λ st. polls.SendsPoll st s.call f) (sym (more_calls own elements before s.front)) s.sends in
    let second_calls : (calls ++ s.front) ++ s.call ∷ (inside ++ t.front) ≡ flat_map calls_in (before ++ first ∷ between) ++ t.front =
    joined calls s.front inside t.front (calls_in first) _ s.call s.are (flat_map-append calls_in before (first ∷ between)) in
    let second_polls : polls.SendsPoll (lpn own elements ((calls ++ s.front) ++ s.call ∷ (inside ++ t.front))) t.call g =
    subst (λ st. polls.SendsPoll st t.call g)
    (sym (ap (λ cs. lpn own elements cs) second_calls ∙ more_calls own elements (before ++ first ∷ between) t.front)) t.sends in
    let after_first : lpn own elements ((calls ++ s.front) ++ s.call ∷ []) ≡ life_state own elements (before ++ first ∷ []) =
    ap (λ cs. lpn own elements cs)
    (joined calls s.front [] [] (calls_in first) _ s.call s.are (flat_map-append calls_in before (first ∷ [])) ∙ append-nil _) in
    let to_second : fold after (life_state own elements (before ++ first ∷ [])) inside ≡ life_state own elements (before ++ first ∷ between) =
    sym (more_calls own elements (before ++ first ∷ []) inside)
    ∙ ap (λ cs. fold after (no_friend own elements) cs)
    (sym (flat_map-append calls_in (before ++ first ∷ []) between) ∙ ap (λ ts. flat_map calls_in ts) (append_assoc before (first ∷ []) between)) in
    let inside_close : closings (life_state own elements (before ++ first ∷ [])) inside ≡ count_by closes between =
    many_close over (before ++ first ∷ []) between (second ∷ rest)
    (subst (λ ts. AreHandled low_power_role over [] ts) (sym (append_assoc before (first ∷ []) (between ++ second ∷ rest))) handled) in
    let none_more : closings (fold after (life_state own elements (before ++ first ∷ [])) inside) t.front ≡ 0 =
    ap (λ st. closings st t.front) to_second ∙ t.quiet in
    let count : closings (lpn own elements ((calls ++ s.front) ++ s.call ∷ [])) (inside ++ t.front) ≡ count_by closes between =
    ap (λ st. closings st (inside ++ t.front)) after_first
    ∙ closings_append (life_state own elements (before ++ first ∷ [])) inside t.front
    ∙ omega (arith, inside_close, none_more) in
    subst (λ n. (f ≡ g) ↔ (n % 2 ≡ 0)) count
    (law own elements (calls ++ s.front) (inside ++ t.front) s.call t.call f g first_polls
    (seek_append inside t.front (many_calm between calm) t.calm) second_polls)
