-- The calls that an entry makes are its step.
use Rattle.std.proofs.Common.{◌≡◌, ◌∙◌, Bool, true, false, cond, List, [], ◌∷◌, ◌++◌, refl, sym, ap, Option, Some, None}
use Rattle.std.specs.Prelude.{fold, map, filter}
use Rattle.std.specs.Option.{option_map_or}
use Rattle.std.proofs.lemmas.List.{map-append}
use Rattle.std.proofs.lemmas.List.Elements.{filter-append}
use Rattle.std.proofs.lemmas.List.Sums.{fold-append}
use Rattle.layer_states.specs.Friends.{FriendCall, FriendsState, after, end_all, put_own}
use Rattle.layer_states.specs.declared.friends.OwnShort.{OwnShort}
use Rattle.mesh_types.specs.declared.answers.Answer.{Answer}
use Rattle.mesh_types.specs.declared.answers.Answer.TheVariants as A
use Rattle.mesh_types.specs.declared.history.Entry.{Entry}
use Rattle.node_friends.specs.Steps.{BeginWith, GoOn, SentInTurn, Stay, after_heard, answer_step, friends_step, has_heard, has_step, heard_step, message_step}
use Rattle.node_layers.proofs.Steps.{friends_go_on}
use Rattle.node_layers.specs.Configuration.{ends_friendships}
use Rattle.node_layers.specs.Friendship.{act_of, calls_by_answer, calls_of_message, config_after, ended_calls, friends_with, heard_by, heard_calls, if_so, is_short, own_short, replies_to, stored}
use Rattle.node_layers.specs.Models.{delivered_by}
use Rattle.record_types.specs.declared.records.StoreRecord.{StoreRecord}
use Rattle.event_definitions.specs.Answers.{config_before, is_before_cache}
use Rattle.event_definitions.specs.Handling.{past_of}
use Rattle.event_definitions.specs.History.{Insight, OfBeacon, OfNothing, OfPdu, Past, Reading, Told}
use Rattle.event_definitions.specs.Layers.{AccessMessage}

-- A PDU heard.

heard_where : (b : Bool) (st : FriendsState) (r : Reading) → cond b st (after_heard st r) ≡ fold after st (cond b [] (heard_calls r))
heard_where true st r = refl
heard_where false st r = refl

heard_is : (st : FriendsState) (insight : Insight) (answer : Answer) → heard_step st insight answer ≡ fold after st (heard_by insight answer)
heard_is st (OfPdu (Some r) low opening) answer = heard_where (is_before_cache answer) st r
heard_is st (OfPdu None low opening) answer = refl
heard_is st (OfBeacon b) answer = refl
heard_is st OfNothing answer = refl

-- A message that was delivered.

ended_is : (b : Bool) (st : FriendsState) → cond b (after st end_all) st ≡ fold after st (cond b (end_all ∷ []) [])
ended_is true st = refl
ended_is false st = refl

message_is : (past : Past) (st : FriendsState) (m : AccessMessage) → message_step past st m ≡ fold after st (calls_of_message past st m)
message_is past st m =
    let sent = stored (map (own_short (config_after (config_before past) (act_of past st m)) m) (replies_to past st m)) in
    ap (λ (s : FriendsState). fold after s sent) (ended_is (ends_friendships (config_before past) m) st)
    ∙ sym (fold-append after st (ended_calls (config_before past) m) sent)

delivered_is : (past : Past) (st : FriendsState) (o : Option AccessMessage)
    → option_map_or (message_step past st) o st ≡ fold after st (option_map_or (calls_of_message past st) o [])
delivered_is past st None = refl
delivered_is past st (Some m) = message_is past st m

-- Any answer.

abbrev told_of : Entry → Insight → List StoreRecord → Told
told_of entry insight records = record { entry = entry; insight = insight; records = records }

answer_is : (past : Past) (st : FriendsState) (entry : Entry) (insight : Insight) (records : List StoreRecord) (answer : Answer)
    → answer_step past st (told_of entry insight records) answer ≡ fold after st (calls_by_answer past st (told_of entry insight records) answer)
answer_is past st entry (OfPdu (Some r) low opening) records (A.Control name dst opcode params) = refl
answer_is past st entry (OfPdu None low opening) records (A.Control name dst opcode params) = refl
answer_is past st entry (OfBeacon b) records (A.Control name dst opcode params) = refl
answer_is past st entry OfNothing records (A.Control name dst opcode params) = refl
answer_is past st entry insight records (A.Delivered name dst key payload) = delivered_is past st (delivered_by (told_of entry insight records))
answer_is past st entry insight records _ = refl

step_is : (st : FriendsState) (past : Past) (e : Told) → friends_step st past e ≡ friends_with st past e
step_is st past e =
    ap (λ (s : FriendsState). answer_step past s e e.entry.answer) (heard_is st e.insight e.entry.answer)
    ∙ answer_is past (fold after st (heard_by e.insight e.entry.answer)) e.entry e.insight e.records e.entry.answer

pub goes_on : GoOn
goes_on st told e h =
    step_is st (past_of told e) e
    ∙ ap (λ (s : FriendsState). friends_with s (past_of told e) e) h
    ∙ sym (friends_go_on told e [])

pub begins : BeginWith
begins = refl

-- An entry that has no step.

heard_stays : (st : FriendsState) (insight : Insight) (answer : Answer) → has_heard insight answer ≡ false → heard_step st insight answer ≡ st
heard_stays st (OfPdu (Some r) low opening) answer h =
    (elim (is_before_cache answer) as (λ b. cond b false true ≡ false → cond b st (after_heard st r) ≡ st) [
      | true ↦ λ u. refl
      | false ↦ λ u. cc
    ]) h
heard_stays st (OfPdu None low opening) answer h = refl
heard_stays st (OfBeacon b) answer h = refl
heard_stays st OfNothing answer h = refl

answer_stays : (past : Past) (st : FriendsState) (e : Told) (answer : Answer) → has_step answer ≡ false → answer_step past st e answer ≡ st
answer_stays past st e (A.Control name dst opcode params) h = cc
answer_stays past st e (A.Delivered name dst key payload) h = cc
answer_stays past st e A.Planned h = cc
answer_stays past st e A.Kept h = cc
answer_stays past st e (A.Ticked now) h = cc
answer_stays past st e _ h = refl

pub none_stay : Stay
none_stay st told e heard answer h =
    sym (ap (λ (s : FriendsState). answer_step (past_of told e) s e e.entry.answer) (heard_stays st e.insight e.entry.answer heard)
    ∙ answer_stays (past_of told e) st e e.entry.answer answer)
    ∙ goes_on st told e h

-- Messages in turn.

pub stored_more : (xs ys : List OwnShort) → stored (xs ++ ys) ≡ stored xs ++ stored ys
stored_more xs ys =
    let short : OwnShort → Bool = λ m. is_short m.payload in
    ap (λ l. map put_own l) (filter-append short xs ys) ∙ map-append put_own (filter short xs) (filter short ys)

pub sent_in_turn : SentInTurn
sent_in_turn st messages m =
    ap (λ (calls : List FriendCall). fold after st calls) (stored_more messages (m ∷ [])) ∙ fold-append after st (stored messages) (stored (m ∷ []))

-- A call that is made, where a test says so.
pub asked : (b : Bool) (st : FriendsState) (call : FriendCall) → b ≡ true → after st call ≡ fold after st (if_so b call ++ [])
asked true st call e = refl
asked false st call e = cc
