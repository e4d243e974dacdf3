-- A network PDU heard: what the calls leave is the step of its entry.
use Rattle.std.proofs.Common.{◌≡◌, ◌∙◌, ℕ, Bool, true, false, cond, List, [], ◌∷◌, ◌++◌, map, fold, refl, sym, ap, subst, Option, Some, None}
use Rattle.std.specs.Option.{option_map_or, option_to_list}
use Rattle.friend_steps.proofs.Delivered.{delivered_is}
use Rattle.friend_steps.specs.Hearing.{AreTaken, AreTakenBy, FriendsStandFor, IsActBy, control_left, message_left, replies_left}
use Rattle.mesh_hearing.specs.Heard.{delivered_from}
use Rattle.mesh_jobs.specs.Acting.{IsActIn}
use Rattle.mesh_jobs.specs.Replying.{AreRepliesTo, is_source_befriended, replies_sent}
use Rattle.friend_steps.specs.Replying.{ended, replied_left, reply_short}
use Rattle.config_definitions.specs.declared.acts.ConfigAct.{ConfigAct}
use Rattle.layer_definitions.specs.ControlReading.{control_of}
use Rattle.layer_states.specs.Friends.{FriendsState, after, end_all, is_befriended, poll_timeouts}
use Rattle.layer_states.specs.declared.friends.OwnShort.{OwnShort}
use Rattle.mesh_base.specs.declared.address.Address.{Address}
use Rattle.mesh_base.specs.declared.pair.Name.{Name}
use Rattle.mesh_types.specs.declared.answers.Answer.{Answer}
use Rattle.mesh_types.specs.declared.answers.Answer.TheVariants as A
use Rattle.mesh_types.specs.declared.events.Event.{Event}
use Rattle.mesh_types.specs.declared.events.Event.TheVariants as E
use Rattle.model_states.specs.Publication.{heartbeat_shown}
use Rattle.node_friends.specs.Steps.{AreFriendsOf, GoOn, after_control, after_sent, answer_step, control_step, friends_step, heard_step, message_step}
use Rattle.node_friends.specs.Acts.{friend_act}
use Rattle.node_friends.specs.declared.acts.FriendAct.{FriendAct}
use Rattle.node_layers.specs.Configuration.{config_act, ends_friendships}
use Rattle.node_layers.specs.Friendship.{act_of, config_after, ended_calls, friends, heard_calls, kept_calls, own_short, replies_to, send_calls}
use Rattle.node_layers.specs.Models.{delivered_by, model_replies}
use Rattle.node_layers.specs.Publishing.{published}
use Rattle.node_models.specs.Models.{KeepsAddress, is_ticked}
use Rattle.node_models.specs.Replies.{replies_in}
use Rattle.node_models.specs.declared.taken.MessageReplies.{MessageReplies}
use Rattle.node_records.specs.Meaning.{IsMeaningOf}
use Rattle.node_records.specs.Tables.{config_in}
use Rattle.node_records.specs.declared.persist.Persist.{Persist}
use Rattle.record_types.specs.declared.records.StoreRecord.{StoreRecord}
use Rattle.event_definitions.specs.Answers.{config_before}
use Rattle.event_definitions.specs.History.{Insight, OfBeacon, OfNothing, OfPdu, Past, Told, now_of}
use Rattle.event_definitions.specs.Layers.{AccessMessage}
use Rattle.event_definitions.specs.Stores.{message_of}
use Rattle.store_definitions.specs.Config.{Config}

-- What a control message led to.

pub act_in : (past : Past) (c : Config) (st : FriendsState) (now : ℕ) (insight : Insight) (answer : Answer) (act : FriendAct)
    → AreFriendsOf st past.told → now ≡ now_of past.told → IsActBy (heard_step st insight answer) c now insight answer act
    → IsActIn past c insight answer act
act_in past c st now (OfPdu (Some r) low opening) (A.Control name dst opcode params) act are time h =
    h
    ∙ ap (λ (s : FriendsState). friend_act c (fold after s (heard_calls r)) now r (control_of opcode params)) are
    ∙ ap (λ n. friend_act c (fold after (friends past) (heard_calls r)) n r (control_of opcode params)) time
act_in past c st now (OfPdu (Some r) low opening) _ act are time h = tt
act_in past c st now (OfPdu None low opening) _ act are time h = tt
act_in past c st now (OfBeacon b) _ act are time h = tt
act_in past c st now OfNothing _ act are time h = tt

-- The replies to a delivered message, of which those that are stored are left out.

ended_befriended : (ends : Bool) (st before : FriendsState) (a : Address) → is_befriended st.slots a ≡ is_befriended before.slots a
    → is_befriended (ended ends st).slots a ≡ is_befriended (fold after before (cond ends (end_all ∷ []) [])).slots a
ended_befriended true st before a h = refl
ended_befriended false st before a h = h

-- only a control message changes who is befriended
abbrev pub KeepsBefriended : FriendsState → FriendsState → Type 0
KeepsBefriended st before = (a : Address) → is_befriended st.slots a ≡ is_befriended before.slots a

module _ (past : Past) (st : FriendsState) (ttl : ℕ) (ends : Bool) (replies result : MessageReplies) (insight : Insight)
    (are : AreFriendsOf st past.told) where
  source_is : (m : AccessMessage) (heard : FriendsState) → KeepsBefriended heard st → AreTaken past m ttl ends replies
      → is_befriended (ended ends heard).slots m.name.src ≡ is_source_befriended past m
  source_is m heard keeps taken =
      ended_befriended ends heard st m.name.src (keeps m.name.src)
      ∙ ap (λ b. is_befriended (fold after st (cond b (end_all ∷ []) [])).slots m.name.src) taken.ends
      ∙ ap (λ (s : FriendsState). is_befriended (fold after s (ended_calls (config_before past) m)).slots m.name.src) are

  one_sent : (o : Option AccessMessage) (m : AccessMessage) (heard : FriendsState) → KeepsBefriended heard st
      → replies_in result
      ≡ option_map_or (λ (m : AccessMessage). replies_sent (is_befriended (ended ends heard).slots m.name.src) (replies_in replies)) o (replies_in replies)
      → o ≡ Some m → AreTaken past m ttl ends replies
      → replies_in result ≡ replies_sent (is_source_befriended past m) (replies_to past (friends past) m)
  one_sent None m heard keeps left e taken = absurd cc
  one_sent (Some n) m heard keeps left e taken =
      let same : n ≡ m = cc in
      left
      ∙ ap (λ (k : AccessMessage). replies_sent (is_befriended (ended ends heard).slots k.name.src) (replies_in replies)) same
      ∙ ap (λ b. replies_sent b (replies_in replies)) (source_is m heard keeps taken)
      ∙ ap (λ (rs : List (ℕ × List ℕ)). replies_sent (is_source_befriended past m) rs) taken.replies

  pub replies_are : (c : Config) (now : ℕ) (answer : Answer) (heard : FriendsState) → KeepsBefriended heard st
      → replies_in result ≡ replies_left (control_left heard c now insight answer) ends (replies_in replies) insight answer
      → AreTakenBy past insight answer ttl ends replies → AreRepliesTo past insight answer result
  replies_are c now (A.Delivered name dst key payload) heard keeps left taken =
      λ m is. one_sent (message_of insight name dst) m heard keeps left is (taken m is)
  replies_are c now _ heard keeps left taken = tt

-- The step of its entry.

-- replies see the PollTimeouts of friendships alone
same_act : (past : Past) (st before : FriendsState) (m : AccessMessage) → poll_timeouts st.slots ≡ poll_timeouts before.slots
    → act_of past st m ≡ act_of past before m
same_act past st before m e = ap (λ polls. config_act (config_before past) polls (heartbeat_shown (published past)) m) e

same_replies : (past : Past) (st before : FriendsState) (m : AccessMessage) → poll_timeouts st.slots ≡ poll_timeouts before.slots
    → replies_to past st m ≡ replies_to past before m
same_replies past st before m e = ap (λ (act : Option ConfigAct). replies_by past act m) (same_act past st before m e)
  where
    replies_by : Past → Option ConfigAct → AccessMessage → List (ℕ × List ℕ)
    replies_by past act m = map (λ (a : ConfigAct). (0, a.reply)) (option_to_list act) ++ model_replies past m

-- a reply is sent with the Default TTL behind the message
short_is : (c : Config) (unicast : Address) (ttl : ℕ) (m : AccessMessage) → c.unicast ≡ unicast → ttl ≡ c.ttl
    → reply_short unicast ttl m ≡ own_short c m
short_is c unicast ttl m at e =
    ap (λ (a : Address). reply_short a ttl m) (sym at) ∙ ap (λ n. reply_short c.unicast n m) e

message_is : KeepsAddress → (past : Past) (p : Persist) (st heard : FriendsState) (ttl : ℕ) (ends : Bool) (replies : MessageReplies) (m : AccessMessage)
    → IsMeaningOf past.records p → AreFriendsOf st past.told → poll_timeouts heard.slots ≡ poll_timeouts st.slots
    → AreTaken past m ttl ends replies
    → replied_left heard p.unicast ttl ends m (replies_in replies) ≡ message_step past heard m
message_is law past p st heard ttl ends replies m means are polls taken =
    let c : Config = config_before past in
    let same : poll_timeouts heard.slots ≡ poll_timeouts (friends past).slots =
    polls ∙ ap (λ (s : FriendsState). poll_timeouts s.slots) are in
    let behind : Config = config_after c (act_of past heard m) in
    let there : behind.unicast ≡ p.unicast = law past heard m ∙ sym (ap (λ (d : Config). d.unicast) means.config) in
    let with_ttl : ttl ≡ behind.ttl =
    taken.ttl ∙ sym (ap (λ (act : Option ConfigAct). (config_after c act).ttl) (same_act past heard (friends past) m same)) in
    ap (λ b. after_sent (ended b heard) (map (reply_short p.unicast ttl m) (replies_in replies))) taken.ends
    ∙ ap (λ (f : ℕ × List ℕ → OwnShort). after_sent (ended (ends_friendships c m) heard) (map f (replies_in replies)))
    (short_is behind p.unicast ttl m there with_ttl)
    ∙ ap (λ (rs : List (ℕ × List ℕ)). after_sent (ended (ends_friendships c m) heard) (map (own_short behind m) rs))
    (taken.replies ∙ sym (same_replies past heard (friends past) m same))

-- what the calls leave is the step
module _ (law : KeepsAddress) (past : Past) (p : Persist) (st : FriendsState) (now : ℕ) (stand : FriendsStandFor past p st now)
    (ttl : ℕ) (ends : Bool) (replies : MessageReplies) (insight : Insight) where
  control_is : (heard : FriendsState) (name : Name) (dst : Address) (opcode : ℕ) (params : List ℕ) (i : Insight)
      → control_left heard (config_in p) now i (A.Control name dst opcode params)
      ≡ control_step heard past i (control_of opcode params)
  control_is heard name dst opcode params (OfPdu (Some r) low opening) =
      ap (λ n. after_control heard n (config_in p) r (control_of opcode params)) stand.time
      ∙ ap (λ (c : Config). after_control heard (now_of past.told) c r (control_of opcode params)) stand.meaning.config
  control_is heard name dst opcode params (OfPdu None low opening) = refl
  control_is heard name dst opcode params (OfBeacon b) = refl
  control_is heard name dst opcode params OfNothing = refl

  message_by : (heard : FriendsState) (o found : Option AccessMessage) → found ≡ o → poll_timeouts heard.slots ≡ poll_timeouts st.slots
      → ((m : AccessMessage) → o ≡ Some m → AreTaken past m ttl ends replies)
      → option_map_or (λ m. replied_left heard p.unicast ttl ends m (replies_in replies)) o heard
      ≡ option_map_or (message_step past heard) found heard
  message_by heard None found e polls taken = sym (ap (λ o. option_map_or (message_step past heard) o heard) e)
  message_by heard (Some m) found e polls taken =
      message_is law past p st heard ttl ends replies m stand.meaning stand.friends polls (taken m refl)
      ∙ sym (ap (λ o. option_map_or (message_step past heard) o heard) e)

  answer_is : (e : Told) (octets : List ℕ) (answer : Answer) (heard : FriendsState) → e.insight ≡ insight → e.entry.event ≡ E.Net octets
      → delivered_by e ≡ delivered_from insight answer → poll_timeouts heard.slots ≡ poll_timeouts st.slots
      → AreTakenBy past insight answer ttl ends replies → is_ticked answer ≡ false
      → message_left (control_left heard (config_in p) now insight answer) p.unicast ttl ends (replies_in replies) insight answer
      ≡ answer_step past heard e answer
  answer_is e octets (A.Control name dst opcode params) heard same event delivers polls taken still =
      control_is heard name dst opcode params insight
      ∙ sym (ap (λ i. control_step heard past i (control_of opcode params)) same)
  answer_is e octets (A.Delivered name dst key payload) heard same event delivers polls taken still =
      message_by heard (message_of insight name dst) (delivered_by e) delivers polls taken
  answer_is e octets A.Planned heard same event delivers polls taken still =
      sym (ap (λ (ev : Event). fold after heard (send_calls (config_before past) ev)) event)
  answer_is e octets A.Kept heard same event delivers polls taken still =
      sym (ap (λ (ev : Event). fold after heard (kept_calls ev)) event)
  answer_is e octets (A.Ticked at) heard same event delivers polls taken still = absurd cc
  answer_is e octets _ heard same event delivers polls taken still = refl

  pub friends_are : GoOn → (e : Told) (octets : List ℕ) (answer : Answer) (heard new : FriendsState) → e.insight ≡ insight
      → e.entry.answer ≡ answer → e.entry.event ≡ E.Net octets → e.records ≡ past.records
      → heard ≡ heard_step st insight answer → poll_timeouts heard.slots ≡ poll_timeouts st.slots
      → AreTakenBy past insight answer ttl ends replies → is_ticked answer ≡ false
      → new ≡ message_left (control_left heard (config_in p) now insight answer) p.unicast ttl ends (replies_in replies) insight answer
      → AreFriendsOf new (past.told ++ e ∷ [])
  friends_are more e octets answer heard new same answered event records steps polls taken still left =
      subst (λ (s : FriendsState). AreFriendsOf s (past.told ++ e ∷ [])) (sym (
      left
      ∙ answer_is e octets answer heard same event (delivered_is e insight answer same answered) polls taken still
      ∙ ap (λ (h : FriendsState). answer_step past h e answer) steps
      ∙ sym (ap (λ (x : Answer). answer_step past (heard_step st insight x) e x) answered)
      ∙ sym (ap (λ (i : Insight). answer_step past (heard_step st i e.entry.answer) e e.entry.answer) same)
      ∙ sym (ap (λ (rs : List StoreRecord). friends_step st (record { told = past.told; records = rs }) e) records)
      ))
      (more st past.told e stand.friends)
