-- What the entries of a life do with friendships, and what control messages ask to be sent.
use Rattle.std.proofs.Common.{◌≡◌, ℕ, ◌-◌, Bool, true, false, eqb, List, [], ◌∷◌, ◌++◌, map, filter, fold, refl, subst, Option, Some, None, is_none}
use Rattle.std.specs.Bool.{⊤}
use Rattle.std.specs.List.{AllByRecursion as Every}
use Rattle.std.specs.Option.{option_map_or, option_to_list}
use Rattle.layer_definitions.specs.Control.{control_text}
use Rattle.layer_definitions.specs.ControlReading.{control_of}
use Rattle.layer_definitions.specs.KeyRefresh.{net_row}
use Rattle.layer_definitions.specs.Network.{net_text}
use Rattle.layer_states.specs.Friends.{FriendCall, FriendsState, after, clear, end_all, list_add, list_remove, offered, poll, poll_result, put, put_own, request}
use Rattle.layer_states.specs.declared.friends.OwnShort.{OwnShort}
use Rattle.layer_states.specs.declared.friends.PollAnswer.{PollAnswer}
use Rattle.layer_states.specs.declared.friends.PollAnswer.TheVariants as P
use Rattle.mesh_base.specs.declared.address.Address.{Address}
use Rattle.mesh_base.specs.declared.control.ControlMsg.{ControlMsg}
use Rattle.mesh_base.specs.declared.control.ControlMsg.TheVariants as C
use Rattle.mesh_base.specs.declared.control.Request.{Request}
use Rattle.mesh_base.specs.declared.fields.NetFields.{NetFields}
use Rattle.mesh_base.specs.declared.fields.NetMaterial.{NetMaterial}
use Rattle.mesh_base.specs.declared.keys.UpperKey.{UpperKey}
use Rattle.mesh_base.specs.declared.pair.Name.{Name}
use Rattle.mesh_types.specs.declared.answers.Answer.{Answer}
use Rattle.mesh_types.specs.declared.answers.Answer.TheVariants as A
use Rattle.mesh_types.specs.declared.events.Event.{Event}
use Rattle.mesh_types.specs.declared.events.Event.TheVariants as E
use Rattle.mesh_types.specs.declared.jobs.Job.{Job}
use Rattle.mesh_types.specs.declared.jobs.Job.TheVariants as J
use Rattle.node_layers.specs.Configuration.{ends_friendships}
use Rattle.node_layers.specs.Friendship.{act_of, answer_jobs, answered_calls, calls_by_answer, calls_of_message, clear_jobs, cleared_jobs, config_after, confirm_jobs, control_calls, control_jobs, ended_calls, friends, friends_from, friends_with, heard_by, heard_calls, if_so, is_by_friend, is_by_master, is_request, is_short, jobs_of_control, kept_calls, no_friends, offer_jobs, own_control, own_short, poll_jobs, publication_short, replies_to, send_calls, stored, stored_octets}
use Rattle.node_layers.specs.Models.{delivered_by}
use Rattle.node_layers.specs.Publishing.{publications_due}
use Rattle.event_definitions.specs.Answers.{config_before, is_before_cache, name_of}
use Rattle.event_definitions.specs.Handling.{past_of}
use Rattle.event_definitions.specs.History.{Insight, OfBeacon, OfNothing, OfPdu, Past, Reading, Told, now_of}
use Rattle.event_definitions.specs.Jobs.{element_address, send_keys}
use Rattle.event_definitions.specs.Layers.{AccessMessage, ControlMessage}
use Rattle.event_definitions.proofs.Each.{every_append}
use Rattle.store_definitions.specs.Config.{Config}
use Rattle.layer_laws.proofs.Friends.{GoodAnswer, GoodCall, GoodResult, GoodState, calls_good, result_good}
use Rattle.layer_laws.proofs.Lists.{by_test, every_filter, every_flat_any, every_mapped, every_pick, option_cases, result_cases}
use Rattle.layer_laws.proofs.Parts.{every_under}

-- what an entry has heard, kept and sent
module _ (H : NetFields → Type 0) (K : Name → List ℕ → Type 0) (O : OwnShort → Type 0) (lowered : (f : NetFields) (ttl : ℕ) → H f → H (record f { ttl = ttl }))
    (texts : (m : NetMaterial) (f : NetFields) → H f → K (name_of f) (net_text m f)) where
  abbrev Good : FriendCall → Type 0
  Good call = GoodCall H K O lowered call

  abbrev State : FriendsState → Type 0
  State st = GoodState H K O lowered st

  -- the PDU that an entry heard, and what it noted
  abbrev pub HeardGood : Insight → Answer → Type 0
  HeardGood (OfPdu (Some r) low opening) answer = is_before_cache answer ≡ false → H r.fields
  HeardGood _ answer = ⊤

  abbrev pub KeptGood : Event → Type 0
  KeptGood (E.Kept lpn fsn name pdu) = K name pdu
  KeptGood _ = ⊤

  -- messages of this node: those that it was asked to send, its replies, and what it publishes
  abbrev pub SendGood : Config → Event → Type 0
  SendGood c (E.Send element dst ttl key payload) =
      (keys : ℕ × UpperKey) → O (record { net = keys.0; key = keys.1; ttl = ttl; src = element_address c element; dst = dst; payload = payload })
  SendGood c _ = ⊤

  pub record EntryGood (past : Past) (t : Told) : Type 0 where
    pub heard : HeardGood t.insight t.entry.answer
    pub kept : t.entry.answer ≡ A.Kept → KeptGood t.entry.event
    pub sent : SendGood (config_before past) t.entry.event
    pub replied : (st : FriendsState) (m : AccessMessage) → Every O (map (own_short (config_after (config_before past) (act_of past st m)) m) (replies_to past st m))
    pub publishes : (ticks : ℕ) → Every O (map publication_short (publications_due past (config_before past) ticks))

  heard_good : (insight : Insight) (answer : Answer) → HeardGood insight answer → Every Good (heard_by insight answer)
  heard_good (OfPdu (Some r) low opening) answer h = by_test (Every Good) (is_before_cache answer) [] (heard_calls r) (λ e. tt) (λ e. every_pick Good (is_none r.by.lpn) (put r.fields ∷ []) [] (h e, tt) tt)
  heard_good (OfPdu None low opening) answer h = tt
  heard_good (OfBeacon b) answer h = tt
  heard_good OfNothing answer h = tt

  so_good : (b : Bool) (call : FriendCall) → Good call → Every Good (if_so b call)
  so_good true call g = (g, tt)
  so_good false call g = tt

  control_good : (now : ℕ) (c : Config) (r : Reading) (m : ControlMsg) → Every Good (control_calls now c r m)
  control_good now c r (C.Poll fsn) = so_good (is_by_friend r) (poll now r.fields.src fsn) tt
  control_good now c r (C.Request q) = every_flat_any Good _ (λ net. so_good (is_request c r) (request now net (element_address c 0) r.fields.src q) tt) (option_to_list (net_row c.nets r.by.index))
  control_good now c r (C.Clear l) = so_good (is_by_master r) (clear l.lpn l.lpn_counter) tt
  control_good now c r (C.ListAdd l) = so_good (is_by_friend r) (list_add now r.fields.src l.addresses) tt
  control_good now c r (C.ListRemove l) = so_good (is_by_friend r) (list_remove now r.fields.src l.addresses) tt
  control_good now c r _ = tt

  octets_good : (m : NetMaterial) (fsn : Bool) (lpn : Address) (a : PollAnswer) → GoodAnswer H K O lowered a → Every Good (stored_octets m fsn lpn a)
  octets_good m fsn lpn (P.Stored f) g = (texts m f g, tt)
  octets_good m fsn lpn _ g = tt

  answered_good : (st : FriendsState) (now : ℕ) (r : Reading) (m : ControlMsg) → State st → Every Good (answered_calls st now r m)
  answered_good st now r (C.Poll fsn) g =
      every_pick Good (is_by_friend r) _ []
      (result_cases _ (poll_result st.slots now r.fields.src fsn)
      (λ p e. rw e (octets_good r.by.material fsn r.fields.src p.answer (subst (GoodResult H K O lowered) e (result_good H K O lowered st.slots now r.fields.src fsn g))))
      (λ fault e. rw e tt))
      tt
  answered_good st now r _ g = tt

  own_good : (messages : List OwnShort) → Every O messages → Every Good (stored messages)
  own_good messages h = every_mapped O Good put_own (λ m k. k) (filter (λ m. is_short m.payload) messages) (every_filter O _ messages h)

  message_good : (past : Past) (t : Told) → EntryGood past t → (st : FriendsState) (m : AccessMessage) → Every Good (calls_of_message past st m)
  message_good past t e st m =
      every_append Good (ended_calls (config_before past) m) _ (every_pick Good (ends_friendships (config_before past) m) (end_all ∷ []) [] (tt, tt) tt)
      (own_good _ (e.replied st m))

  sends_good : (c : Config) (event : Event) → SendGood c event → Every Good (send_calls c event)
  sends_good c (E.Send element dst ttl key payload) g =
      option_cases _ (send_keys c key) (λ e. rw e tt) (λ keys e. rw e (own_good (record { net = keys.0; key = keys.1; ttl = ttl; src = element_address c element; dst = dst; payload = payload } ∷ []) (g keys, tt)))
  sends_good c _ g = tt

  kept_good : (event : Event) → KeptGood event → Every Good (kept_calls event)
  kept_good (E.Kept lpn fsn name pdu) g = (g, tt)
  kept_good _ g = tt

  answer_good : (past : Past) (t : Told) → EntryGood past t → (st : FriendsState) → State st → (answer : Answer) → t.entry.answer ≡ answer
      → Every Good (calls_by_answer past st t answer)
  answer_good past t e st g (A.Control name dst opcode params) a = by_insight t.insight
    where
      by_insight : (insight : Insight) → Every Good (calls_by_answer past st (record t { insight = insight }) (A.Control name dst opcode params))
      by_insight (OfPdu (Some r) low opening) =
          every_append Good (control_calls (now_of past.told) (config_before past) r (control_of opcode params)) _
          (control_good (now_of past.told) (config_before past) r (control_of opcode params)) (answered_good st (now_of past.told) r (control_of opcode params) g)
      by_insight (OfPdu None low opening) = tt
      by_insight (OfBeacon b) = tt
      by_insight OfNothing = tt
  answer_good past t e st g (A.Delivered name dst key payload) a =
      option_cases _ (delivered_by t) (λ d. rw d tt) (λ m d. rw d (message_good past t e st m))
  answer_good past t e st g A.Planned a = sends_good (config_before past) t.entry.event e.sent
  answer_good past t e st g A.Kept a = kept_good t.entry.event (e.kept a)
  answer_good past t e st g (A.Ticked now) a = (tt, own_good _ (e.publishes (now - now_of past.told)))
  answer_good past t e st g _ a = tt

  entry_state : (st : FriendsState) (past : Past) (t : Told) → EntryGood past t → State st → State (friends_with st past t)
  entry_state st past t e g =
      let heard : State (fold after st (heard_by t.insight t.entry.answer)) = calls_good H K O lowered st (heard_by t.insight t.entry.answer) (heard_good t.insight t.entry.answer e.heard) g in
      calls_good H K O lowered (fold after st (heard_by t.insight t.entry.answer)) (calls_by_answer past (fold after st (heard_by t.insight t.entry.answer)) t t.entry.answer) (answer_good past t e (fold after st (heard_by t.insight t.entry.answer)) heard t.entry.answer refl) heard

  -- the friendships that entries leave, where each is so after those before it
  abbrev pub EntriesGood : List Told → List Told → Type 0
  EntriesGood before [] = ⊤
  EntriesGood before (t ∷ ts) = EntryGood (past_of before t) t × EntriesGood (before ++ t ∷ []) ts

  entries_state : (st : FriendsState) (before ts : List Told) → EntriesGood before ts → State st → State (friends_from st before ts)
  entries_state st before [] h g = g
  entries_state st before (t ∷ ts) h g = entries_state (friends_with st (past_of before t) t) (before ++ t ∷ []) ts h.1 (entry_state st (past_of before t) t h.0 g)

  pub friends_good : (past : Past) → EntriesGood [] past.told → State (friends past)
  friends_good past h = entries_state no_friends [] past.told h tt

  -- What control messages ask to be sent, where `Fits` is so of the jobs that are made.
  module _ (c : Config) (Fits : Job → Type 0)
      (control_fits : (m : NetMaterial) (ttl : ℕ) (dst : Address) (tpdu : List ℕ) (kept : Option (Address × Bool)) → Fits (J.Control m ttl (element_address c 0) dst tpdu kept))
      (relay_fits : (m : NetMaterial) (f : NetFields) → H f → Fits (J.Relay m f))
      (own_fits : (m : NetMaterial) (o : OwnShort) (kept : Option (Address × Bool)) → O o → Fits (J.Message o.net m o.key o.ttl o.src o.dst o.payload kept))
      (repeat_fits : (name : Name) (pdu : List ℕ) → K name pdu → Fits (J.Repeat name pdu)) where
    answer_fits : (r : Reading) (fsn : Bool) (a : PollAnswer) → GoodAnswer H K O lowered a → Every Fits (answer_jobs c r fsn a)
    answer_fits r fsn P.Update g = (control_fits r.by.material 0 r.fields.src _ (Some (r.fields.src, fsn)), tt)
    answer_fits r fsn (P.Stored f) g = (relay_fits r.by.material f g, tt)
    answer_fits r fsn (P.Own m) g = (own_fits r.by.material m (Some (r.fields.src, fsn)) g, tt)
    answer_fits r fsn (P.Repeat name pdu) g = (repeat_fits name pdu g, tt)
    answer_fits r fsn P.Silent g = tt

    clear_fits : (r : Reading) (o : Option (Address × ℕ)) → Every Fits (clear_jobs c r o)
    clear_fits r None = tt
    clear_fits r (Some told) = every_under Fits c r.by.index _ (λ m. control_fits m c.ttl told.0 _ None)

    poll_fits : (st : FriendsState) (now : ℕ) (r : Reading) (fsn : Bool) → (is_by_friend r ≡ true → State st) → Every Fits (poll_jobs c st now r fsn)
    poll_fits st now r fsn g =
        by_test (Every Fits) (is_by_friend r) _ []
        (λ b. result_cases _ (poll_result st.slots now r.fields.src fsn)
        (λ p e. rw e (every_append Fits (answer_jobs c r fsn p.answer) (clear_jobs c r p.clear)
        (answer_fits r fsn p.answer (subst (GoodResult H K O lowered) e (result_good H K O lowered st.slots now r.fields.src fsn (g b)))) (clear_fits r p.clear)))
        (λ fault e. rw e tt))
        (λ b. tt)

    offer_fits : (st : FriendsState) (now : ℕ) (r : Reading) (q : Request) → Every Fits (offer_jobs c st now r q)
    offer_fits st now r q =
        every_pick Fits (is_request c r) _ []
        (result_cases _ (offered st now r.fields.src q)
        (λ o e. rw e (every_under Fits c r.by.index _ (λ m. control_fits m 0 r.fields.src _ None)))
        (λ fault e. rw e tt))
        tt

    confirm_fits : (st : FriendsState) (r : Reading) (transaction : ℕ) → Every Fits (confirm_jobs c st r transaction)
    confirm_fits st r transaction = by_test (Every Fits) _ (own_control c 0 r.fields.src (C.ListConfirm transaction) None r.by.material ∷ []) []
        (λ b. (control_fits r.by.material 0 r.fields.src (control_text (C.ListConfirm transaction)) None, tt)) (λ b. tt)

    cleared_fits : (st : FriendsState) (r : Reading) (lpn : Address) (counter : ℕ) → Every Fits (cleared_jobs c st r lpn counter)
    cleared_fits st r lpn counter = every_pick Fits _ _ [] (every_under Fits c r.by.index _ (λ m. control_fits m c.ttl r.fields.src _ None)) tt

    message_fits : (st : FriendsState) (now : ℕ) (r : Reading) (m : ControlMsg) → (is_by_friend r ≡ true → State st) → Every Fits (jobs_of_control c st now r m)
    message_fits st now r (C.Request q) g = offer_fits st now r q
    message_fits st now r (C.Poll fsn) g = poll_fits st now r fsn g
    message_fits st now r (C.ListAdd l) g = confirm_fits st r l.transaction
    message_fits st now r (C.ListRemove l) g = confirm_fits st r l.transaction
    message_fits st now r (C.Clear l) g = cleared_fits st r l.lpn l.lpn_counter
    message_fits st now r _ g = tt

    -- a PDU that came under the credentials of a friendship isn't stored itself
    by_friend : (lpn : Option Address) (src : Address) → option_map_or (λ (a : Address). eqb a.0 src.0) lpn false ≡ true → is_none lpn ≡ false
    by_friend None src e = cc
    by_friend (Some lpn) src e = refl

    pub control_jobs_fit : (past : Past) (m : ControlMessage) → State (friends past) → Every Fits (control_jobs past c m)
    control_jobs_fit past m g =
        message_fits (fold after (friends past) (heard_calls m.reading)) (now_of past.told) m.reading (control_of m.opcode m.params)
        (λ b. rw (by_friend m.reading.by.lpn m.reading.fields.src b) g)
