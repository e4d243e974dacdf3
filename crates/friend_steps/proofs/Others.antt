-- Entries that bring no network PDU: what they leave is their step.
use Rattle.std.proofs.Common.{◌≡◌, ◌∙◌, ℕ, Bool, true, false, List, [], ◌∷◌, ◌++◌, fold, refl, sym, ap, subst, Option, None}
use Rattle.friend_steps.specs.Others.{LeaveFriends, changes_friends, has_reading}
use Rattle.layer_states.specs.Friends.{FriendsState, after}
use Rattle.mesh_base.specs.declared.address.Address.{Address}
use Rattle.mesh_base.specs.declared.pair.Name.{Name}
use Rattle.mesh_types.specs.declared.answers.Answer.{Answer}
use Rattle.mesh_types.specs.declared.answers.Answer.TheVariants as A
use Rattle.mesh_types.specs.declared.events.Event.{Event}
use Rattle.mesh_types.specs.declared.events.Event.TheVariants as E
use Rattle.mesh_types.specs.declared.events.SendKey.{SendKey}
use Rattle.node_friends.specs.Steps.{AreFriendsOf, GoOn, answer_step, control_step, friends_step, heard_step, message_step}
use Rattle.mesh_jobs.specs.Own.{IsBefriended}
use Rattle.node_layers.specs.Friendship.{is_befriended, kept_calls, send_calls}
use Rattle.node_layers.specs.NodeLayers.{node_layers}
use Rattle.node_layers.specs.Models.{delivered_by}
use Rattle.node_models.specs.Models.{is_ticked}
use Rattle.record_types.specs.declared.records.StoreRecord.{StoreRecord}
use Rattle.event_definitions.specs.Answers.{config_before}
use Rattle.event_definitions.specs.Handling.{past_of}
use Rattle.event_definitions.specs.History.{Insight, OfBeacon, OfNothing, OfPdu, Past, Told}
use Rattle.friend_steps.proofs.Delivered.{delivered_is}
use Rattle.mesh_hearing.specs.Heard.{delivered_from}
use Rattle.store_definitions.specs.Config.{Config}
use Rattle.std.specs.Option.{option_map_or}
use Rattle.layer_definitions.specs.ControlReading.{control_of}
use Rattle.event_definitions.specs.Layers.{AccessMessage}

-- An entry whose octets aren't those of a network PDU delivers no message.
none_delivered : (i : Insight) (a : Answer) → has_reading i ≡ false → delivered_from i a ≡ None
none_delivered (OfPdu r low opening) a h = cc
none_delivered (OfBeacon b) (A.Delivered name dst key payload) h = refl
none_delivered (OfBeacon b) _ h = refl
none_delivered OfNothing (A.Delivered name dst key payload) h = refl
none_delivered OfNothing _ h = refl

control_stays : (st : FriendsState) (past : Past) (i : Insight) (name : Name) (dst : Address) (opcode : ℕ) (params : List ℕ)
    → has_reading i ≡ false → control_step st past i (control_of opcode params) ≡ st
control_stays st past (OfPdu r low opening) name dst opcode params h = cc
control_stays st past (OfBeacon b) name dst opcode params h = refl
control_stays st past OfNothing name dst opcode params h = refl

pub heard_stays : (st : FriendsState) (i : Insight) (a : Answer) → has_reading i ≡ false → heard_step st i a ≡ st
heard_stays st (OfPdu r low opening) a h = cc
heard_stays st (OfBeacon b) a h = refl
heard_stays st OfNothing a h = refl

delivered_stays : (past : Past) (st : FriendsState) (o : Option AccessMessage) → o ≡ None → option_map_or (message_step past st) o st ≡ st
delivered_stays past st o e = ap (λ x. option_map_or (message_step past st) x st) e

planned_stays : (st : FriendsState) (c : Config) (event : Event) → changes_friends event A.Planned ≡ false
    → fold after st (send_calls c event) ≡ st
planned_stays st c (E.Send element dst ttl key payload) h = cc
planned_stays st c _ h = refl

kept_stays : (st : FriendsState) (event : Event) → changes_friends event A.Kept ≡ false → fold after st (kept_calls event) ≡ st
kept_stays st (E.Kept lpn fsn name pdu) h = cc
kept_stays st _ h = refl

ticked_changes : (event : Event) (now : ℕ) → changes_friends event (A.Ticked now) ≡ true
ticked_changes (E.Send element dst ttl key payload) now = refl
ticked_changes (E.Kept lpn fsn name pdu) now = refl
ticked_changes _ now = refl

answer_stays : (past : Past) (st : FriendsState) (e : Told) (answer : Answer) → has_reading e.insight ≡ false
    → delivered_by e ≡ delivered_from e.insight answer → changes_friends e.entry.event answer ≡ false
    → answer_step past st e answer ≡ st
answer_stays past st e (A.Control name dst opcode params) h d k = control_stays st past e.insight name dst opcode params h
answer_stays past st e (A.Delivered name dst key payload) h d k =
    delivered_stays past st (delivered_by e) (d ∙ none_delivered e.insight (A.Delivered name dst key payload) h)
answer_stays past st e A.Planned h d k = planned_stays st (config_before past) e.entry.event k
answer_stays past st e A.Kept h d k = kept_stays st e.entry.event k
answer_stays past st e (A.Ticked now) h d k = absurd (cc (ticked_changes e.entry.event now))
answer_stays past st e _ h d k = refl

pub others_leave : GoOn → LeaveFriends
others_leave more st told e are h k =
    subst (λ (s : FriendsState). AreFriendsOf s (told ++ e ∷ []))
    (ap (λ (s : FriendsState). answer_step (past_of told e) s e e.entry.answer) (heard_stays st e.insight e.entry.answer h)
    ∙ answer_stays (past_of told e) st e e.entry.answer h (delivered_is e e.insight e.entry.answer refl refl) k)
    (more st told e are)

-- An entry that does is the one call that its answer asks for.

pub send_is : GoOn → (past : Past) (st : FriendsState) (e : Told) (c : Config) (event : Event) → AreFriendsOf st past.told
    → c ≡ config_before past → e.entry.event ≡ event → e.insight ≡ OfNothing → e.entry.answer ≡ A.Planned → e.records ≡ past.records
    → AreFriendsOf (fold after st (send_calls c event)) (past.told ++ e ∷ [])
send_is more past st e c event are says is nothing planned records =
    subst (λ (s : FriendsState). AreFriendsOf s (past.told ++ e ∷ [])) (sym (
    ap (λ (d : Config). fold after st (send_calls d event)) says
    ∙ sym (ap (λ (ev : Event). fold after st (send_calls (config_before past) ev)) is)
    ∙ sym (ap (λ (i : Insight). answer_step past (heard_step st i A.Planned) e A.Planned) nothing)
    ∙ sym (ap (λ (x : Answer). answer_step past (heard_step st e.insight x) e x) planned)
    ∙ sym (ap (λ (rs : List StoreRecord). friends_step st (record { told = past.told; records = rs }) e) records)
    ))
    (more st past.told e are)

pub kept_is : GoOn → (told : List Told) (st : FriendsState) (e : Told) (event : Event) → AreFriendsOf st told
    → e.entry.event ≡ event → e.insight ≡ OfNothing → e.entry.answer ≡ A.Kept
    → AreFriendsOf (fold after st (kept_calls event)) (told ++ e ∷ [])
kept_is more told st e event are is nothing kept =
    subst (λ (s : FriendsState). AreFriendsOf s (told ++ e ∷ [])) (sym (
    sym (ap (λ (ev : Event). fold after st (kept_calls ev)) is)
    ∙ sym (ap (λ (i : Insight). answer_step (past_of told e) (heard_step st i A.Kept) e A.Kept) nothing)
    ∙ sym (ap (λ (x : Answer). answer_step (past_of told e) (heard_step st e.insight x) e x) kept)
    ))
    (more st told e are)

-- A message that isn't planned leaves them.

none_by_answer : (element : ℕ) (dst : Address) (ttl : ℕ) (key : SendKey) (payload : List ℕ) (answer : Answer) → (answer ≡ A.Planned → ⊥)
    → is_ticked answer ≡ false → changes_friends (E.Send element dst ttl key payload) answer ≡ false
none_by_answer element dst ttl key payload A.Planned h k = absurd (h refl)
none_by_answer element dst ttl key payload (A.Ticked now) h k = cc
none_by_answer element dst ttl key payload _ h k = refl

pub not_planned : (e : Told) (event : Event) (element : ℕ) (dst : Address) (ttl : ℕ) (key : SendKey) (payload : List ℕ) (answer : Answer)
    → e.entry.event ≡ event → event ≡ E.Send element dst ttl key payload → e.entry.answer ≡ answer → (answer ≡ A.Planned → ⊥)
    → is_ticked answer ≡ false → changes_friends e.entry.event e.entry.answer ≡ false
not_planned e event element dst ttl key payload answer is send answered h k =
    ap (λ (ev : Event). changes_friends ev e.entry.answer) (is ∙ send)
    ∙ ap (λ (a : Answer). changes_friends (E.Send element dst ttl key payload) a) answered
    ∙ none_by_answer element dst ttl key payload answer h k

pub none_read : (e : Told) → e.insight ≡ OfNothing → has_reading e.insight ≡ false
none_read e nothing = ap (λ (i : Insight). has_reading i) nothing

pub send_befriended : (past : Past) (event : Event) (element : ℕ) (dst : Address) (ttl : ℕ) (key : SendKey) (payload : List ℕ) (b : Bool)
    → event ≡ E.Send element dst ttl key payload → b ≡ is_befriended past dst → IsBefriended node_layers past event b
unfolding node_layers
send_befriended past event element dst ttl key payload b is h = subst (λ (ev : Event). IsBefriended node_layers past ev b) (sym is) h
