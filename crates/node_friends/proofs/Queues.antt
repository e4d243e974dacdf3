-- Friendships and offers whose queues can be sent, through the calls on the table.
use Rattle.std.proofs.Common.{◌≡◌, ◌∙◌, ℕ, zero, suc, ◌-◌, ◌<◌, ◌^◌, Bool, true, false, cond, List, [], ◌∷◌, ◌++◌, length, drop, filter, refl, sym, ap, arith, subst, Option, Some, None}
use Rattle.std.proofs.lemmas.Bool.{or_parts}
use Rattle.std.specs.Prelude.{◌&&◌, not, nat_lt, find, is_some, All, Result, Ok, Err}
use Rattle.std.specs.List.{AllByRecursion as Every, list_any}
use Rattle.std.proofs.lemmas.List.Elements.{All-from_recursion}
use Rattle.node_limits.specs.declared.TheConstants.{FRIEND_QUEUE}
use Rattle.layer_definitions.specs.KeyRefresh.{transmit_key}
use Rattle.layer_definitions.specs.Network.{HasPdu}
use Rattle.layer_states.specs.Cache.{last_of}
use Rattle.layer_states.specs.Friends.{FriendCall, FriendsState, after, answer_again, answer_next, change_where, clear, end_all, friend_keys, has_address, is_again, is_cleared, is_empty, is_friend, is_friendship, is_noted, is_of, is_stored, keep, list_add, list_changed, list_remove, list_with, list_without, offer_slot, others, poll, poll_answer, poll_clear, poll_result, polled, put, put_own, queue_left, queued, renewed, request, request_fault, requested, standing, tick, with_kept}
use Rattle.layer_states.specs.declared.friends.FriendFault.{FriendFault}
use Rattle.layer_states.specs.declared.friends.FriendFault.TheVariants.{Stranger}
use Rattle.layer_states.specs.declared.friends.Friendship.{Friendship}
use Rattle.layer_states.specs.declared.friends.KeptPdu.{KeptPdu}
use Rattle.layer_states.specs.declared.friends.Polled.{Polled}
use Rattle.layer_states.specs.declared.friends.QueueEntry.{QueueEntry}
use Rattle.layer_states.specs.declared.friends.QueueEntry.TheVariants as Q
use Rattle.mesh_base.specs.declared.address.Address.{Address}
use Rattle.mesh_base.specs.declared.control.Request.{Request}
use Rattle.mesh_base.specs.declared.fields.Heard.{Heard}
use Rattle.mesh_base.specs.declared.fields.NetFields.{NetFields}
use Rattle.mesh_base.specs.declared.keys.NetKeyRow.{NetKeyRow}
use Rattle.mesh_base.specs.declared.pair.Name.{Name}
use Rattle.node_layers.proofs.FriendKeys.{friendship_width}
use Rattle.node_friends.specs.Queues.{AreSendable, HoldSendable, HoldsSendable, IsSendable, IsSendableAnswer}

-- One queue.

sendable_more : (xs : List QueueEntry) (e : QueueEntry) → AreSendable xs → AreSendable (e ∷ []) → AreSendable (xs ++ e ∷ [])
sendable_more [] e h k = k
sendable_more (Q.Heard f ∷ xs) e h k = (h.0, sendable_more xs e h.1 k)
sendable_more (Q.Own m ∷ xs) e h k = (h.0, sendable_more xs e h.1 k)

sendable_drop : (n : ℕ) (xs : List QueueEntry) → AreSendable xs → AreSendable (drop n xs)
sendable_drop zero xs h = h
sendable_drop (suc n) [] h = tt
sendable_drop (suc n) (Q.Heard f ∷ xs) h = sendable_drop n xs h.1
sendable_drop (suc n) (Q.Own m ∷ xs) h = sendable_drop n xs h.1

sendable_last : (n : ℕ) (xs : List QueueEntry) → AreSendable xs → AreSendable (last_of n xs)
sendable_last n xs h = sendable_drop (length xs - n) xs h

sendable_left : (s : Friendship) → AreSendable s.queue → AreSendable (queue_left s)
sendable_left s h =
    elim s.answered as (λ b. AreSendable (cond b (drop 1 s.queue) s.queue)) [ true ↦ sendable_drop 1 s.queue h | false ↦ h ]

-- One friendship or offer.

sendable_queued : (e : QueueEntry) (s : Friendship) → AreSendable (e ∷ []) → HoldsSendable s → HoldsSendable (queued e s)
sendable_queued e s k h = (h.0, sendable_last FRIEND_QUEUE (s.queue ++ e ∷ []) (sendable_more s.queue e h.1 k))

sendable_polled : (now : ℕ) (fsn : Bool) (s : Friendship) → HoldsSendable s → HoldsSendable (polled now fsn s)
sendable_polled now fsn s h =
    elim (is_again fsn s) as (λ b.
    HoldsSendable
    (cond b (record s { until = renewed now s })
    (record s { until = renewed now s; fsn = Some fsn; answered = not (is_empty (queue_left s)); kept = None; queue = queue_left s }))) [
      | true ↦ h
      | false ↦ (h.0, sendable_left s h.1)
    ]

sendable_offer : (counter now : ℕ) (net : NetKeyRow) (own lpn : Address) (r : Request) → HoldsSendable (offer_slot counter now net own lpn r)
sendable_offer counter now net own lpn r = (friendship_width (transmit_key net) lpn.0 own.0 r.lpn_counter counter, tt)

-- All of them.

hold_filter : (p : Friendship → Bool) (slots : List Friendship) → HoldSendable slots → HoldSendable (filter p slots)
hold_filter p [] h = h
hold_filter p (s ∷ slots) h =
    elim (p s) as (λ b. HoldSendable (cond b (s ∷ filter p slots) (filter p slots))) [
      | true ↦ (h.0, hold_filter p slots h.1)
      | false ↦ hold_filter p slots h.1
    ]

hold_more : (slots : List Friendship) (s : Friendship) → HoldSendable slots → HoldsSendable s → HoldSendable (slots ++ s ∷ [])
hold_more [] s h k = (k, tt)
hold_more (x ∷ slots) s h k = (h.0, hold_more slots s h.1 k)

hold_change : (p : Friendship → Bool) (f : Friendship → Friendship)
    → ((s : Friendship) → HoldsSendable s → HoldsSendable (f s)) → (slots : List Friendship) → HoldSendable slots → HoldSendable (change_where p f slots)
hold_change p f keeps [] h = h
hold_change p f keeps (s ∷ slots) h =
    (elim (p s) as (λ b. HoldsSendable (cond b (f s) s)) [ true ↦ keeps s h.0 | false ↦ h.0 ], hold_change p f keeps slots h.1)

hold_where : (b : Bool) (xs ys : List Friendship) → HoldSendable xs → HoldSendable ys → HoldSendable (cond b xs ys)
hold_where true xs ys h k = h
hold_where false xs ys h k = k

hold_standing : (now : ℕ) (slots : List Friendship) → HoldSendable slots → HoldSendable (standing now slots)
hold_standing now slots h = hold_filter (λ s. nat_lt now s.until) slots h

-- What a call puts into the queues can be sent.
abbrev pub PutsSendable : FriendCall → Type 0
PutsSendable (put f) = HasPdu f
PutsSendable (put_own m) = IsSendable m
PutsSendable call = Unit {0}

lowered : (f : NetFields) → HasPdu f → HasPdu (record f { ttl = f.ttl - 1 })
lowered f h = record { ttl = omega (arith, h.ttl); seq = h.seq; least = h.least; most = h.most }

pub holds : (st : FriendsState) (call : FriendCall) → PutsSendable call → HoldSendable st.slots → HoldSendable (after st call).slots
holds st (request now net own lpn r) p h =
    elim (is_some (request_fault now st.slots lpn r)) as (λ b. HoldSendable (cond b st (requested st now net own lpn r)).slots) [
      | true ↦ h
      | false ↦
          hold_more (others lpn (standing now st.slots)) (offer_slot st.offers now net own lpn r)
          (hold_filter (λ s. not (is_of lpn s)) (standing now st.slots) (hold_standing now st.slots h))
          (sendable_offer st.offers now net own lpn r)
    ]
holds st (poll now lpn fsn) p h =
    hold_where (list_any (is_of lpn) (standing now st.slots)) _ _
    (hold_change (is_of lpn) (polled now fsn) (sendable_polled now fsn) (standing now st.slots) (hold_standing now st.slots h)) h
holds st (keep lpn fsn name pdu) p h = hold_change (is_noted lpn fsn) (with_kept name pdu) (λ s k. k) st.slots h
holds st (put f) p h =
    let e : QueueEntry = Q.Heard (record f { ttl = f.ttl - 1 }) in
    hold_change (is_stored f) (queued e) (λ s k. sendable_queued e s (lowered f p, tt) k) st.slots h
holds st (put_own m) p h =
    hold_change (λ s. is_friendship s && has_address s m.dst) (queued (Q.Own m)) (λ s k. sendable_queued (Q.Own m) s (p, tt) k) st.slots h
holds st (list_add now lpn added) p h =
    hold_where (list_any (is_friend lpn) (standing now st.slots)) _ _
    (hold_change (is_friend lpn) (list_changed now (λ list. list_with list added)) (λ s k. k) (standing now st.slots) (hold_standing now st.slots h)) h
holds st (list_remove now lpn removed) p h =
    hold_where (list_any (is_friend lpn) (standing now st.slots)) _ _
    (hold_change (is_friend lpn) (list_changed now (λ list. list_without list removed)) (λ s k. k) (standing now st.slots) (hold_standing now st.slots h)) h
holds st (clear lpn counter) p h = hold_filter (λ s. not (is_cleared lpn counter s)) st.slots h
holds st (tick now) p h = hold_standing now st.slots h
holds st end_all p h = tt

-- The table after a call, where its state is known by an equation.
pub holds_after : (old new : FriendsState) (call : FriendCall) → new ≡ after old call → PutsSendable call → HoldSendable old.slots → HoldSendable new.slots
holds_after old new call e p h = subst (λ (st : FriendsState). HoldSendable st.slots) (sym e) (holds old call p h)

-- What answers a Poll can be sent.

found_sendable : (p : Friendship → Bool) (slots : List Friendship) (s : Friendship) → HoldSendable slots → find p slots ≡ Some s → AreSendable s.queue
found_sendable p [] s h e = cc
found_sendable p (x ∷ slots) s h e =
    (elim (p x) as (λ b. cond b (Some x) (find p slots) ≡ Some s → AreSendable s.queue) [
      | true ↦ λ u. let same : x ≡ s = cc in subst (λ (y : Friendship). AreSendable y.queue) same h.0.1
      | false ↦ λ u. found_sendable p slots s h.1 u
    ]) e

next_sendable : (queue : List QueueEntry) → AreSendable queue → IsSendableAnswer (answer_next queue)
next_sendable [] h = tt
next_sendable (Q.Heard f ∷ rest) h = h.0
next_sendable (Q.Own m ∷ rest) h = h.0

again_sendable : (kept : Option KeptPdu) → IsSendableAnswer (answer_again kept)
again_sendable None = tt
again_sendable (Some k) = tt

answer_sendable : (fsn : Bool) (s : Friendship) → AreSendable s.queue → IsSendableAnswer (poll_answer fsn s)
answer_sendable fsn s h =
    elim (is_again fsn s) as (λ b. IsSendableAnswer (cond b (answer_again s.kept) (answer_next (queue_left s)))) [
      | true ↦ again_sendable s.kept
      | false ↦ next_sendable (queue_left s) (sendable_left s h)
    ]

abbrev leads_to : Bool → Option Friendship → Result Polled FriendFault
leads_to fsn None = Err Stranger
leads_to fsn (Some s) = Ok (record { answer = poll_answer fsn s; clear = poll_clear s })

leads_are : (slots : List Friendship) (now : ℕ) (lpn : Address) (fsn : Bool) (o : Option Friendship) → find (is_of lpn) (standing now slots) ≡ o
    → poll_result slots now lpn fsn ≡ leads_to fsn o
leads_are slots now lpn fsn None e = rw e refl
leads_are slots now lpn fsn (Some s) e = rw e refl

of_found : (slots : List Friendship) (fsn : Bool) (p : Friendship → Bool) (o : Option Friendship) (polled : Polled) → HoldSendable slots → find p slots ≡ o
    → leads_to fsn o ≡ Ok polled → IsSendableAnswer polled.answer
of_found slots fsn p None polled h e k = cc
of_found slots fsn p (Some s) polled h e k =
    let same : record { answer = poll_answer fsn s; clear = poll_clear s } ≡ polled = cc in
    subst (λ (q : Polled). IsSendableAnswer q.answer) same (answer_sendable fsn s (found_sendable p slots s h e))

pub poll_sendable : (slots : List Friendship) (now : ℕ) (lpn : Address) (fsn : Bool) (polled : Polled) → HoldSendable slots
    → poll_result slots now lpn fsn ≡ Ok polled → IsSendableAnswer polled.answer
poll_sendable slots now lpn fsn polled h e =
    let found = find (is_of lpn) (standing now slots) in
    of_found (standing now slots) fsn (is_of lpn) found polled (hold_standing now slots h) refl
    (sym (leads_are slots now lpn fsn found refl) ∙ e)

-- What is heard of Low Power nodes.

keys_within : (slots : List Friendship) → HoldSendable slots → Every (λ (h : Heard). h.material.nid < 2 ^ 7) (friend_keys slots)
keys_within [] h = tt
keys_within (s ∷ slots) h = (h.0.0, keys_within slots h.1)

pub all_within : (slots : List Friendship) → HoldSendable slots → All (λ (h : Heard). h.material.nid < 2 ^ 7) (friend_keys slots)
all_within slots h = All-from_recursion (λ (h : Heard). h.material.nid < 2 ^ 7) (friend_keys slots) (keys_within slots h)

-- Octets that may not be noted leave all as it was.

pub change_none : (p : Friendship → Bool) (f : Friendship → Friendship) (slots : List Friendship) → list_any p slots ≡ false → change_where p f slots ≡ slots
change_none p f [] h = refl
change_none p f (s ∷ slots) h =
    ap (λ b. cond b (f s) s ∷ change_where p f slots) (or_parts (p s) (list_any p slots) h).0
    ∙ ap (λ l. s ∷ l) (change_none p f slots (or_parts (p s) (list_any p slots) h).1)

pub kept_none : (st : FriendsState) (lpn : Address) (fsn : Bool) (name : Name) (pdu : List ℕ) → list_any (is_noted lpn fsn) st.slots ≡ false
    → after st (keep lpn fsn name pdu) ≡ st
kept_none st lpn fsn name pdu h =
    ap (λ (slots : List Friendship). record st { slots = slots }) (change_none (is_noted lpn fsn) (with_kept name pdu) st.slots h)
