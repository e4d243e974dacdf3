-- What friendships hold comes from the calls on them: the PDUs and messages of a queue, and the octets that are kept.
use Rattle.std.proofs.Common.{ℕ, zero, suc, ◌-◌, Bool, true, false, cond, List, [], ◌∷◌, ◌++◌, drop, find, fold, Option, Some, None, Result, Ok, Err, is_some}
use Rattle.std.specs.Bool.{⊤}
use Rattle.std.specs.List.{AllByRecursion as Every}
use Rattle.std.specs.Option.{option_map_or}
use Rattle.layer_states.specs.Friends.{FriendCall, FriendsState, after, answer_again, answer_next, change_where, clear, end_all, is_again, is_friend, is_noted, is_of, keep, list_add, list_changed, list_remove, list_with, list_without, offer_slot, others, poll, poll_answer, poll_clear, poll_result, polled, put, put_own, queue_left, queued, request, request_fault, requested, slots_after, standing, tick, with_kept}
use Rattle.layer_states.specs.declared.friends.FriendFault.{FriendFault}
use Rattle.layer_states.specs.declared.friends.FriendFault.TheVariants.{Stranger}
use Rattle.layer_states.specs.declared.friends.Friendship.{Friendship}
use Rattle.layer_states.specs.declared.friends.KeptPdu.{KeptPdu}
use Rattle.layer_states.specs.declared.friends.OwnShort.{OwnShort}
use Rattle.layer_states.specs.declared.friends.PollAnswer.{PollAnswer}
use Rattle.layer_states.specs.declared.friends.PollAnswer.TheVariants as P
use Rattle.layer_states.specs.declared.friends.Polled.{Polled}
use Rattle.layer_states.specs.declared.friends.QueueEntry.{QueueEntry}
use Rattle.layer_states.specs.declared.friends.QueueEntry.TheVariants as Q
use Rattle.mesh_base.specs.declared.address.Address.{Address}
use Rattle.mesh_base.specs.declared.fields.NetFields.{NetFields}
use Rattle.mesh_base.specs.declared.pair.Name.{Name}
use Rattle.event_definitions.proofs.Each.{every_append}
use Rattle.layer_laws.proofs.Lists.{Inside, every_filter, every_mapped, every_pick, through_fold}

pub every_drop : {A : Type 0} (P : A → Type 0) (n : ℕ) (xs : List A) → Every P xs → Every P (drop n xs)
every_drop P zero xs h = h
every_drop P (suc n) [] h = tt
every_drop P (suc n) (x ∷ xs) h = every_drop P n xs h.1

inside_pick : {A : Type 0} (P : A → Type 0) (b : Bool) (x : A) (o : Option A) → P x → Inside P o → Inside P (cond b (Some x) o)
inside_pick P true x o h k = h
inside_pick P false x o h k = k

pub every_found : {A : Type 0} (P : A → Type 0) (test : A → Bool) (xs : List A) → Every P xs → Inside P (find test xs)
every_found P test [] h = tt
every_found P test (x ∷ xs) h = inside_pick P (test x) x (find test xs) h.0 (every_found P test xs h.1)

pick : {A : Type 0} (P : A → Type 0) (b : Bool) (x y : A) → P x → P y → P (cond b x y)
pick P true x y h k = h
pick P false x y h k = k

-- Of the PDUs, of the octets under their names, and of the messages of this node.
module _ (H : NetFields → Type 0) (K : Name → List ℕ → Type 0) (O : OwnShort → Type 0) (lowered : (f : NetFields) (ttl : ℕ) → H f → H (record f { ttl = ttl })) where
  abbrev pub GoodEntry : QueueEntry → Type 0
  GoodEntry (Q.Heard f) = H f
  GoodEntry (Q.Own m) = O m

  abbrev pub GoodKept : Option KeptPdu → Type 0
  GoodKept None = ⊤
  GoodKept (Some k) = K k.name k.pdu

  pub record GoodSlot (s : Friendship) : Type 0 where
    pub queue : Every GoodEntry s.queue
    pub kept : GoodKept s.kept

  abbrev pub GoodState : FriendsState → Type 0
  GoodState st = Every GoodSlot st.slots

  abbrev pub GoodCall : FriendCall → Type 0
  GoodCall (put f) = H f
  GoodCall (put_own m) = O m
  GoodCall (keep lpn fsn name pdu) = K name pdu
  GoodCall _ = ⊤

  standing_good : (now : ℕ) (slots : List Friendship) → Every GoodSlot slots → Every GoodSlot (standing now slots)
  standing_good now slots h = every_filter GoodSlot _ slots h

  change_good : (test : Friendship → Bool) (change : Friendship → Friendship) (slots : List Friendship)
      → ((s : Friendship) → GoodSlot s → GoodSlot (change s)) → Every GoodSlot slots → Every GoodSlot (change_where test change slots)
  change_good test change slots k h = every_mapped GoodSlot GoodSlot _ (λ s g. pick GoodSlot (test s) (change s) s (k s g) g) slots h

  left_good : (s : Friendship) → GoodSlot s → Every GoodEntry (queue_left s)
  left_good s h = every_pick GoodEntry s.answered (drop 1 s.queue) s.queue (every_drop GoodEntry 1 s.queue h.queue) h.queue

  polled_good : (now : ℕ) (fsn : Bool) (s : Friendship) → GoodSlot s → GoodSlot (polled now fsn s)
  polled_good now fsn s h = pick GoodSlot (is_again fsn s) _ _ (record { queue = h.queue; kept = h.kept }) (record { queue = left_good s h; kept = tt })

  queued_good : (e : QueueEntry) → GoodEntry e → (s : Friendship) → GoodSlot s → GoodSlot (queued e s)
  queued_good e g s h = record { queue = every_drop GoodEntry _ (s.queue ++ e ∷ []) (every_append GoodEntry s.queue (e ∷ []) h.queue (g, tt)); kept = h.kept }

  list_good : (now : ℕ) (change : List Address → List Address) (s : Friendship) → GoodSlot s → GoodSlot (list_changed now change s)
  list_good now change s h = record { queue = h.queue; kept = h.kept }

  kept_good : (name : Name) (pdu : List ℕ) → K name pdu → (s : Friendship) → GoodSlot s → GoodSlot (with_kept name pdu s)
  kept_good name pdu k s h = record { queue = h.queue; kept = k }

  slots_good : (slots : List Friendship) (call : FriendCall) → GoodCall call → Every GoodSlot slots → Every GoodSlot (slots_after slots call)
  slots_good slots (request now net own lpn r) g h = h
  slots_good slots (poll now lpn fsn) g h =
      every_pick GoodSlot _ (change_where (is_of lpn) (polled now fsn) (standing now slots)) slots (change_good (is_of lpn) (polled now fsn) (standing now slots) (polled_good now fsn) (standing_good now slots h)) h
  slots_good slots (keep lpn fsn name pdu) g h = change_good (is_noted lpn fsn) (with_kept name pdu) slots (kept_good name pdu g) h
  slots_good slots (put f) g h = change_good _ _ slots (queued_good (Q.Heard (record f { ttl = f.ttl - 1 })) (lowered f (f.ttl - 1) g)) h
  slots_good slots (put_own m) g h = change_good _ _ slots (queued_good (Q.Own m) g) h
  slots_good slots (list_add now lpn added) g h =
      every_pick GoodSlot _ (change_where (is_friend lpn) (list_changed now (λ list. list_with list added)) (standing now slots)) slots
      (change_good (is_friend lpn) (list_changed now (λ list. list_with list added)) (standing now slots) (list_good now (λ list. list_with list added)) (standing_good now slots h)) h
  slots_good slots (list_remove now lpn removed) g h =
      every_pick GoodSlot _ (change_where (is_friend lpn) (list_changed now (λ list. list_without list removed)) (standing now slots)) slots
      (change_good (is_friend lpn) (list_changed now (λ list. list_without list removed)) (standing now slots) (list_good now (λ list. list_without list removed)) (standing_good now slots h)) h
  slots_good slots (clear lpn counter) g h = every_filter GoodSlot _ slots h
  slots_good slots (tick now) g h = standing_good now slots h
  slots_good slots end_all g h = tt

  pub after_good : (st : FriendsState) (call : FriendCall) → GoodCall call → GoodState st → GoodState (after st call)
  after_good st (request now net own lpn r) g h =
      pick GoodState (is_some (request_fault now st.slots lpn r)) st (requested st now net own lpn r) h
      (every_append GoodSlot (others lpn (standing now st.slots)) (offer_slot st.offers now net own lpn r ∷ []) (every_filter GoodSlot _ (standing now st.slots) (standing_good now st.slots h))
      (record { queue = tt; kept = tt }, tt))
  after_good st (poll now lpn fsn) g h = slots_good st.slots (poll now lpn fsn) g h
  after_good st (keep lpn fsn name pdu) g h = slots_good st.slots (keep lpn fsn name pdu) g h
  after_good st (put f) g h = slots_good st.slots (put f) g h
  after_good st (put_own m) g h = slots_good st.slots (put_own m) g h
  after_good st (list_add now lpn added) g h = slots_good st.slots (list_add now lpn added) g h
  after_good st (list_remove now lpn removed) g h = slots_good st.slots (list_remove now lpn removed) g h
  after_good st (clear lpn counter) g h = every_filter GoodSlot _ st.slots h
  after_good st (tick now) g h = standing_good now st.slots h
  after_good st end_all g h = tt

  pub calls_good : (st : FriendsState) (calls : List FriendCall) → Every GoodCall calls → GoodState st → GoodState (fold after st calls)
  calls_good st calls h g = through_fold GoodState GoodCall after after_good st calls h g

  -- What answers a Poll.

  abbrev pub GoodAnswer : PollAnswer → Type 0
  GoodAnswer (P.Stored f) = H f
  GoodAnswer (P.Own m) = O m
  GoodAnswer (P.Repeat name pdu) = K name pdu
  GoodAnswer _ = ⊤

  again_good : (o : Option KeptPdu) → GoodKept o → GoodAnswer (answer_again o)
  again_good None h = tt
  again_good (Some k) h = h

  next_good : (queue : List QueueEntry) → Every GoodEntry queue → GoodAnswer (answer_next queue)
  next_good [] h = tt
  next_good (Q.Heard f ∷ rest) h = h.0
  next_good (Q.Own m ∷ rest) h = h.0

  abbrev pub GoodResult : Result Polled FriendFault → Type 0
  GoodResult (Ok p) = GoodAnswer p.answer
  GoodResult (Err fault) = ⊤

  pub result_good : (slots : List Friendship) (now : ℕ) (lpn : Address) (fsn : Bool) → Every GoodSlot slots → GoodResult (poll_result slots now lpn fsn)
  result_good slots now lpn fsn h = made (find (is_of lpn) (standing now slots)) (every_found GoodSlot (is_of lpn) (standing now slots) (standing_good now slots h))
    where
      made : (o : Option Friendship) → Inside GoodSlot o
          → GoodResult (option_map_or (λ s. Ok (record { answer = poll_answer fsn s; clear = poll_clear s })) o (Err Stranger))
      made None g = tt
      made (Some s) g = pick GoodAnswer (is_again fsn s) (answer_again s.kept) (answer_next (queue_left s)) (again_good s.kept g.kept) (next_good (queue_left s) (left_good s g))
