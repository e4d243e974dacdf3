-- What is stored in a queue leaves who is befriended, and the PollTimeouts.
use Rattle.std.proofs.Common.{◌≡◌, ◌∙◌, ℕ, ◌-◌, Bool, true, false, cond, List, [], ◌∷◌, refl, ap}
use Rattle.std.specs.Prelude.{◌&&◌, ◌||◌, map, filter}
use Rattle.std.specs.List.{list_any}
use Rattle.layer_states.specs.Friends.{FriendsState, after, change_where, has_address, is_befriended, is_friendship, is_stored, poll_timeouts, put, put_own, queued}
use Rattle.layer_states.specs.declared.friends.Friendship.{Friendship}
use Rattle.layer_states.specs.declared.friends.OwnShort.{OwnShort}
use Rattle.layer_states.specs.declared.friends.QueueEntry.{QueueEntry}
use Rattle.layer_states.specs.declared.friends.QueueEntry.TheVariants as Q
use Rattle.mesh_base.specs.declared.address.Address.{Address}
use Rattle.mesh_base.specs.declared.fields.NetFields.{NetFields}

befriended_queued : (p : Friendship → Bool) (e : QueueEntry) (slots : List Friendship) (a : Address)
    → is_befriended (change_where p (queued e) slots) a ≡ is_befriended slots a
befriended_queued p e [] a = refl
befriended_queued p e (s ∷ slots) a =
    let test : Friendship → Bool = λ s. is_friendship s && has_address s a in
    elim (p s) as (λ b.
    (test (cond b (queued e s) s) || list_any test (change_where p (queued e) slots)) ≡ (test s || list_any test slots)) [
      | true ↦ ap (λ b. test s || b) (befriended_queued p e slots a)
      | false ↦ ap (λ b. test s || b) (befriended_queued p e slots a)
    ]

-- the address and the PollTimeout of one
abbrev poll_of : Friendship → Address × ℕ
poll_of s = (s.lpn, s.request.poll_timeout)

poll_more : (b : Bool) (x s : Friendship) (xs slots : List Friendship) → poll_of x ≡ poll_of s → poll_timeouts xs ≡ poll_timeouts slots
    → map poll_of (cond b (x ∷ filter is_friendship xs) (filter is_friendship xs))
    ≡ map poll_of (cond b (s ∷ filter is_friendship slots) (filter is_friendship slots))
poll_more true x s xs slots e r = ap (λ (p : Address × ℕ). p ∷ poll_timeouts xs) e ∙ ap (λ (l : List (Address × ℕ)). poll_of s ∷ l) r
poll_more false x s xs slots e r = r

polls_queued : (p : Friendship → Bool) (e : QueueEntry) (slots : List Friendship) → poll_timeouts (change_where p (queued e) slots) ≡ poll_timeouts slots
polls_queued p e [] = refl
polls_queued p e (s ∷ slots) =
    elim (p s) as (λ b. poll_timeouts (cond b (queued e s) s ∷ change_where p (queued e) slots) ≡ poll_timeouts (s ∷ slots)) [
      | true ↦ poll_more (is_friendship s) (queued e s) s (change_where p (queued e) slots) slots refl (polls_queued p e slots)
      | false ↦ poll_more (is_friendship s) s s (change_where p (queued e) slots) slots refl (polls_queued p e slots)
    ]

-- a PDU heard

abbrev heard_entry : NetFields → QueueEntry
heard_entry f = Q.Heard (record f { ttl = f.ttl - 1 })

pub heard_befriended : (f : NetFields) (old new : FriendsState) → new ≡ after old (put f) → (a : Address)
    → is_befriended new.slots a ≡ is_befriended old.slots a
heard_befriended f old new h a =
    ap (λ (st : FriendsState). is_befriended st.slots a) h ∙ befriended_queued (is_stored f) (heard_entry f) old.slots a

pub heard_polls : (f : NetFields) (old new : FriendsState) → new ≡ after old (put f) → poll_timeouts new.slots ≡ poll_timeouts old.slots
heard_polls f old new h =
    ap (λ (st : FriendsState). poll_timeouts st.slots) h ∙ polls_queued (is_stored f) (heard_entry f) old.slots

-- a message of this node

abbrev is_for : OwnShort → Friendship → Bool
is_for m s = is_friendship s && has_address s m.dst

pub sent_befriended : (m : OwnShort) (old new : FriendsState) → new ≡ after old (put_own m) → (a : Address)
    → is_befriended new.slots a ≡ is_befriended old.slots a
sent_befriended m old new h a =
    ap (λ (st : FriendsState). is_befriended st.slots a) h ∙ befriended_queued (is_for m) (Q.Own m) old.slots a

pub sent_polls : (m : OwnShort) (old new : FriendsState) → new ≡ after old (put_own m) → poll_timeouts new.slots ≡ poll_timeouts old.slots
sent_polls m old new h =
    ap (λ (st : FriendsState). poll_timeouts st.slots) h ∙ polls_queued (is_for m) (Q.Own m) old.slots
