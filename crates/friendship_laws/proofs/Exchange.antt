-- Each message is taken once.
use Rattle.std.proofs.Common.{◌≡◌, ◌∙◌, ℕ, ◌-◌, ◌<◌, ◌≤◌, Bool, true, false, cond, not, List, [], ◌∷◌, ◌++◌, length, drop, refl, sym, ap, arith, true≢false, lt-ltb, length-append, Option, Some, None}
use Rattle.std.specs.Prelude.{◌&&◌, nat_lt}
use Rattle.std.specs.Option.{option_map_or, option_to_list}
use Rattle.std.proofs.lemmas.List.{append_assoc, append-nil}
use Rattle.node_limits.specs.declared.TheConstants.{FRIEND_QUEUE}
use Rattle.layer_states.specs.Cache.{last_of}
use Rattle.layer_states.specs.Friends.{answer_again, answer_next, is_again, is_empty, is_noted, polled, queue_left, queued, renewed, with_kept}
use Rattle.layer_states.specs.Names.{is_same}
use Rattle.layer_states.specs.declared.friends.Friendship.{Friendship}
use Rattle.layer_states.specs.declared.friends.KeptPdu.{KeptPdu}
use Rattle.layer_states.specs.declared.friends.QueueEntry.{QueueEntry}
use Rattle.layer_states.specs.declared.friends.QueueEntry.TheVariants as Q
use Rattle.friendship_laws.specs.Exchange.{AnswersAreTaken, AreFriends, BeginAsFriends, EachOnce, HasRoom, IsKept, NamesAreKept, Sides, StayFriends, Turn, after_answer, after_turn, all_comers, all_taken, answer_heard, answer_name, answer_lost, answering, at_end, carried, comers, comes, first_of, fsn_of, poll_lost, served, taken, takes, waiting}
use Rattle.low_power_definitions.specs.State.{LowPowerState, after, answered, closed, friend_of, heard_as, is_answer, is_closing, is_polling, name_of, poll, polled as polled_standing}
use Rattle.low_power_definitions.specs.declared.lpn.Friend.{Friend}
use Rattle.low_power_definitions.specs.declared.lpn.LpnHeard.TheVariants.{Unasked, Repeat, Pass}
use Rattle.low_power_definitions.specs.declared.lpn.Standing.TheVariants as S
use Rattle.mesh_base.specs.declared.fields.NetFields.{NetFields}
use Rattle.mesh_base.specs.declared.pair.Name.{Name}

-- FSN

same_self : (f : Bool) → is_same f f ≡ true
same_self true = refl
same_self false = refl

same_other : (f : Bool) → is_same (not f) f ≡ false
same_other true = refl
same_other false = refl

-- the friendship after a Poll

by_noted : (P : Friendship → Type 0) (f : Bool) (n : Option Name) (octets : List ℕ) (now : ℕ) (s : Friendship)
    → ((m : Name) → P (with_kept m octets (polled now f s))) → P (polled now f s) → P (served now f n octets s)
by_noted P f None octets now s kept same = same
by_noted P f (Some m) octets now s kept same = test (is_noted (polled now f s).lpn f (polled now f s))
  where
    test : (b : Bool) → P (cond b (with_kept m octets (polled now f s)) (polled now f s))
    test true = kept m
    test false = same

-- what a Poll with this FSN leaves of the queue, and what its answer carries; `repeated` where it has the FSN of the one before
record Polled (f : Bool) (s t : Friendship) (repeated : Bool) : Type 0 where
  again : is_again f t ≡ true
  other : is_again (not f) t ≡ false
  queue : t.queue ≡ cond repeated s.queue (queue_left s)
  carries : option_to_list (cond repeated (cond s.answered (first_of s.queue) None) (first_of (queue_left s))) ++ queue_left t ≡ t.queue
  first : t.answered ≡ true → 1 ≤ length t.queue

other_fsn : (f : Bool) (o : Option Bool) → option_map_or (is_same f) o false ≡ true → option_map_or (is_same (not f)) o false ≡ false
other_fsn f None h = refl
other_fsn true (Some true) h = refl
other_fsn true (Some false) h = absurd (true≢false (sym h))
other_fsn false (Some true) h = absurd (true≢false (sym h))
other_fsn false (Some false) h = refl

first_again : (b : Bool) (q : List QueueEntry) → option_to_list (cond b (first_of q) None) ++ cond b (drop 1 q) q ≡ q
first_again true [] = refl
first_again true (e ∷ q) = refl
first_again false q = refl

first_next : (q : List QueueEntry) → option_to_list (first_of q) ++ cond (not (is_empty q)) (drop 1 q) q ≡ q
first_next [] = refl
first_next (e ∷ q) = refl

some_first : (q : List QueueEntry) → not (is_empty q) ≡ true → 1 ≤ length q
some_first [] h = absurd (true≢false (sym h))
some_first (e ∷ q) h = omega arith

after_polled : (now : ℕ) (f : Bool) (s : Friendship) → (s.answered ≡ true → 1 ≤ length s.queue)
    → Polled f s (polled now f s) (is_again f s)
after_polled now f s first = test (is_again f s) refl
  where
    test : (repeated : Bool) → is_again f s ≡ repeated
        → Polled f s
        (cond repeated (record s { until = renewed now s })
        (record s {
          until = renewed now s;
          fsn = Some f;
          answered = not (is_empty (queue_left s));
          kept = None;
          queue = queue_left s;
        }))
        repeated
    test true h =
        record { again = h; other = other_fsn f s.fsn h; queue = refl; carries = first_again s.answered s.queue; first = first }
    test false h =
        record {
          again = same_self f;
          other = same_other f;
          queue = refl;
          carries = first_next (queue_left s);
          first = some_first (queue_left s);
        }

served_polled : (f : Bool) (n : Option Name) (octets : List ℕ) (now : ℕ) (s : Friendship) → (s.answered ≡ true → 1 ≤ length s.queue)
    → Polled f s (served now f n octets s) (is_again f s)
served_polled f n octets now s first =
    let p = after_polled now f s first in
    by_noted (λ t. Polled f s t (is_again f s)) f n octets now s
    (λ m. record { again = p.again; other = p.other; queue = p.queue; carries = p.carries; first = p.first }) p

-- names of what is kept

next_named : (entries : List QueueEntry) (drawn m : Name) (g : NetFields) → answer_name drawn (answer_next entries) ≡ Some m
    → first_of entries ≡ Some (Q.Heard g) → m ≡ name_of g
next_named [] drawn m g some head = absurd (let none : None ≡ Some (Q.Heard g) = head in cc)
next_named (Q.Heard h ∷ rest) drawn m g some head =
    let same : h ≡ g = cc in
    let name : name_of h ≡ m = cc in
    sym name ∙ ap (λ (f : NetFields). name_of f) same
next_named (Q.Own o ∷ rest) drawn m g some head = absurd (let other : Some (Q.Own o) ≡ Some (Q.Heard g) = head in cc)

again_named : (s : Friendship) (kept : Option KeptPdu) (answered : Bool) (drawn m : Name) (g : NetFields) → IsKept s → s.kept ≡ kept
    → s.answered ≡ answered → answer_name drawn (answer_again kept) ≡ Some m
    → cond answered (first_of s.queue) None ≡ Some (Q.Heard g) → m ≡ name_of g
again_named s None answered drawn m g is_kept k a some head = absurd (let none : None ≡ Some m = some in cc)
again_named s (Some k) false drawn m g is_kept h a some head = absurd (let none : None ≡ Some (Q.Heard g) = head in cc)
again_named s (Some k) true drawn m g is_kept h a some head =
    let name : k.name ≡ m = cc in
    sym name ∙ is_kept k g h a head

named : (repeated : Bool) (s : Friendship) (drawn m : Name) (g : NetFields) → IsKept s
    → answer_name drawn (cond repeated (answer_again s.kept) (answer_next (queue_left s))) ≡ Some m
    → cond repeated (cond s.answered (first_of s.queue) None) (first_of (queue_left s)) ≡ Some (Q.Heard g) → m ≡ name_of g
named true s drawn m g is_kept some head = again_named s s.kept s.answered drawn m g is_kept refl refl some head
named false s drawn m g is_kept some head = next_named (queue_left s) drawn m g some head

pub names_are_kept : NamesAreKept
names_are_kept x drawn n f h some head = named (is_again (fsn_of x.lpn) x.friend) x.friend drawn n f h.kept some head

-- what a Poll leaves has what it answered first in its queue
head_left : (f : Bool) (s : Friendship) (now : ℕ) (g : NetFields) → (polled now f s).answered ≡ true
    → first_of (polled now f s).queue ≡ Some (Q.Heard g)
    → cond (is_again f s) (cond s.answered (first_of s.queue) None) (first_of (queue_left s)) ≡ Some (Q.Heard g)
head_left f s now g = test (is_again f s)
  where
    test : (repeated : Bool)
        → (cond repeated (record s { until = renewed now s })
        (record s {
          until = renewed now s;
          fsn = Some f;
          answered = not (is_empty (queue_left s));
          kept = None;
          queue = queue_left s;
        })).answered
        ≡ true
        → first_of
        (cond repeated (record s { until = renewed now s })
        (record s {
          until = renewed now s;
          fsn = Some f;
          answered = not (is_empty (queue_left s));
          kept = None;
          queue = queue_left s;
        })).queue
        ≡ Some (Q.Heard g)
        → cond repeated (cond s.answered (first_of s.queue) None) (first_of (queue_left s)) ≡ Some (Q.Heard g)
    test true a head = ap (λ b. cond b (first_of s.queue) None) a ∙ head
    test false a head = head

kept_polled : (f : Bool) (s : Friendship) (now : ℕ) → IsKept s → IsKept (polled now f s)
kept_polled f s now is_kept = test (is_again f s)
  where
    test : (repeated : Bool)
        → IsKept
        (cond repeated (record s { until = renewed now s })
        (record s {
          until = renewed now s;
          fsn = Some f;
          answered = not (is_empty (queue_left s));
          kept = None;
          queue = queue_left s;
        }))
    test true = is_kept
    test false = λ k g some a head. absurd (let none : None ≡ Some k = some in cc)

kept_served : (f : Bool) (s : Friendship) (now : ℕ) (octets : List ℕ) (n : Option Name) → IsKept (polled now f s)
    → ((m : Name) (g : NetFields) → n ≡ Some m → (polled now f s).answered ≡ true → first_of (polled now f s).queue ≡ Some (Q.Heard g)
    → m ≡ name_of g)
    → IsKept (served now f n octets s)
kept_served f s now octets None is_kept names = is_kept
kept_served f s now octets (Some m) is_kept names = test (is_noted (polled now f s).lpn f (polled now f s))
  where
    test : (b : Bool) → IsKept (cond b (with_kept m octets (polled now f s)) (polled now f s))
    test true = λ k g some a head.
        let kept : record { name = m; pdu = octets } ≡ k = cc in
        sym (ap (λ (l : KeptPdu). l.name) kept) ∙ names m g refl a head
    test false = is_kept

kept_after : (x : Sides) (now : ℕ) (drawn : Name) (octets : List ℕ) → AreFriends x
    → IsKept (served now (fsn_of x.lpn) (answering x drawn) octets x.friend)
kept_after x now drawn octets h =
    kept_served (fsn_of x.lpn) x.friend now octets (answering x drawn) (kept_polled (fsn_of x.lpn) x.friend now h.kept)
    (λ m g some a head. names_are_kept x drawn m g h some (head_left (fsn_of x.lpn) x.friend now g a head))

-- the Low Power node

fsn_is : (st : LowPowerState) (g : Friend) → st.standing ≡ S.Befriended g → fsn_of st ≡ g.fsn
fsn_is st g h = ap (λ s. option_map_or (λ (f : Friend). f.fsn) (friend_of s) false) h

-- what hearing an answer leaves of it
record Heard (st left : LowPowerState) (takes : Bool) : Type 0 where
  friend : Friend
  standing : left.standing ≡ S.Befriended friend
  fsn : fsn_of left ≡ cond takes (not (fsn_of st)) (fsn_of st)

after_heard : (st : LowPowerState) (g : Friend) (n : Option Name) → st.standing ≡ S.Befriended g → Heard st (after_answer st n) (takes st n)
after_heard st g None h = record { friend = g; standing = h; fsn = refl }
after_heard st g (Some m) h = test (is_answer true (heard_as st true m))
  where
    test : (b : Bool) → Heard st (cond b (answered st m) st) b
    test true =
        record {
          friend = record g { fsn = not g.fsn; polling = false };
          standing = ap closed h;
          fsn = fsn_is (answered st m) (record g { fsn = not g.fsn; polling = false }) (ap closed h) ∙ ap not (sym (fsn_is st g h));
        }
    test false = record { friend = g; standing = h; fsn = refl }

after_poll : (st : LowPowerState) (g : Friend) → st.standing ≡ S.Befriended g → Heard st (after st poll) false
after_poll st g h =
    record {
      friend = record g { polling = true };
      standing = ap polled_standing h;
      fsn = fsn_is (after st poll) (record g { polling = true }) (ap polled_standing h) ∙ sym (fsn_is st g h);
    }

-- A turn

no_drop : {A : Type 0} (k : ℕ) (xs : List A) → k ≡ 0 → drop k xs ≡ xs
no_drop k xs h = ap (λ n. drop n xs) h

fits : (q : List QueueEntry) (e : QueueEntry) → length q < FRIEND_QUEUE → last_of FRIEND_QUEUE (q ++ e ∷ []) ≡ q ++ e ∷ []
fits q e h = no_drop (length (q ++ e ∷ []) - FRIEND_QUEUE) (q ++ e ∷ []) (omega (arith, h, length-append q (e ∷ [])))

left_more : (answered : Bool) (q : List QueueEntry) (e : QueueEntry) → (answered ≡ true → 1 ≤ length q)
    → cond answered (drop 1 (q ++ e ∷ [])) (q ++ e ∷ []) ≡ cond answered (drop 1 q) q ++ e ∷ []
left_more false q e first = refl
left_more true [] e first = absurd (omega (arith, first refl))
left_more true (d ∷ q) e first = refl

first_more : (q : List QueueEntry) (e : QueueEntry) → 1 ≤ length q → first_of (q ++ e ∷ []) ≡ first_of q
first_more [] e h = absurd (omega (arith, h))
first_more (d ∷ q) e h = refl

record Kept (x : Sides) (turn : Turn) : Type 0 where
  all : taken x turn ++ waiting (after_turn x turn) ≡ waiting x ++ comers turn
  friends : AreFriends (after_turn x turn)

came : (x : Sides) (e : QueueEntry) → AreFriends x → length x.friend.queue < FRIEND_QUEUE → Kept x (comes e)
came x e h room =
    let s = x.friend in
    let small : nat_lt (length s.queue) FRIEND_QUEUE ≡ true = lt-ltb (length s.queue) FRIEND_QUEUE room in
    let same : (s.answered && nat_lt (length s.queue) FRIEND_QUEUE) ≡ s.answered = ap (λ b. s.answered && b) small ∙ and_true s.answered in
    let queue : (queued e s).queue ≡ s.queue ++ e ∷ [] = fits s.queue e room in
    let left : queue_left (queued e s) ≡ queue_left s ++ e ∷ [] =
    ap (λ b. cond b (drop 1 (queued e s).queue) (queued e s).queue) same
    ∙ ap (λ (q : List QueueEntry). cond s.answered (drop 1 q) q) queue
    ∙ left_more s.answered s.queue e h.first in
    record {
      all = both (is_again (fsn_of x.lpn) s) (queued e s).queue (queue_left (queued e s)) s.queue (queue_left s) (e ∷ []) queue left;
      friends = record {
        friend = h.friend;
        standing = h.standing;
        first = λ a. omega (arith, room, ap (λ (q : List QueueEntry). length q) queue, length-append s.queue (e ∷ []));
        kept = λ k f some a head.
            let was : s.answered ≡ true = sym same ∙ a in
            h.kept k f some was (sym (first_more s.queue e (h.first was)) ∙ ap first_of (sym queue) ∙ head);
      };
    }
  where
    and_true : (b : Bool) → (b && true) ≡ b
    and_true true = refl
    and_true false = refl

    both : (again : Bool) (q l r k more : List QueueEntry) → q ≡ r ++ more → l ≡ k ++ more → cond again q l ≡ cond again r k ++ more
    both true q l r k more h i = h
    both false q l r k more h i = i

lost : (x : Sides) → AreFriends x → Kept x poll_lost
lost x h =
    let p = after_poll x.lpn h.friend h.standing in
    record {
      all = ap (λ f. cond (is_again f x.friend) x.friend.queue (queue_left x.friend)) p.fsn ∙ sym (append-nil (waiting x));
      friends = record { friend = p.friend; standing = p.standing; first = h.first; kept = h.kept };
    }

unheard : (x : Sides) (now : ℕ) (drawn : Name) (octets : List ℕ) → AreFriends x → Kept x (answer_lost now drawn octets)
unheard x now drawn octets h =
    let p = after_poll x.lpn h.friend h.standing in
    let f = fsn_of x.lpn in
    let t = served now f (answering x drawn) octets x.friend in
    let q = served_polled f (answering x drawn) octets now x.friend h.first in
    record {
      all = ap (λ g. cond (is_again g t) t.queue (queue_left t)) p.fsn ∙ ap (λ b. cond b t.queue (queue_left t)) q.again ∙ q.queue
          ∙ sym (append-nil (waiting x));
      friends = record { friend = p.friend; standing = p.standing; first = q.first; kept = kept_after x now drawn octets h };
    }

heard : (x : Sides) (now : ℕ) (drawn : Name) (octets : List ℕ) → AreFriends x → Kept x (answer_heard now drawn octets)
heard x now drawn octets h =
    let n = answering x drawn in
    let p = after_poll x.lpn h.friend h.standing in
    let r = after_heard (after x.lpn poll) p.friend n p.standing in
    let f = fsn_of x.lpn in
    let t = served now f n octets x.friend in
    let q = served_polled f n octets now x.friend h.first in
    let left = after_answer (after x.lpn poll) n in
    record {
      all = test (takes (after x.lpn poll) n) (fsn_of left) f t x.friend q (r.fsn ∙ ap (λ g. cond (takes (after x.lpn poll) n) (not g) g) p.fsn)
          ∙ sym (append-nil (waiting x));
      friends = record { friend = r.friend; standing = r.standing; first = q.first; kept = kept_after x now drawn octets h };
    }
  where
    test : (b g f : Bool) (t s : Friendship) → Polled f s t (is_again f s) → g ≡ cond b (not f) f
        → cond b (option_to_list (carried f s)) [] ++ cond (is_again g t) t.queue (queue_left t) ≡ cond (is_again f s) s.queue (queue_left s)
    test true g f t s q e =
        ap (λ k. option_to_list (carried f s) ++ cond (is_again k t) t.queue (queue_left t)) e
        ∙ ap (λ b. option_to_list (carried f s) ++ cond b t.queue (queue_left t)) q.other ∙ q.carries ∙ q.queue
    test false g f t s q e =
        ap (λ k. cond (is_again k t) t.queue (queue_left t)) e ∙ ap (λ b. cond b t.queue (queue_left t)) q.again ∙ q.queue

kept : (x : Sides) (turn : Turn) → AreFriends x → HasRoom x turn → Kept x turn
kept x (comes e) h room = came x e h room
kept x poll_lost h room = lost x h
kept x (answer_lost now drawn octets) h room = unheard x now drawn octets h
kept x (answer_heard now drawn octets) h room = heard x now drawn octets h

pub begin : BeginAsFriends
begin st friends now net at =
    record {
      friend = record {
        credentials = record { friend = at; lpn_counter = st.seeks; friend_counter = friends.offers };
        fsn = false;
        polling = true;
      };
      standing = refl;
      first = λ h. absurd (true≢false (sym h));
      kept = λ k f some a head. absurd (true≢false (sym a));
    }

pub stay : StayFriends
stay x [] h room = h
stay x (turn ∷ turns) h room = stay (after_turn x turn) turns (kept x turn h room.0).friends room.1

pub each_once : EachOnce
each_once x [] h room = sym (append-nil (waiting x))
each_once x (turn ∷ turns) h room =
    let k = kept x turn h room.0 in
    let rest = each_once (after_turn x turn) turns k.friends room.1 in
    append_assoc (taken x turn) (all_taken (after_turn x turn) turns) (waiting (at_end (after_turn x turn) turns))
    ∙ ap (λ (l : List QueueEntry). taken x turn ++ l) rest
    ∙ sym (append_assoc (taken x turn) (waiting (after_turn x turn)) (all_comers turns))
    ∙ ap (λ (l : List QueueEntry). l ++ all_comers turns) k.all
    ∙ append_assoc (waiting x) (comers turn) (all_comers turns)

pub answers_are_taken : AnswersAreTaken
unfolding after_poll
answers_are_taken x drawn n h some other =
    let p = after_poll x.lpn h.friend h.standing in
    ap (λ o. takes (after x.lpn poll) o) some
    ∙ ap (λ s. is_answer true (cond (true && not (is_polling s)) Unasked (cond (is_closing x.lpn.closed_by n) Repeat Pass))) p.standing
    ∙ ap (λ b. is_answer true (cond (true && not (is_polling (S.Befriended p.friend))) Unasked (cond b Repeat Pass))) other
