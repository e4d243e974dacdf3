-- Messages of this node that are stored: one by one, and to strangers.
use Rattle.std.proofs.Common.{◌≡◌, ◌∙◌, ℕ, ◌+◌, ◌<◌, ◌≤◌, append_assoc, arith, get_or, length, subst, take, Bool, true, false, cond, List, [], ◌∷◌, ◌++◌, map, fold, refl, sym, ap, Option, Some, None}
use Rattle.std.specs.Prelude.{◌&&◌, not, All, IfSome}
use Rattle.std.specs.Option.{option_to_list}
use Rattle.std.proofs.lemmas.List.Sums.{fold-append}
use Rattle.std.proofs.lemmas.List.{get_or-map, length-map, map-append, map_more}
use Rattle.std.proofs.lemmas.List.Elements.{All-get_or, All-head, All-tail, filter-append}
use Rattle.element_models.specs.Messages.{HasOctet, reply_in}
use Rattle.element_models.specs.declared.taken.Reply.{Reply}
use Rattle.mesh_jobs.specs.Replying.{replies_sent}
use Rattle.friend_steps.specs.Replying.{ended, replied_left, reply_short}
use Rattle.layer_states.specs.Friends.{FriendCall, FriendsState, after, has_address, is_befriended, is_friendship, put_own, queued}
use Rattle.layer_states.specs.declared.friends.Friendship.{Friendship}
use Rattle.layer_states.specs.declared.friends.OwnShort.{OwnShort}
use Rattle.layer_states.specs.declared.friends.QueueEntry.TheVariants as Q
use Rattle.mesh_base.specs.declared.address.Address.{Address}
use Rattle.node_friends.proofs.Queues.{change_none}
use Rattle.node_friends.proofs.Steps.{stored_more}
use Rattle.node_friends.specs.Steps.{after_sent}
use Rattle.node_layers.specs.Friendship.{is_short, stored}
use Rattle.node_models.specs.Replies.{from_first}
use Rattle.event_definitions.specs.Layers.{AccessMessage}

pub sent_append : (st : FriendsState) (xs ys : List OwnShort) → after_sent st (xs ++ ys) ≡ after_sent (after_sent st xs) ys
sent_append st xs ys =
    ap (λ (calls : List FriendCall). fold after st calls) (stored_more xs ys) ∙ fold-append after st (stored xs) (stored ys)

-- a message that doesn't go unsegmented isn't stored
pub long_stays : (st : FriendsState) (m : OwnShort) → is_short m.payload ≡ false → after_sent st (m ∷ []) ≡ st
long_stays st m e = ap (λ b. fold after st (map put_own (cond b (m ∷ []) []))) e

-- nor is one to an address of no friendship
put_stays : (st : FriendsState) (m : OwnShort) → is_befriended st.slots m.dst ≡ false → after st (put_own m) ≡ st
put_stays st m e =
    ap (λ (slots : List Friendship). record st { slots = slots })
    (change_none (λ s. is_friendship s && has_address s m.dst) (queued (Q.Own m)) st.slots e)

pub stranger_stays : (st : FriendsState) (m : OwnShort) → is_befriended st.slots m.dst ≡ false → after_sent st (m ∷ []) ≡ st
stranger_stays st m e = by_length (is_short m.payload)
  where
    by_length : (b : Bool) → fold after st (map put_own (cond b (m ∷ []) [])) ≡ st
    by_length true = put_stays st m e
    by_length false = refl

-- Replies, which all go to the source of the message.

module _ (unicast : Address) (ttl : ℕ) (m : AccessMessage) where
  strangers_stay : (st : FriendsState) (replies : List (ℕ × List ℕ)) → is_befriended st.slots m.name.src ≡ false
      → after_sent st (map (reply_short unicast ttl m) replies) ≡ st
  strangers_stay st [] e = refl
  strangers_stay st (reply ∷ replies) e =
      sent_append st (reply_short unicast ttl m reply ∷ []) (map (reply_short unicast ttl m) replies)
      ∙ ap (λ (s : FriendsState). after_sent s (map (reply_short unicast ttl m) replies))
      (stranger_stays st (reply_short unicast ttl m reply) e)
      ∙ strangers_stay st replies e

  pub none_stored : (st : FriendsState) (ends : Bool) (replies : List (ℕ × List ℕ))
      → is_befriended (ended ends st).slots m.name.src ≡ false → ended ends st ≡ replied_left st unicast ttl ends m replies
  none_stored st ends replies e = sym (strangers_stay (ended ends st) replies e)

-- which of them are sent

pub all_sent : (b : Bool) (replies : List (ℕ × List ℕ)) → b ≡ false → replies_sent b replies ≡ replies
all_sent true replies e = cc
all_sent false [] e = refl
all_sent false (reply ∷ replies) e = ap (λ l. reply ∷ l) (all_sent false replies e)

none_left : (b : Bool) (conf left : Option (List ℕ)) (rest : List (ℕ × List ℕ)) → b ≡ true
    → map from_first (option_to_list left) ≡ replies_sent true (map from_first (option_to_list conf)) → replies_sent true rest ≡ []
    → map from_first (option_to_list left) ++ [] ≡ replies_sent b (map from_first (option_to_list conf) ++ rest)
none_left true conf left rest e first models =
    ap (λ (rs : List (ℕ × List ℕ)). rs ++ []) first
    ∙ sym (ap (λ (rs : List (ℕ × List ℕ)). replies_sent true (map from_first (option_to_list conf)) ++ rs) models)
    ∙ sym (filter-append (λ (reply : ℕ × List ℕ). not (true && is_short reply.1)) (map from_first (option_to_list conf)) rest)
none_left false conf left rest e first models = cc

pub left_are : (b : Bool) (conf left : Option (List ℕ)) (models none : List Reply) → b ≡ true → none ≡ []
    → map from_first (option_to_list left) ≡ replies_sent true (map from_first (option_to_list conf))
    → replies_sent true (map reply_in models) ≡ []
    → map from_first (option_to_list left) ++ map reply_in none ≡ replies_sent b (map from_first (option_to_list conf) ++ map reply_in models)
left_are b conf left models none e empty first rest =
    ap (λ (rs : List Reply). map from_first (option_to_list left) ++ map reply_in rs) empty
    ∙ none_left b conf left (map reply_in models) e first rest

-- Each reply has an octet.

pub first_octet : (conf : Option (List ℕ)) (rest : List (ℕ × List ℕ)) → All HasOctet (map from_first (option_to_list conf) ++ rest)
    → IfSome conf (λ first. 1 ≤ length first)
first_octet None rest h = tt
first_octet (Some first) rest h = All-head HasOctet (0, first) rest h

pub rest_octets : (conf : Option (List ℕ)) (rest : List (ℕ × List ℕ)) → All HasOctet (map from_first (option_to_list conf) ++ rest)
    → All HasOctet rest
rest_octets None rest h = h
rest_octets (Some first) rest h = All-tail HasOctet (0, first) rest h

pub octet_at : (models items : List Reply) (i : ℕ) (reply : Reply) → items ≡ models → reply ≡ get_or items i reply → i < length items
    → All HasOctet (map reply_in models) → 1 ≤ length reply.payload
octet_at models items i reply same is l all =
    let within : i < length (map reply_in models) = omega (arith, l, ap (λ (rs : List Reply). length rs) same, length-map models reply_in) in
    let there : get_or (map reply_in models) i (reply_in reply) ≡ reply_in reply =
    get_or-map reply_in models i reply (reply_in reply) (omega (arith, l, ap (λ (rs : List Reply). length rs) same))
    ∙ ap (λ (rs : List Reply). reply_in (get_or rs i reply)) (sym same)
    ∙ ap (λ (r : Reply). reply_in r) (sym is) in
    subst HasOctet there (All-get_or HasOctet (map reply_in models) i (reply_in reply) within all)

-- One reply of the models more.

module _ (short : ℕ × List ℕ → OwnShort) (items : List Reply) (i : ℕ) (reply : Reply) (st new : FriendsState)
    (is : reply ≡ get_or items i reply) (l : i < length items) where
  more_is : map reply_in (take (i + 1) items) ≡ map reply_in (take i items) ++ reply_in reply ∷ []
  more_is =
      map_more reply_in items i reply l
      ∙ ap (λ (r : Reply). map reply_in (take i items) ++ reply_in r ∷ []) (sym is)

  pub stored_more_replies : {initial : FriendsState} → new ≡ after_sent st (short (reply_in reply) ∷ [])
      → replies_sent true (reply_in reply ∷ []) ≡ []
      → ((before : FriendsState) (sent : List OwnShort) → initial ≡ after_sent before sent
      → st ≡ after_sent before (sent ++ map short (map reply_in (take i items))))
      → replies_sent true (map reply_in (take i items)) ≡ []
      → record {
        state : (before : FriendsState) (sent : List OwnShort) → initial ≡ after_sent before sent
            → new ≡ after_sent before (sent ++ map short (map reply_in (take (i + 1) items)));
        left : replies_sent true (map reply_in (take (i + 1) items)) ≡ [];
      }
  stored_more_replies one none so_far left = record {
    state = λ before sent e.
        one
        ∙ ap (λ (s : FriendsState). after_sent s (short (reply_in reply) ∷ [])) (so_far before sent e)
        ∙ sym (sent_append before (sent ++ map short (map reply_in (take i items))) (short (reply_in reply) ∷ []))
        ∙ ap (λ (ms : List OwnShort). after_sent before ms)
        (append_assoc sent (map short (map reply_in (take i items))) (short (reply_in reply) ∷ [])
        ∙ ap (λ (ms : List OwnShort). sent ++ ms)
        (sym (map-append short (map reply_in (take i items)) (reply_in reply ∷ []))
        ∙ sym (ap (λ (rs : List (ℕ × List ℕ)). map short rs) more_is)));
    left =
        ap (λ (rs : List (ℕ × List ℕ)). replies_sent true rs) more_is
        ∙ filter-append (λ (r : ℕ × List ℕ). not (true && is_short r.1)) (map reply_in (take i items)) (reply_in reply ∷ [])
        ∙ ap (λ (rs : List (ℕ × List ℕ)). rs ++ replies_sent true (reply_in reply ∷ [])) left
        ∙ none;
  }
