-- Lists of friendships and offers.
use Rattle.std.proofs.Common.{◌≡◌, ℕ, ◌+◌, ◌<◌, Bool, true, false, cond, List, [], ◌∷◌, ◌++◌, length, take, get_or, map, filter, set, drop, refl, sym, ap, ◌∙◌, Option, Some, None}
use Rattle.std.proofs.lemmas.Bool.{or_parts}
use Rattle.std.proofs.lemmas.List.Edits.{map_over_more}
use Rattle.std.specs.Prelude.{◌&&◌, ◌||◌, ◌==◌, not, if◌then◌else◌, count_by, find, Result, Ok, Err}
use Rattle.std.specs.List.{list_any}
use Rattle.std.proofs.lemmas.List.{map-append, take_more}
use Rattle.std.proofs.lemmas.List.Elements.{filter-append}
use Rattle.std.proofs.lemmas.List.Sums.{length-filter}
use Rattle.std.specs.Option.{option_map_or}
use Rattle.layer_states.specs.Friends.{change_where, friend_keys, heard_of, is_friendship, is_of, poll_answer, poll_clear, poll_result, poll_timeouts, standing}
use Rattle.layer_states.specs.declared.friends.FriendFault.{FriendFault}
use Rattle.layer_states.specs.declared.friends.FriendFault.TheVariants.{Stranger}
use Rattle.layer_states.specs.declared.friends.Polled.{Polled}
use Rattle.mesh_base.specs.declared.address.Address.{Address}
use Rattle.layer_states.specs.declared.friends.Friendship.{Friendship}
use Rattle.mesh_base.specs.declared.fields.Heard.{Heard}

-- Two tests at once are one after the other.

filter_filtered : {X : Type 0} (q p : X → Bool) (xs : List X) → filter (λ x. q x && p x) xs ≡ filter p (filter q xs)
filter_filtered q p [] = refl
filter_filtered q p (x ∷ xs) =
    let both = filter (λ y. q y && p y) xs in
    let rest = filter q xs in
    elim (q x) as (λ b. cond (b && p x) (x ∷ both) both ≡ filter p (cond b (x ∷ rest) rest)) [
      | true ↦ ap (λ l. cond (p x) (x ∷ l) l) (filter_filtered q p xs)
      | false ↦ filter_filtered q p xs
    ]

pub count_filtered : {X : Type 0} (q p : X → Bool) (xs : List X) → count_by (λ x. q x && p x) xs ≡ length (filter p (filter q xs))
count_filtered {X = X} q p xs = sym (length-filter (λ x. q x && p x) xs) ∙ ap (λ (l : List X). length l) (filter_filtered q p xs)

pub find_filtered : {X : Type 0} (q p : X → Bool) (xs : List X) → find (λ x. q x && p x) xs ≡ find p (filter q xs)
find_filtered q p [] = refl
find_filtered q p (x ∷ xs) =
    elim (q x) as (λ b. cond (b && p x) (Some x) (find (λ y. q y && p y) xs) ≡ find p (cond b (x ∷ filter q xs) (filter q xs))) [
      | true ↦ ap (λ o. cond (p x) (Some x) o) (find_filtered q p xs)
      | false ↦ find_filtered q p xs
    ]

pub any_filtered : {X : Type 0} (q p : X → Bool) (xs : List X) → list_any (λ x. q x && p x) xs ≡ list_any p (filter q xs)
any_filtered q p [] = refl
any_filtered q p (x ∷ xs) =
    elim (q x) as (λ b. ((b && p x) || list_any (λ y. q y && p y) xs) ≡ list_any p (cond b (x ∷ filter q xs) (filter q xs))) [
      | true ↦ ap (λ b. p x || b) (any_filtered q p xs)
      | false ↦ any_filtered q p xs
    ]

-- What is found passes the test, and so one does.

pub found_any : {X : Type 0} (p : X → Bool) (xs : List X) (y : X) → find p xs ≡ Some y → list_any p xs ≡ true
found_any p [] y h = cc
found_any p (x ∷ xs) y h =
    (elim (p x) as (λ b. p x ≡ b → cond b (Some x) (find p xs) ≡ Some y → (b || list_any p xs) ≡ true) [
      | true ↦ λ t u. refl
      | false ↦ λ t u. found_any p xs y u
    ]) refl h

pub lacks_any : {X : Type 0} (p : X → Bool) (xs : List X) → find p xs ≡ None → list_any p xs ≡ false
lacks_any p [] h = refl
lacks_any p (x ∷ xs) h =
    (elim (p x) as (λ b. cond b (Some x) (find p xs) ≡ None → (b || list_any p xs) ≡ false) [
      | true ↦ λ u. cc
      | false ↦ λ u. lacks_any p xs u
    ]) h

-- Where none passes a test nothing is changed, and nothing goes.

pub change_none : (p : Friendship → Bool) (f : Friendship → Friendship) (xs : List Friendship) → list_any p xs ≡ false → change_where p f xs ≡ xs
change_none p f [] h = refl
change_none p f (x ∷ xs) h =
    ap (λ b. cond b (f x) x ∷ change_where p f xs) (or_parts (p x) (list_any p xs) h).0 ∙ ap (λ l. x ∷ l) (change_none p f xs (or_parts (p x) (list_any p xs) h).1)

pub drop_none : (p : Friendship → Bool) (xs : List Friendship) → list_any p xs ≡ false → filter (λ x. not (p x)) xs ≡ xs
drop_none p [] h = refl
drop_none p (x ∷ xs) h =
    ap (λ b. cond (not b) (x ∷ filter (λ y. not (p y)) xs) (filter (λ y. not (p y)) xs)) (or_parts (p x) (list_any p xs) h).0
    ∙ ap (λ l. x ∷ l) (drop_none p xs (or_parts (p x) (list_any p xs) h).1)

-- One friendship more.

pub heard_more : (nid : ℕ) (slots : List Friendship) (i : ℕ) (d : Friendship) → i < length slots
    → filter (λ (h : Heard). h.material.nid == nid) (friend_keys (take i slots)) ++ filter (λ (h : Heard). h.material.nid == nid) (friend_keys (get_or slots i d ∷ []))
    ≡ filter (λ (h : Heard). h.material.nid == nid) (friend_keys (take (i + 1) slots))
heard_more nid slots i d l =
    let test : Heard → Bool = λ h. h.material.nid == nid in
    sym (filter-append test (friend_keys (take i slots)) (friend_keys (get_or slots i d ∷ [])))
    ∙ ap (λ hs. filter test hs) (sym (map-append heard_of (take i slots) (get_or slots i d ∷ [])))
    ∙ ap (λ s. filter test (friend_keys s)) (sym (take_more slots i d l))

pub polls_more : (slots : List Friendship) (i : ℕ) (d : Friendship) → i < length slots
    → poll_timeouts (take i slots) ++ poll_timeouts (get_or slots i d ∷ []) ≡ poll_timeouts (take (i + 1) slots)
polls_more slots i d l =
    sym (map-append (λ (s : Friendship). (s.lpn, s.request.poll_timeout)) (filter is_friendship (take i slots)) (filter is_friendship (get_or slots i d ∷ [])))
    ∙ ap (λ s. map (λ (s : Friendship). (s.lpn, s.request.poll_timeout)) s) (sym (filter-append is_friendship (take i slots) (get_or slots i d ∷ [])))
    ∙ ap (λ s. poll_timeouts s) (sym (take_more slots i d l))

-- One friendship more is changed.
pub changed_more : (p : Friendship → Bool) (f : Friendship → Friendship) (slots now : List Friendship) (i : ℕ) (d y : Friendship) → i < length slots
    → now ≡ change_where p f (take i slots) ++ drop i slots → d ≡ get_or now i d
    → y ≡ (if p (get_or now i d) then f (get_or now i d) else get_or now i d)
    → set now i y ≡ change_where p f (take (i + 1) slots) ++ drop (i + 1) slots
changed_more p f slots now i d y l inv at e =
    ap (λ z. set now i z) e ∙ map_over_more (λ s. if p s then f s else s) slots now i (get_or now i d) l inv (ap (λ z. get_or now i z) at)

-- What a Poll leads to, by the first that stands of its Low Power node.
abbrev pub leads_to : Bool → Option Friendship → Result Polled FriendFault
leads_to fsn o = option_map_or (λ s. Ok (record { answer = poll_answer fsn s; clear = poll_clear s })) o (Err Stranger)

no_slot : (fsn : Bool) (o : Option Friendship) (e : FriendFault) → leads_to fsn o ≡ Err e → o ≡ None
no_slot fsn None e h = refl
no_slot fsn (Some s) e h = cc

pub refused_poll : (slots : List Friendship) (now : ℕ) (lpn : Address) (fsn : Bool) (e : FriendFault) → poll_result slots now lpn fsn ≡ Err e
    → list_any (is_of lpn) (standing now slots) ≡ false
refused_poll slots now lpn fsn e h = lacks_any (is_of lpn) (standing now slots) (no_slot fsn (find (is_of lpn) (standing now slots)) e h)
