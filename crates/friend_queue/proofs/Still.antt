-- Time leaves friendships and offers as they are exactly where the time of none is over.
use Rattle.std.proofs.Common.{◌≡◌, ◌↔◌, ℕ, ◌≤◌, Bool, true, false, cond, not, List, [], ◌∷◌, length, refl, sym, ap, arith}
use Rattle.std.proofs.lemmas.Bool.{or_parts}
use Rattle.std.specs.Prelude.{nat_lt}
use Rattle.std.specs.List.{list_any}
use Rattle.friend_queue.specs.Ends.{is_over}
use Rattle.layer_states.specs.Friends.{FriendsState, after, standing, tick}
use Rattle.layer_states.specs.declared.friends.Friendship.{Friendship}

fewer : (now : ℕ) (slots : List Friendship) → length (standing now slots) ≤ length slots
fewer now [] = omega arith
fewer now (s ∷ slots) = more (nat_lt now s.until) (fewer now slots)
  where
    more : (b : Bool) → length (standing now slots) ≤ length slots
        → length (cond b (s ∷ standing now slots) (standing now slots)) ≤ length (s ∷ slots)
    more true h = omega (arith, h)
    more false h = omega (arith, h)

all_stand : (now : ℕ) (slots : List Friendship) → list_any (is_over now) slots ≡ false → standing now slots ≡ slots
all_stand now [] h = refl
all_stand now (s ∷ slots) h =
    let parts = or_parts (is_over now s) (list_any (is_over now) slots) h in
    let stands : nat_lt now s.until ≡ true = negated (nat_lt now s.until) parts.0 in
    rw stands (ap (λ (l : List Friendship). s ∷ l) (all_stand now slots parts.1))
  where
    negated : (b : Bool) → not b ≡ false → b ≡ true
    negated true h = refl
    negated false h = sym h

none_over : (now : ℕ) (slots : List Friendship) → standing now slots ≡ slots → list_any (is_over now) slots ≡ false
none_over now [] h = refl
none_over now (s ∷ slots) h =
    let left = one_left (nat_lt now s.until) h (fewer now slots) in
    rw left.0 (none_over now slots left.1)
  where
    one_left : (b : Bool) → cond b (s ∷ standing now slots) (standing now slots) ≡ s ∷ slots → length (standing now slots) ≤ length slots
        → (b ≡ true) × (standing now slots ≡ slots)
    one_left true h few = (refl, cc)
    one_left false h few = absurd (omega (arith, few, ap (λ (l : List Friendship). length l) h))

pub still_where : (now : ℕ) (st : FriendsState) → after st (tick now) ≡ st ↔ list_any (is_over now) st.slots ≡ false
still_where now st = (
  λ h. none_over now st.slots (ap (λ (t : FriendsState). t.slots) h),
  λ h. ap (λ (slots : List Friendship). record st { slots = slots }) (all_stand now st.slots h),
)
