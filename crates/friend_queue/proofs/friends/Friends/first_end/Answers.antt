use Rattle.std.proofs.Common.{◌≡◌, ◌↔◌, ◌∙◌, List, ap, false, subst}
use Rattle.friend_queue.specs.Ends.{is_over}
use Rattle.std.specs.List.{list_any}
use Rattle.layer_states.specs.Friends.{FriendsState}
use Rattle.layer_states.specs.declared.friends.Friendship.{Friendship}
use Rattle.friend_queue.proofs.Still.{still_where}
use Rattle.timer_ends.proofs.Firsts.{through}
use Rattle.timer_ends.specs.Ends.{IsBefore}
use Rattle.friend_queue.proofs.friends.Friends.first_end.Goals as goal

pub returns : goal.returns
returns c = record {
  still = λ now from time.
      let Ends : List Friendship → Type 0 =
      λ slots. (list_any (is_over now) slots ≡ false) ↔ IsBefore now c.first_until.result in
      through (still_where now c.args.self.now)
      (subst Ends (c.as_slice.ensures.value ∙ ap (λ (st : FriendsState). st.slots) c.self.view_is) (c.first_until.ensures now));
}
