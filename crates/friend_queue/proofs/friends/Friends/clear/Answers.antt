use Rattle.std.proofs.Common.{◌≡◌, ◌∙◌, List, false, ap, subst, sym}
use Rattle.std.specs.List.{list_any}
use Rattle.layer_states.specs.Friends.{FriendsState, is_cleared}
use Rattle.layer_states.specs.declared.friends.Friendship.{Friendship}
use Rattle.friend_queue.proofs.Friendships.{drop_none}
use Rattle.friend_queue.proofs.friends.Friends.clear.Goals as goal

pub returns-then-not-has_cleared-clause-state : goal.returns-then-not-has_cleared-clause-state
returns-then-not-has_cleared-clause-state c =
    let LacksAny : List Friendship → Type 0 = λ slots. list_any (is_cleared c.args.lpn c.args.counter) slots ≡ false in
    let lacks : LacksAny c.args.self.now.slots =
    subst LacksAny (c.as_slice.ensures.value ∙ ap (λ v. v.slots) c.self.view_is) (sym c.has_cleared.ensures ∙ c.if-not-has_cleared.true) in
    let state : List Friendship → FriendsState = λ slots. record { slots = slots; offers = c.args.self.now.offers } in
    ap state (sym (drop_none (is_cleared c.args.lpn c.args.counter) c.args.self.now.slots lacks))
