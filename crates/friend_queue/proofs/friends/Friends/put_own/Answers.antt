use Rattle.std.proofs.Common.{◌≡◌, ◌∙◌, List, false, ap, subst, sym}
use Rattle.std.specs.Prelude.{◌&&◌}
use Rattle.layer_states.specs.Friends.{FriendsState, has_address, is_befriended, is_friendship, queued}
use Rattle.layer_states.specs.declared.friends.Friendship.{Friendship}
use Rattle.layer_states.specs.declared.friends.QueueEntry.TheVariants as Q
use Rattle.friend_queue.proofs.Friendships.{change_none}
use Rattle.friend_queue.proofs.friends.Friends.put_own.Goals as goal

pub returns-then-not-has_befriended-clause-state : goal.returns-then-not-has_befriended-clause-state
returns-then-not-has_befriended-clause-state c =
    let LacksAny : List Friendship → Type 0 = λ slots. is_befriended slots c.args.m.now.dst ≡ false in
    let lacks : LacksAny c.args.self.now.slots =
    subst LacksAny (c.as_slice.ensures.value ∙ ap (λ v. v.slots) c.self.view_is) (sym c.has_befriended.ensures ∙ c.if-not-has_befriended.true) in
    let state : List Friendship → FriendsState = λ slots. record { slots = slots; offers = c.args.self.now.offers } in
    ap state (sym (change_none (λ s. is_friendship s && has_address s c.args.m.now.dst) (queued (Q.Own c.args.m.now)) c.args.self.now.slots lacks))
