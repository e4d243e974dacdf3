use Rattle.std.proofs.Common.{◌≡◌, ◌∙◌, Bool, List, false, ap, subst, sym}
use Rattle.std.specs.Prelude.{if◌then◌else◌}
use Rattle.std.specs.List.{list_any}
use Rattle.layer_states.specs.Friends.{FriendsState, change_where, is_of, polled, standing}
use Rattle.layer_states.specs.declared.friends.Friendship.{Friendship}
use Rattle.friend_queue.proofs.Friendships.{refused_poll}
use Rattle.friend_queue.proofs.friends.Friends.poll.Goals as goal

pub returns-in_err-polled-clause-state : goal.returns-in_err-polled-clause-state
returns-in_err-polled-clause-state c =
    let now = c.args.now in
    let lpn = c.args.lpn in
    let LacksAny : List Friendship → Type 0 = λ slots. list_any (is_of lpn) (standing now slots) ≡ false in
    let lacks : LacksAny c.args.self.now.slots =
    subst LacksAny (c.as_slice.ensures.value ∙ ap (λ v. v.slots) c.self.view_is)
    (refused_poll c.as_slice.result.now now lpn c.args.fsn c.in_err-polled.field-0.0 (sym c.poll_result.ensures ∙ c.in_err-polled.was)) in
    let slots = c.args.self.now.slots in
    let state : Bool → FriendsState =
    λ b. record {
      slots = if b then change_where (is_of lpn) (polled now c.args.fsn) (standing now slots) else slots;
      offers = c.args.self.now.offers;
    } in
    ap state (sym lacks)
