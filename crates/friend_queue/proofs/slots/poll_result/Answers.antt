use Rattle.std.proofs.Common.{◌≡◌, ◌∙◌, Some, None, ap}
use Rattle.std.specs.Prelude.{nat_lt, find}
use Rattle.layer_states.specs.Friends.{is_of, standing}
use Rattle.layer_states.specs.declared.friends.Friendship.{Friendship}
use Rattle.friend_queue.proofs.Friendships.{find_filtered, leads_to}
use Rattle.friend_queue.proofs.slots.poll_result.Goals as goal

pub returns-in-Some : goal.returns-in-Some
returns-in-Some c =
    let found : Some c.in-Some.s.now ≡ find (is_of c.args.lpn) (standing c.args.now c.args.slots.now) =
    c.in-Some.ensures ∙ find_filtered (λ (s : Friendship). nat_lt c.args.now s.until) (is_of c.args.lpn) c.args.slots.now in
    rw (c.poll_answer.ensures, c.poll_clear.ensures) (ap (λ o. leads_to c.args.fsn o) found)

pub returns-in-None : goal.returns-in-None
returns-in-None c =
    let found : None ≡ find (is_of c.args.lpn) (standing c.args.now c.args.slots.now) =
    c.in-None.ensures ∙ find_filtered (λ (s : Friendship). nat_lt c.args.now s.until) (is_of c.args.lpn) c.args.slots.now in
    ap (λ o. leads_to c.args.fsn o) found
