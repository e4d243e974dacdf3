use Rattle.std.proofs.Common.{◌++◌, [], ◌∷◌, subst, sym}
use Rattle.friend_steps.proofs.Others.{kept_is}
use Rattle.layer_states.specs.Friends.{FriendsState}
use Rattle.mesh_types.specs.declared.events.Event.TheVariants as E
use Rattle.node_friends.specs.Steps.{AreFriendsOf}
use Rattle.friend_steps.proofs.sending.keep_octets.Goals as goal

pub returns-then-kept-clause-friends : goal.returns-then-kept-clause-friends
returns-then-kept-clause-friends c = λ past e are is nothing kept.
    subst (λ (s : FriendsState). AreFriendsOf s (past.told ++ e ∷ [])) (sym c.kept.ensures.state)
    (kept_is c.friends_law.ensures.more past.told c.args.friends.now e
    (E.Kept c.args.lpn c.args.fsn c.args.name.now c.args.pdu.now) are is nothing kept)
