use Rattle.std.proofs.Common.{◌<◌, ◌^◌, List, subst, sym}
use Rattle.std.specs.Prelude.{All}
use Rattle.mesh_base.specs.declared.fields.Heard.{Heard}
use Rattle.node_friends.proofs.Queues.{all_within}
use Rattle.node_friends.proofs.friends.NodeFriends.keys.Goals as goal

pub returns-clause-nid : goal.returns-clause-nid
returns-clause-nid c =
    subst (λ (keys : List Heard). All (λ (h : Heard). h.material.nid < 2 ^ 7) keys) (sym c.credentials.ensures.value)
    (all_within c.self.inside.friends.slots c.self.invariant)
