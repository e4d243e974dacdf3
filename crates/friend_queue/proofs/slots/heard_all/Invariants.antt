-- The credentials of the slots so far.
use Rattle.std.proofs.Common.{◌≡◌, ◌≤◌, length, take}
use Rattle.std.specs.Prelude.{◌==◌, filter}
use Rattle.layer_states.specs.Friends.{friend_keys}
use Rattle.mesh_base.specs.declared.fields.Heard.{Heard}
use Rattle.friend_queue.proofs.slots.heard_all.Given as goal

abbrev pub invariant-loop-s : goal.invariant-loop-s
invariant-loop-s l =
    record {
      heard : l.list ≡ filter (λ (h : Heard). h.material.nid == l.nid) (friend_keys (take l.s-index l.slots));
      few : length l.list ≤ l.s-index;
    }
