-- The rows so far are stored or left.
use Rattle.std.proofs.Common.{◌≡◌, ◌≤◌, length, take}
use Rattle.std.specs.List.{flat_map}
use Rattle.friend_steps.specs.Publishing.{row_short}
use Rattle.layer_states.specs.Friends.{is_befriended}
use Rattle.mesh_base.specs.declared.address.Address.{Address}
use Rattle.mesh_jobs.specs.Publishing.{rows_sent}
use Rattle.node_friends.specs.Steps.{after_sent}
use Rattle.node_records.specs.Tables.{config_in}
use Rattle.friend_steps.proofs.publishing.store_rows.Given as goal

abbrev pub invariant-loop-due : goal.invariant-loop-due
invariant-loop-due l =
    record {
      left : l.left ≡ rows_sent l.initial.friends.slots (take l.due-index l.rows);
      few : length l.left ≤ l.due-index;
      state : l.friends ≡ after_sent l.initial.friends (flat_map (row_short (config_in l.p)) (take l.due-index l.rows));
      befriended : (a : Address) → is_befriended l.friends.slots a ≡ is_befriended l.initial.friends.slots a;
    }
