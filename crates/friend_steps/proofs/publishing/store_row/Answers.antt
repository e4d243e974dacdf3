use Rattle.std.proofs.Common.{◌≡◌, false}
use Rattle.friend_steps.proofs.Published.{row_stays}
use Rattle.layer_states.specs.Friends.{is_befriended}
use Rattle.node_records.specs.Tables.{config_in}
use Rattle.friend_steps.proofs.publishing.store_row.Goals as goal

pub returns-then-not-is_befriended-clause-state : goal.returns-then-not-is_befriended-clause-state
returns-then-not-is_befriended-clause-state c =
    let none : is_befriended c.args.friends.now.slots c.args.due.now.row.address ≡ false =
    cc (c.is_befriended.ensures.value, c.if-not-is_befriended.true) in
    row_stays c.args.friends.now (config_in c.args.p.now) c.args.due.now none
