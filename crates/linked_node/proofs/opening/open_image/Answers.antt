use Rattle.mesh_machine.specs.contracts.machine.MeshMachine as MeshMachine
use denote.Param.Send.{IsSend, sendable}
use Rattle.std.proofs.Common.{◌∙◌, subst, sym}
use Rattle.std.specs.Prelude.{IsTrue}
use Rattle.mesh_machine.proofs.Crossing.{machine_send}
use Rattle.node_store.specs.Tie.{IsNode}
use Rattle.linked_node.proofs.Migration.{of_migration}
use Rattle.linked_node.proofs.Opened.{reset_is}
use Rattle.linked_node.proofs.opening.open_image.Goals as goal

pub open-requires-send-M : goal.open-requires-send-M
open-requires-send-M c κs = let sent : IsSend MeshMachine.the_row = machine_send in search sendable

-- what was read is of the one image that the flash has, and it stays
pub open-requires-clause-node : goal.open-requires-clause-node
open-requires-clause-node c κs =
    let read = c.in-Ok-read_image.ensures in
    let fresh = c.in-Ok.ensures.fresh in
    record {
      honest = subst IsTrue (sym read.frame.honest) fresh.honest;
      each = λ image now. subst IsNode (sym (fresh.only image ((read.stays fresh.honest).images image now))) (read.node fresh.honest);
    }

pub returns-in-WasReset-clause-cause : goal.returns-in-WasReset-clause-cause
returns-in-WasReset-clause-cause c =
    let read = c.in-Ok-read_image.ensures in
    let made = c.in-Ok.ensures in
    let said = c.in-Err-open.ensures in
    reset_is _ _ _ c.args.image.now ((read.stays made.fresh.honest).now ∙ made.now) c.in-Err-open.unopened.flash c.in-Err-open.unopened.fault said.cause said.lost
    c.in-WasReset.is

-- what was counted since the flash was made is what opening called it for
pub returns-in-Ok-open-clause-writes : goal.returns-in-Ok-open-clause-writes
returns-in-Ok-open-clause-writes c =
    let read = c.in-Ok-read_image.ensures in
    let made = c.in-Ok.ensures in
    of_migration c.args.image.now _ _ _ ((read.stays made.fresh.honest).now ∙ made.now) (read.calls ∙ made.changes) c.in-Ok-open.ensures.opened
    (c.waiting_law.ensures.few c.in-Ok-open.node.node.flash)

pub returns-in-Ok-open-clause-node : goal.returns-in-Ok-open-clause-node
returns-in-Ok-open-clause-node c = subst IsNode c.in-Ok.ensures.now (c.in-Ok-read_image.ensures.node c.in-Ok.ensures.fresh.honest)
