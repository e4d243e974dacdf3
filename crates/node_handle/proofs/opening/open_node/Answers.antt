use Rattle.mesh_machine.specs.contracts.machine.MeshMachine as MeshMachine
use denote.Param.Send.{IsSend, sendable}
use Rattle.mesh_machine.proofs.Crossing.{machine_send}
use Rattle.std.proofs.Common.{rules, ◌≡◌}
use Rattle.node_handle.proofs.Begun.{opened}
use Rattle.node_handle.proofs.opening.open_node.Goals as goal

pub returns-in-Ok-clause-ok : goal.returns-in-Ok-clause-ok
returns-in-Ok-clause-ok c =
    let same : c.in-Ok.node.value.calls ≡ c.new-calls.result = search rules in
    let held = c.in_ok-life.ensures in
    opened _ _ c.args.image.now _ c.in_ok-life.life c.new-calls.result c.in-Ok.node.value.calls c.in_ok-line.ensures.first held.start held.uncalled held.unprogrammed held.saved
    c.new-calls.ensures.begun same held.writes

pub new-calls-requires-send-M : goal.new-calls-requires-send-M
new-calls-requires-send-M c κs = let sent : IsSend MeshMachine.the_row = machine_send in search sendable
