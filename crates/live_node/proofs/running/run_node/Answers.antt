use Rattle.mesh_machine.specs.contracts.machine.MeshMachine as MeshMachine
use denote.Param.Send.{IsSend, sendable}
use Rattle.event_definitions.specs.Role.{node_role}
use Rattle.machine_contract.specs.Opening.{found_of}
use Rattle.mesh_machine.specs.Machine.{Stands, shown}
use Rattle.mesh_node.specs.Given.{Stood}
use Rattle.node_layers.specs.NodeLayers.{node_layers}
use Rattle.node_store.specs.Tie.{IsNode}
use Rattle.report_writer.specs.Writing.{view_of}
use Rattle.live_node.specs.Lived.{streams_at}
use Rattle.live_node.specs.declared.status.Status.TheVariants as S
use Rattle.live_node.proofs.Causes.{stream_causes}
use Rattle.live_node.proofs.Statuses.{lost_of, memory_of, some_of}
use Rattle.mesh_machine.proofs.Crossing.{machine_send}
use Rattle.live_node.proofs.running.run_node.Goals as goal

pub returns : goal.returns
returns g c =
    let chip = g.F.Flash.chip in
    let r = c.run_machine.result in
    let from = streams_at g.S.Source.left g.S.Source.faults g.S.ClockedSource.time g.E.Sink.held g.E.Sink.pieces g.E.Sink.faults c.args.streams in
    let to = streams_at g.S.Source.left g.S.Source.faults g.S.ClockedSource.time g.E.Sink.held g.E.Sink.pieces g.E.Sink.faults r.streams in
    let before = view_of g.K.Sink.held g.K.Sink.pieces c.args.streams.sink in
    let after = view_of g.K.Sink.held g.K.Sink.pieces r.streams.sink in
    let ended = c.run_machine.ensures.ended in
    let stood = Stood shown (Stands (found_of (chip c.args.flash))) chip in
    let causes = stream_causes (node_role node_layers) IsNode c.args.hex c.args.bearers g.S.ClockedSource.clocked (chip c.args.flash) from to before after chip stood r.status r.closed r.flash ended in
    record {
      ended = record {
        ends = ended;
        done = some_of (node_role node_layers) IsNode c.args.hex c.args.bearers g.S.ClockedSource.clocked (chip c.args.flash) from to before after chip stood r.status r.closed S.Done (λ h. h) r.flash ended;
        cut = some_of (node_role node_layers) IsNode c.args.hex c.args.bearers g.S.ClockedSource.clocked (chip c.args.flash) from to before after chip stood r.status r.closed S.Cut (λ h. h) r.flash ended;
        read_fault = some_of (node_role node_layers) IsNode c.args.hex c.args.bearers g.S.ClockedSource.clocked (chip c.args.flash) from to before after chip stood r.status r.closed S.ReadFault (λ h. h) r.flash ended;
        errors_fault = some_of (node_role node_layers) IsNode c.args.hex c.args.bearers g.S.ClockedSource.clocked (chip c.args.flash) from to before after chip stood r.status r.closed S.ErrorsFault (λ h. h) r.flash ended;
        front = some_of (node_role node_layers) IsNode c.args.hex c.args.bearers g.S.ClockedSource.clocked (chip c.args.flash) from to before after chip stood r.status r.closed S.WriteFault (λ h. h) r.flash ended;
        memory = memory_of (node_role node_layers) IsNode c.args.hex c.args.bearers g.S.ClockedSource.clocked (chip c.args.flash) from to before after chip stood r.status r.closed r.flash ended;
        lost = lost_of (node_role node_layers) IsNode c.args.hex c.args.bearers g.S.ClockedSource.clocked (chip c.args.flash) from to before after chip stood r.status r.closed r.flash ended;
        flash_fault = some_of (node_role node_layers) IsNode c.args.hex c.args.bearers g.S.ClockedSource.clocked (chip c.args.flash) from to before after chip stood r.status r.closed S.FlashFault (λ h. h) r.flash ended;
        was_reset = some_of (node_role node_layers) IsNode c.args.hex c.args.bearers g.S.ClockedSource.clocked (chip c.args.flash) from to before after chip stood r.status r.closed S.WasReset (λ h. h) r.flash ended;
      };
      closed = c.run_machine.ensures.closed;
      sink_cause = c.run_machine.ensures.sink;
      source_cause = causes.0;
      errors_cause = causes.1;
    }

pub run_machine-requires-send-M : goal.run_machine-requires-send-M
run_machine-requires-send-M g c κs = let sent : IsSend MeshMachine.the_row = machine_send in search sendable
