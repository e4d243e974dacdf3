use Rattle.std.proofs.Common.{List, ap, sym, ◌∙◌}
use Rattle.std.specs.Prelude.{fold}
use Rattle.layer_states.specs.Sending.{SendCall, after}
use Rattle.mesh_base.specs.declared.control.ControlMsg.{ControlMsg}
use Rattle.mesh_hearing.proofs.Acknowledged.{acknowledged_is, no_acknowledgment}
use Rattle.node_layers.specs.Sending.{acknowledged}
use Rattle.mesh_hearing.proofs.own.take_control.Goals as goal

pub returns-in-Acknowledgment : goal.returns-in-Acknowledgment
returns-in-Acknowledgment c =
    let from = c.args.from in
    let rows = c.args.own.now in
    let reads = acknowledged_is from c.args.opcode c.args.params.now c.read_control.result (λ i. (c.type_inv.params i).fits) c.read_control.ensures.reads c.read_control.ensures.other in
    record {
      state =
          c.ack.ensures.state
          ∙ ap (λ (m : ControlMsg). fold after rows (acknowledged from m)) (sym c.in-Acknowledgment.is)
          ∙ ap (λ (cs : List SendCall). fold after rows cs) reads;
    }

pub returns-in_default : goal.returns-in_default
returns-in_default c =
    let from = c.args.from in
    let rows = c.args.own.now in
    let reads = acknowledged_is from c.args.opcode c.args.params.now c.read_control.result (λ i. (c.type_inv.params i).fits) c.read_control.ensures.reads c.read_control.ensures.other in
    record {
      state = ap (λ (cs : List SendCall). fold after rows cs) (sym (no_acknowledgment from c.read_control.result c.in_default.not-Acknowledgment) ∙ reads);
    }
