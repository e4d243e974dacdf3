use Rattle.std.proofs.Common.{List, ap, arith}
use Rattle.std.specs.Prelude.{length}
use Rattle.std.specs.Option.{option_to_list}
use Rattle.std.proofs.lemmas.List.{length-append}
use Rattle.layer_states.specs.Reassembly.{due_ack as due_ack_in}
use Rattle.layer_states.specs.declared.reassembly.DueAck.{DueAck}
use Rattle.segment_reassembly.proofs.Messages.{filter_map_more, length-option_to_list}
use Rattle.segment_reassembly.proofs.rows.due_acks.Goals as goal

pub loop-a-preserved : goal.loop-a-preserved
loop-a-preserved c =
    let one = filter_map_more (due_ack_in c.args.now) c.args.rows.now c.loop-a.a-index c.a-item.result c.loop-a-test.true in
    let grown = ap (λ (x : List DueAck). length x) c.push_due.ensures in
    record {
      acks = cc (one, c.push_due.ensures, c.due_ack.ensures, c.loop-a.invariant.acks, c.a-item.is);
      few = omega (arith, grown, length-append c.loop-a.list (option_to_list c.due_ack.result), length-option_to_list c.due_ack.result);
    }
