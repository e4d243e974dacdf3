use Rattle.std.proofs.Common.{◌∙◌, ◌+◌, ap, length, refl}
use Rattle.node_phase.proofs.Fresh.{back}
use Rattle.mesh_node.proofs.phases.take_log.Goals as goal

pub returns-clause-logged : goal.returns-clause-logged
returns-clause-logged g c =
    let cv = c.args.seats.now.counts in
    record {
      first = refl;
      entries = c.take_entries-entries.ensures.entries;
      sends = c.in_ok-sends.ensures.lines;
      counts = back cv.len cv.items c.take_lines.new.counts cv.ok.0 (c.take_lines.auto.counts ∙ ap length c.as_mut_slice.ensures.value) ∙ c.in_ok-sends.ensures.numbers;
      count = ap (λ n. c.args.seats.now.entries + n) (c.len.ensures ∙ c.take_entries-entries.result.ok.0);
    }
