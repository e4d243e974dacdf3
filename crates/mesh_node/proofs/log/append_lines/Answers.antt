use Rattle.std.proofs.Common.{◌∙◌, ◌++◌, ◌<◌, length, map, take, drop, ap, sym, arith}
use Rattle.std.specs.Vec.Iter.{into_iter_items}
use Rattle.std.proofs.lemmas.List.{length-set}
use Rattle.life_laws.specs.Phases.{both_of}
use Rattle.mesh_node.proofs.Taking.{lines_step}
use Rattle.mesh_node.proofs.log.append_lines.Goals as goal

pub loop-lines-preserved : goal.loop-lines-preserved
loop-lines-preserved c =
    let was = c.loop-lines in
    let inv = was.invariant in
    let lines = c.in-Some.lines in
    let rest = into_iter_items c.next.new.self in
    let items = c.in-Some.ensures.steps.0 in
    let k = was.k in
    let lt : k < length was.sends = omega (arith, inv.count, inv.long, ap length items) in
    record {
      can_next = tt;
      is_finite = tt;
      len = omega (arith, c.in-Some.ensures.steps.1, ap length items, inv.len);
      count = omega (arith, inv.count, ap length items);
      long = length-set was.sends k c.put_behind.new.items ∙ inv.long;
      lines = lines_step (λ v. v.items) k was.sends c.put_behind.new.items c.index-sends-k.result lines.items (map (λ v. v.items) rest) lt c.in_ok-put_behind.ensures.items
          ∙ ap (λ ds. take k (map (λ v. v.items) was.sends) ++ both_of (drop k (map (λ v. v.items) was.sends)) (map (λ v. v.items) ds)) (sym items) ∙ inv.lines;
    }
