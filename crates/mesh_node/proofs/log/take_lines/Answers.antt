use Rattle.std.proofs.Common.{◌∙◌, ◌++◌, ◌∷◌, [], ◌<◌, length, map, take, ap, sym, arith, append_assoc}
use Rattle.std.specs.Vec.Iter.{into_iter_items}
use Rattle.std.proofs.lemmas.List.{length-set, map-append, take_more_set}
use Rattle.mesh_types.specs.declared.history.Sent.{Sent}
use Rattle.std.proofs.Common.{Vec, Global}
use Rattle.node_phase.specs.declared.bearers.Done.{Done}
use Rattle.node_phase.specs.Part.{lines_of}
use Rattle.mesh_node.proofs.log.take_lines.Goals as goal

pub loop-done-preserved : goal.loop-done-preserved
loop-done-preserved c =
    let was = c.loop-done in
    let inv = was.invariant in
    let done = c.in-Some.done in
    let rest = into_iter_items c.next.new.self in
    let items = c.in-Some.ensures.steps.0 in
    let k = was.k in
    let counts_lt : k < length was.counts = omega (arith, inv.count, inv.counts_long, ap length items) in
    record {
      can_next = tt;
      is_finite = tt;
      len = omega (arith, c.in-Some.ensures.steps.1, ap length items, inv.len);
      count = omega (arith, inv.count, ap length items);
      counts_long = length-set was.counts k done.number ∙ inv.counts_long;
      lines = ap (λ ls. map (λ (v : Vec Sent Global). v.items) ls ++ map lines_of rest) c.in_ok-push.ensures.items
          ∙ ap (λ l. l ++ map lines_of rest) (map-append (λ (v : Vec Sent Global). v.items) was.sends.items (done.lines ∷ []))
          ∙ append_assoc (map (λ (v : Vec Sent Global). v.items) was.sends.items) (lines_of done ∷ []) (map lines_of rest)
          ∙ ap (λ ds. map (λ (v : Vec Sent Global). v.items) was.sends.items ++ map lines_of ds) (sym items) ∙ inv.lines;
      numbers = ap (λ l. l ++ map (λ (x : Done). x.number) rest) (take_more_set was.counts k done.number counts_lt) ∙ append_assoc (take k was.counts) (done.number ∷ []) (map (λ (x : Done). x.number) rest)
          ∙ ap (λ ds. take k was.counts ++ map (λ (x : Done). x.number) ds) (sym items) ∙ inv.numbers;
    }
