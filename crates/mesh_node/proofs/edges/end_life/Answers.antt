use Rattle.std.proofs.Common.{◌≡◌, ◌≤◌, ◌∙◌, ◌+◌, ap, refl, subst, sym}
use Rattle.std.specs.Prelude.{All}
use Rattle.machine_contract.specs.Opening.{found_of}
use Rattle.seq_word.specs.Rule.{once_below, passed_over, times}
use Rattle.seq_word.specs.Word.{seq_of}
use Rattle.mesh_node.proofs.edges.end_life.Goals as goal
use Rattle.mesh_node.proofs.Moving.{moved_by}

pub returns-clause-left : goal.returns-clause-left
returns-clause-left g c =
    let gone = c.args.gone in
    let d = c.close-drawn in
    let machine = c.into_parts-machine.ensures.machine in
    let start = (g.F.Flash.chip gone.node.start).now in
    let close = d.ensures in
    let stands = c.into_parts-machine.ensures.stands in
    record {
      flash_is = c.into_parts-machine.ensures.flash;
      refills_are = c.finish-left.ensures.refills ∙ ap (λ m. m.fills) machine;
      closed_is = c.is_closed-closed.ensures.value ∙ ap (λ m. m.closed) machine;
      known = c.known.ensures.known;
      stood = c.known.ensures.stands;
      one = c.one_list_is_recovered.ensures.one_list start;
      order = close.order.1;
      mark = close.mark ∙ c.finish-left.ensures.keeper.1 ∙ ap (λ m. m.mark) machine;
      below = close.below;
      once = close.once;
      seen = close.seen;
      closes = record {
        drawn = close.drawn;
        looks = close.looks;
        apart = close.distinct;
        since = close.since;
        ends = close.ends c.requires.parts;
        all = λ x. ap (λ l. times x gone.seats.drawer.drawn + passed_over x l + once_below x gone.seats.numbers.opened) close.advances ∙ close.all c.requires.parts x;
        firsts = subst (All (λ a. seq_of a.1 ≡ 0)) (sym close.advances) close.firsts;
        reached = subst (All (λ a. a.1 ≤ d.result.next)) (sym close.advances) close.advanced;
        near = close.paid c.requires.parts c.requires.free;
      };
      moved = λ over read runs. moved_by g.M.Machine.view g.M.Machine.advances g.M.Machine.role stands.0 over c.into_parts-machine.result.0 gone.node.machine d.result.advances
          gone.node.machine.entries gone.node.machine.fills (c.one_list_is_recovered.ensures.one_list start stands.0 over stands.1 read) machine
          (close.advances ∙ c.finish-left.ensures.advances) refl refl
          (c.tells.ensures.moved (found_of (g.F.Flash.chip gone.node.start)) c.into_parts-machine.result.1 stands.0 c.into_parts-machine.result.0 stands.2) runs;
    }
