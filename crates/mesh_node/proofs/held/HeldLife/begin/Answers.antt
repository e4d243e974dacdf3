use Rattle.std.proofs.Common.{◌∙◌, ap, subst, sym}
use Rattle.std.specs.Prelude.{replicate}
use Rattle.store_definitions.specs.Recovered.{IsRecovered}
use Rattle.mesh_node.proofs.Holding.{held_first}
use Rattle.mesh_node.proofs.held.HeldLife.begin.Goals as goal

pub returns-clause-held : goal.returns-clause-held
returns-clause-held g c =
    let chip = g.F.Flash.chip in
    let s = c.requires.started in
    let going = c.in_ok-going.going in
    let begun = c.in_ok-going.ensures in
    held_first g.M.Machine.role g.M.Machine.image chip (record { node = going.node; numbers = going.seats.numbers; drawer = going.seats.drawer; counts = going.seats.counts.items }) s.over
    (subst (λ f. IsRecovered (chip f).now s.over) (sym begun.start) s.read) s.runs (ap (λ n. n.opened) begun.numbers ∙ s.opened) c.known.ensures.known begun.begins begun.between.taken begun.between.live begun.drawn
    (begun.counts ∙ ap (λ n. replicate n 0) (begun.bearers ∙ c.requires.alone))
