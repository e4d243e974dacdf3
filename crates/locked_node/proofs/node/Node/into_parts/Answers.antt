use Rattle.std.proofs.Common.{subst, sym}
use Rattle.machine_contract.specs.Opening.{found_of}
use Rattle.store_definitions.specs.Recovered.{IsRecovered}
use Rattle.locked_node.proofs.node.Node.into_parts.Goals as goal

pub returns-clause-stands : goal.returns-clause-stands
returns-clause-stands g c =
    let h = c.self.invariant in (
      h.over,
      subst (λ v. IsRecovered (g.F.Flash.chip v.start).now h.over) c.self.view_is h.read,
      subst (λ v. g.M.Machine.stands (found_of (g.F.Flash.chip v.start)) (g.F.Flash.chip c.into_inner-machine.result.flash) h.over c.into_inner-machine.result.machine) c.self.view_is
          (subst (λ x. g.M.Machine.stands (found_of (g.F.Flash.chip c.self.inside.held.value.start)) (g.F.Flash.chip x.flash) h.over x.machine) (sym c.into_inner-machine.ensures) h.tie),
    )
