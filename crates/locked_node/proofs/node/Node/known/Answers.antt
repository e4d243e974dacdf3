use Rattle.std.proofs.Common.{length, ◌<◌, ◌^◌, refl, subst}
use Rattle.machine_contract.specs.Opening.{found_of}
use Rattle.locked_node.specs.Node.{node_marks}
use Rattle.locked_node.specs.Stands.{HasMachine, IsNode}
use Rattle.locked_node.proofs.Counts.{few_marks}
use Rattle.locked_node.proofs.node.Node.known.Goals as goal

pub returns-clause-known : goal.returns-clause-known
returns-clause-known g c =
    let h = c.self.invariant in
    subst (λ v. IsNode g.M.Machine.role g.M.Machine.image g.F.Flash.chip v) c.self.view_is (record {
      over = h.over;
      read = h.read;
      life = c.tells.ensures.known (found_of (g.F.Flash.chip c.self.inside.held.value.start)) c.self.inside.held.value.flash h.over c.self.inside.held.value.machine h.tie;
      few = h.few;
      live = h.live;
      stopped = h.stopped;
      no_fault = h.no_fault;
      later = h.later;
      asked = h.asked;
      taken = h.taken;
      counted = h.counted;
    })

pub returns-clause-stands : goal.returns-clause-stands
returns-clause-stands g c =
    let h = c.self.invariant in
    subst (λ v. HasMachine g.M.Machine.stands g.M.Machine.view g.F.Flash.chip v) c.self.view_is (record {
      over = h.over;
      read = h.read;
      machine = c.self.inside.held.value.machine;
      shows = refl;
      tie = h.tie;
    })

pub returns-clause-few : goal.returns-clause-few
returns-clause-few g c =
    let h = c.self.invariant in
    let life = c.tells.ensures.known (found_of (g.F.Flash.chip c.self.inside.held.value.start)) c.self.inside.held.value.flash h.over c.self.inside.held.value.machine h.tie in
    subst (λ v. length (node_marks v) < 2 ^ 64) c.self.view_is (few_marks _ _ _ _ _ life.few h.few)
