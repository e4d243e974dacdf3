use Rattle.std.proofs.Common.{◌∙◌, ap, subst}
use Rattle.locked_node.specs.Stands.{IsDueNode, IsIdleNode}
use Rattle.mesh_node.proofs.held.HeldLife.due.Goals as goal

pub returns-clause-idle : goal.returns-clause-idle
returns-clause-idle g c off =
    subst (λ l. IsIdleNode g.M.Machine.role g.F.Flash.chip l.node c.due.result) c.self.view_is (c.due.ensures.idle (ap (λ l. l.node.machine.closed) c.self.view_is ∙ off))

pub returns-clause-least : goal.returns-clause-least
returns-clause-least g c off =
    subst (λ l. IsDueNode g.M.Machine.role g.M.Machine.quiet g.F.Flash.chip l.node c.due.result) c.self.view_is (c.due.ensures.least (ap (λ l. l.node.machine.closed) c.self.view_is ∙ off))

pub returns-clause-closed : goal.returns-clause-closed
returns-clause-closed g c on = c.due.ensures.closed (ap (λ l. l.node.machine.closed) c.self.view_is ∙ on)
