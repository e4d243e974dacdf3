use Rattle.std.proofs.Common.{◌≡◌, ◌∙◌, ◌≤◌, [], ap, arith, refl, subst, sym}
use Rattle.machine_contract.specs.Opening.{found_of}
use Rattle.mesh_node.specs.Due.{is_any}
use Rattle.mesh_node.specs.Given.{Stood}
use Rattle.mesh_node.specs.Held.{HasLived, given_phases, last_held, told_phases}
use Rattle.mesh_node.specs.Lived.{LivedOn}
use Rattle.mesh_node.proofs.Holding.{held_view, held_went}
use Rattle.mesh_node.proofs.Whole.{lived_left}
use Rattle.mesh_node.proofs.held.HeldLife.close.Goals as goal

pub returns-clause-last : goal.returns-clause-last
returns-clause-last g c =
    c.end_life.ensures.last ∙ c.last_of-last.ensures.value ∙ ap last_held c.is_closed.ensures.value ∙ ap (λ l. last_held l.node.machine.closed) c.self.view_is

pub returns-clause-flash : goal.returns-clause-flash
returns-clause-flash g c = c.end_life.ensures.left.flash_is ∙ ap (λ l. l.node.flash) c.self.view_is

pub returns-clause-closed : goal.returns-clause-closed
returns-clause-closed g c = c.end_life.ensures.left.closed_is ∙ ap (λ l. l.node.machine.closed) c.self.view_is

pub returns-clause-lived : goal.returns-clause-lived
returns-clause-lived g c phases did h =
    let chip = g.F.Flash.chip in
    let old = c.self.inside.going in
    let node = old.node in
    let life = held_view node old.seats.numbers old.seats.drawer old.seats.counts.items in
    let told : HasLived g.M.Machine.role g.M.Machine.image chip life phases did = subst (λ l. HasLived g.M.Machine.role g.M.Machine.image chip l phases did) (sym c.self.view_is) h in
    let left = c.end_life.result in
    let one : 1 ≤ 8 = omega arith in
    let went = held_went g.M.Machine.role g.M.Machine.image chip life phases did told node.machine.closed refl in
    let whole = lived_left g.M.Machine.view g.M.Machine.stands g.M.Machine.role g.M.Machine.image chip is_any given_phases told_phases [] phases [] did 1 one node old.seats.drawer old.seats.numbers.opened node.flash (last_held node.machine.closed)
    left.flash left.refills left.drawn left.closed c.end_life.ensures.left went told.over told.read told.runs told.opened in
    let last : left.last ≡ last_held node.machine.closed = c.end_life.ensures.last ∙ c.last_of-last.ensures.value ∙ ap last_held c.is_closed.ensures.value in
    subst (λ l. LivedOn (Stood g.M.Machine.view (g.M.Machine.stands (found_of (chip l.node.start))) chip left.flash) g.M.Machine.role g.M.Machine.image is_any given_phases told_phases [] phases [] did 1 (chip l.node.start) (chip left.flash) l.node.flash left.flash left.refills left.drawn left.closed left.last)
    c.self.view_is
    (subst (λ l. LivedOn (Stood g.M.Machine.view (g.M.Machine.stands (found_of (chip node.start))) chip left.flash) g.M.Machine.role g.M.Machine.image is_any given_phases told_phases [] phases [] did 1 (chip node.start) (chip left.flash) node.flash left.flash left.refills left.drawn left.closed l) (sym last) whole)
