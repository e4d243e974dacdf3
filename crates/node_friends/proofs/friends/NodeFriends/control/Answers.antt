use Rattle.std.proofs.Common.{◌≡◌, subst, sym}
use Rattle.mesh_base.specs.declared.control.ControlMsg.{ControlMsg}
use Rattle.mesh_reading.specs.Held.{reading_of}
use Rattle.node_friends.specs.Acts.{IsActOf}
use Rattle.node_friends.specs.Steps.{after_control}
use Rattle.node_records.specs.Tables.{config_in}
use Rattle.node_friends.proofs.friends.NodeFriends.control.Goals as goal

pub returns-in-Poll-clause-state : goal.returns-in-Poll-clause-state
returns-in-Poll-clause-state c =
    let says = config_in c.args.p.now in
    subst (λ (m : ControlMsg). c.poll.new.self ≡ after_control c.args.self.now c.args.now says (reading_of c.args.r.now) m) (sym c.in-Poll.is)
    (c.poll.ensures.state says)

pub returns-in-Poll-clause-act : goal.returns-in-Poll-clause-act
returns-in-Poll-clause-act c =
    let says = config_in c.args.p.now in
    subst (λ (m : ControlMsg). IsActOf says c.args.self.now c.args.now (reading_of c.args.r.now) m c.poll.result) (sym c.in-Poll.is)
    (c.poll.ensures.act says)

pub returns-in-ListAdd-clause-state : goal.returns-in-ListAdd-clause-state
returns-in-ListAdd-clause-state c =
    let says = config_in c.args.p.now in
    subst (λ (m : ControlMsg). c.list_add.new.self ≡ after_control c.args.self.now c.args.now says (reading_of c.args.r.now) m) (sym c.in-ListAdd.is)
    (c.list_add.ensures.state says)

pub returns-in-ListAdd-clause-act : goal.returns-in-ListAdd-clause-act
returns-in-ListAdd-clause-act c =
    let says = config_in c.args.p.now in
    subst (λ (m : ControlMsg). IsActOf says c.args.self.now c.args.now (reading_of c.args.r.now) m c.list_add.result) (sym c.in-ListAdd.is)
    (c.list_add.ensures.act says)

pub returns-in-ListRemove-clause-state : goal.returns-in-ListRemove-clause-state
returns-in-ListRemove-clause-state c =
    let says = config_in c.args.p.now in
    subst (λ (m : ControlMsg). c.list_remove.new.self ≡ after_control c.args.self.now c.args.now says (reading_of c.args.r.now) m) (sym c.in-ListRemove.is)
    (c.list_remove.ensures.state says)

pub returns-in-ListRemove-clause-act : goal.returns-in-ListRemove-clause-act
returns-in-ListRemove-clause-act c =
    let says = config_in c.args.p.now in
    subst (λ (m : ControlMsg). IsActOf says c.args.self.now c.args.now (reading_of c.args.r.now) m c.list_remove.result) (sym c.in-ListRemove.is)
    (c.list_remove.ensures.act says)

pub returns-in-Clear-clause-state : goal.returns-in-Clear-clause-state
returns-in-Clear-clause-state c =
    let says = config_in c.args.p.now in
    subst (λ (m : ControlMsg). c.clear.new.self ≡ after_control c.args.self.now c.args.now says (reading_of c.args.r.now) m) (sym c.in-Clear.is)
    (c.clear.ensures.state says c.args.now)

pub returns-in-Clear-clause-act : goal.returns-in-Clear-clause-act
returns-in-Clear-clause-act c =
    let says = config_in c.args.p.now in
    subst (λ (m : ControlMsg). IsActOf says c.args.self.now c.args.now (reading_of c.args.r.now) m c.clear.result) (sym c.in-Clear.is)
    (c.clear.ensures.act says c.args.now)
