use Rattle.std.proofs.Common.{◌≡◌, ◌∙◌, ◌<◌, ◌^◌, List, ℕ, Option, Some, ap, subst, sym}
use Rattle.std.specs.Option.{option_copied}
use Rattle.std.specs.Prelude.{IfSome}
use Rattle.friend_steps.proofs.Stages.{act_read, control_read, unread_act, unread_left}
use Rattle.layer_definitions.specs.ControlReading.{control_of}
use Rattle.layer_definitions.specs.Network.{HasPdu}
use Rattle.mesh_base.specs.declared.control.ControlMsg.{ControlMsg}
use Rattle.mesh_reading.specs.Held.{reading_in, reading_of}
use Rattle.network_layer.specs.declared.reading.NetReading.{NetReading}
use Rattle.node_friends.specs.Acts.{IsActOf}
use Rattle.node_friends.specs.Steps.{after_control}
use Rattle.node_friends.specs.declared.acts.FriendAct.TheVariants as F
use Rattle.node_records.specs.Tables.{config_in}
use Rattle.friend_steps.proofs.hearing.hear_control.Goals as goal

pub returns-in_default-clause-state : goal.returns-in_default-clause-state
returns-in_default-clause-state c =
    let h = c.args.heard.now in
    unread_left c.args.friends.now (config_in c.args.p.now) c.args.now h.pdu h.answer (sym c.reading.ensures.value ∙ ap option_copied c.in_default.is)

pub returns-in_default-clause-act : goal.returns-in_default-clause-act
returns-in_default-clause-act c =
    let h = c.args.heard.now in
    unread_act c.args.friends.now (config_in c.args.p.now) c.args.now h.pdu h.answer F.Nothing (sym c.reading.ensures.value ∙ ap option_copied c.in_default.is)

pub control-requires-clause-nid : goal.control-requires-clause-nid
control-requires-clause-nid c =
    let read : reading_in c.args.heard.now.pdu ≡ Some c.in-Some.reading.now = sym c.reading.ensures.value ∙ ap option_copied c.in-Some.is in
    (subst (λ (o : Option NetReading). IfSome o (λ (r : NetReading). HasPdu r.fields × (r.by.material.nid < 2 ^ 7))) read c.requires.read).1

pub returns-clause-state : goal.returns-clause-state
returns-clause-state c =
    let h = c.args.heard.now in
    let n = config_in c.args.p.now in
    let r = c.in-Some.reading.now in
    let d = c.in-Control in
    let message : c.read_control-m.result ≡ control_of d.opcode d.params =
    c.read_control-m.ensures.value ∙ ap (λ (params : List ℕ). control_of d.opcode params) c.as_slice.ensures.value in
    c.control.ensures.state
    ∙ ap (λ (m : ControlMsg). after_control c.args.friends.now c.args.now n (reading_of r) m) message
    ∙ control_read c.args.friends.now n c.args.now h.pdu h.answer r d.name d.dst d.opcode d.params (sym c.reading.ensures.value ∙ ap option_copied c.in-Some.is) d.is

pub returns-clause-act : goal.returns-clause-act
returns-clause-act c =
    let h = c.args.heard.now in
    let n = config_in c.args.p.now in
    let r = c.in-Some.reading.now in
    let d = c.in-Control in
    let message : c.read_control-m.result ≡ control_of d.opcode d.params =
    c.read_control-m.ensures.value ∙ ap (λ (params : List ℕ). control_of d.opcode params) c.as_slice.ensures.value in
    act_read c.args.friends.now n c.args.now h.pdu h.answer r d.name d.dst d.opcode d.params c.control.result
    (sym c.reading.ensures.value ∙ ap option_copied c.in-Some.is) d.is
    (subst (λ (m : ControlMsg). IsActOf n c.args.friends.now c.args.now (reading_of r) m c.control.result) message c.control.ensures.act)
