use Rattle.std.proofs.Common.{◌≡◌, ◌∙◌, ◌<◌, ◌^◌, Option, Some, ap, subst, sym}
use Rattle.std.specs.Option.{option_copied}
use Rattle.std.specs.Prelude.{IfSome}
use Rattle.friend_steps.proofs.Stages.{step_before, step_read, step_unread}
use Rattle.layer_definitions.specs.Network.{HasPdu}
use Rattle.mesh_hearing.specs.Heard.{insight_of}
use Rattle.mesh_reading.specs.Held.{reading_in}
use Rattle.network_layer.specs.declared.reading.NetReading.{NetReading}
use Rattle.friend_steps.proofs.hearing.hear_pdu.Goals as goal

pub returns-then-is_before_cache-clause-state : goal.returns-then-is_before_cache-clause-state
returns-then-is_before_cache-clause-state c =
    let h = c.args.heard.now in
    step_before c.args.friends.now (insight_of h) h.answer (sym c.is_before_cache.ensures.value ∙ c.if-is_before_cache.true)

pub heard-requires : goal.heard-requires
heard-requires c =
    let read : reading_in c.args.heard.now.pdu ≡ Some c.in-Some.reading.now = sym c.reading.ensures.value ∙ ap option_copied c.in-Some.is in
    record { pdu = (subst (λ (o : Option NetReading). IfSome o (λ (r : NetReading). HasPdu r.fields × (r.by.material.nid < 2 ^ 7))) read c.requires.read).0 }

pub returns-in-Some-clause-state : goal.returns-in-Some-clause-state
returns-in-Some-clause-state c =
    let h = c.args.heard.now in
    c.heard.ensures.state
    ∙ step_read c.args.friends.now h.pdu h.answer c.in-Some.reading.now (sym c.is_before_cache.ensures.value ∙ c.if-is_before_cache.false)
    (sym c.reading.ensures.value ∙ ap option_copied c.in-Some.is)

pub returns-in_default-clause-state : goal.returns-in_default-clause-state
returns-in_default-clause-state c =
    let h = c.args.heard.now in
    step_unread c.args.friends.now h.pdu h.answer (sym c.reading.ensures.value ∙ ap option_copied c.in_default.is)
