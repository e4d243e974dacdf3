use Rattle.std.proofs.Common.{Option, refl, subst, sym, ◌∙◌}
use Rattle.std.specs.Prelude.{IsNone}
use Rattle.mesh_hearing.proofs.Heard.{heard_early, heard_late, heard_unread, reads, reads_none}
use Rattle.network_layer.specs.declared.reading.NetReading.{NetReading}
use Rattle.mesh_hearing.proofs.hearing.hear_octets.Goals as goal

pub returns-in_default-clause-heard : goal.returns-in_default-clause-heard
returns-in_default-clause-heard c = λ past unreset e h k.
    heard_unread past c.args.before.now.p.now c.args.octets.now h.meaning unreset
    (reads_none past c.args.before.now.p.now c.args.before.now.keys.now c.args.more.now c.args.octets.now h.meaning c.requires.fit k (c.read_unless.ensures.none (subst (λ (o : Option NetReading). IsNone o) (sym c.in_default.is) refl)))

pub returns-in-Some-2-clause-heard : goal.returns-in-Some-2-clause-heard
returns-in-Some-2-clause-heard c = λ past unreset e h k.
    heard_early past c.args.before.now.p.now c.args.octets.now c.in-Some.reading c.in-Some-2.answer h.meaning unreset
    (reads past c.args.before.now.p.now c.args.before.now.keys.now c.args.more.now c.args.octets.now c.in-Some.reading h.meaning c.requires.fit k c.in-Some.ensures.some)
    (sym c.in-Some-2.is ∙ c.in_ok-answer.ensures.value past h.meaning.config e)

pub returns-in-None-clause-heard : goal.returns-in-None-clause-heard
returns-in-None-clause-heard c = λ past unreset e h k.
    heard_late past c.args.before.now.p.now c.args.octets.now c.in-Some.reading c.hear_transport.result h.meaning unreset
    (reads past c.args.before.now.p.now c.args.before.now.keys.now c.args.more.now c.args.octets.now c.in-Some.reading h.meaning c.requires.fit k c.in-Some.ensures.some)
    (sym c.in-None.is ∙ c.in_ok-answer.ensures.value past h.meaning.config e)
    (c.hear_transport.ensures.value past h)
