use Rattle.std.proofs.Common.{sym}
use Rattle.mesh_hearing.proofs.Heard.{none_delivered, none_opened, some_delivered}
use Rattle.mesh_hearing.specs.Heard.{insight_of}
use Rattle.mesh_hearing.proofs.hearing.Hearing.delivered.Goals as goal

pub returns-in_default-clause-value : goal.returns-in_default-clause-value
returns-in_default-clause-value c = sym (none_opened c.args.self.now.pdu c.args.self.now.answer c.in_default.not-Opened)

pub returns-in_default-answer-clause-value : goal.returns-in_default-answer-clause-value
returns-in_default-answer-clause-value c = sym (none_delivered (insight_of c.args.self.now) c.args.self.now.answer c.in_default-answer.not-Delivered)

pub returns-clause-value : goal.returns-clause-value
returns-clause-value c =
    let o = c.in-Opened in
    let d = c.in-Delivered in
    sym (some_delivered c.args.self.now.pdu c.args.self.now.answer o.reading o.low o.opened d.name d.dst d.key d.payload o.is d.is)
