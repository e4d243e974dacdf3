use Rattle.std.proofs.Common.{arith, ap, filter, refl, ◌∙◌}
use Rattle.layer_states.specs.Reassembly.{acks_due, after, tick}
use Rattle.layer_states.specs.Sending as sending
use Rattle.mesh_hearing.proofs.Passing.{passed, passed_reset}
use Rattle.mesh_hearing.specs.Tables.{TablesView}
use Rattle.segment_sender.specs.Held.{has_round}
use Rattle.mesh_hearing.proofs.tables.Tables.pass.Goals as goal

pub returns-then-p-clause-passed : goal.returns-then-p-clause-passed
returns-then-p-clause-passed c = λ past m h.
    passed_reset past c.args.p.now c.args.ticks c.args.self.now _ m c.if-p.true h refl c.new.ensures.value c.new-then-p.ensures

pub returns-clause-passed : goal.returns-clause-passed
returns-clause-passed c = λ past m h.
    let parts = ap (λ (v : TablesView). v.parts) c.self.view_is in
    let own = ap (λ (v : TablesView). v.own) c.self.view_is in
    let ticks = ap (λ (v : TablesView). v.ticks) c.self.view_is in
    passed past c.args.p.now c.args.ticks c.min-now.result c.args.self.now _ _ m c.if-p.false h
    (omega (arith, c.min-now.ensures, c.from.ensures, ticks))
    refl
    (c.tick.ensures.value ∙ ap (λ ps. acks_due c.min-now.result ps) parts)
    (c.rounds.ensures.value ∙ ap (λ rows. filter (has_round c.min-now.result) rows) own)
    (ap (λ (v : TablesView). v.cache) c.self.view_is)
    (c.tick.ensures.state ∙ ap (λ ps. after ps (tick c.min-now.result)) parts)
    (ap (λ (v : TablesView). v.again) c.self.view_is)
    (c.rounds.ensures.state ∙ ap (λ rows. sending.after rows (sending.due c.min-now.result)) own)
    refl
