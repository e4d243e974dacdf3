use Rattle.std.proofs.Common.{ap, sym, ◌∙◌}
use Rattle.layer_states.specs.Reassembly.{live, taken}
use Rattle.mesh_hearing.proofs.Named.{taken_as, taken_is}
use Rattle.mesh_reading.specs.Held.{reading_of}
use Rattle.mesh_hearing.proofs.lower.take_low.Goals as goal

pub returns-then-is_segment-clause-value : goal.returns-then-is_segment-clause-value
returns-then-is_segment-clause-value c = λ past again h.
    taken_as past (reading_of c.args.r.now) c.args.low.now c.args.name.now c.take.result c.outcome.result
    (sym c.is_segment.ensures.value ∙ c.if-is_segment.true)
    (c.take.ensures.value ∙ ap (λ p. taken (live c.args.now c.args.parts.now) c.args.now p) c.part_heard.ensures
    ∙ taken_is past c.args.p.now c.args.parts.now again c.args.now (reading_of c.args.r.now) c.args.low.now c.args.name.now h)
    c.outcome.ensures.value
