use Rattle.std.proofs.Common.{Some, sym, subst, ◌∙◌}
use Rattle.mesh_hearing.proofs.Named.{named_part, named_whole}
use Rattle.mesh_hearing.specs.Below.{IsNamedAs}
use Rattle.mesh_reading.specs.Held.{reading_of}
use Rattle.mesh_hearing.proofs.lower.hear_named.Goals as goal

pub returns-in-Ok-clause-value : goal.returns-in-Ok-clause-value
returns-in-Ok-clause-value c = λ past h.
    let known = c.in-None.ensures.value past (c.entry-kept.ensures.records past.records h.meaning) h.again h.recorded in
    let taken = c.in-Ok.ensures.value past c.args.before.now.again.now h in
    named_whole past (reading_of c.args.r.now) c.args.low.now c.args.name.now c.judge_whole-judged.result known taken.0
    (c.judge_whole-judged.ensures.value past h.meaning (c.as_slice.ensures.value ∙ taken.1))

pub returns-in-Err-clause-value : goal.returns-in-Err-clause-value
returns-in-Err-clause-value c = λ past h.
    let known = c.in-None.ensures.value past (c.entry-kept.ensures.records past.records h.meaning) h.again h.recorded in
    subst (λ j. IsNamedAs past (reading_of c.args.r.now) c.args.low.now (Some c.args.name.now) j) (sym c.early-in-Err.ensures)
    (named_part past (reading_of c.args.r.now) c.args.low.now c.args.name.now c.in-Err.answer known (c.in-Err.ensures.value past c.args.before.now.again.now h))
