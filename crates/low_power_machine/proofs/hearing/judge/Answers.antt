use Rattle.std.proofs.Common.{List, ℕ, false, subst}
use Rattle.std.specs.Option.{option_map}
use Rattle.event_definitions.specs.Readings.{IsOpenedUnder, fields_heard}
use Rattle.low_power_machine.proofs.Rows.{judged_access}
use Rattle.low_power_machine.specs.Memory.{keys_under}
use Rattle.mesh_reading.specs.Held.{opening_of, reading_of}
use Rattle.low_power_machine.proofs.hearing.judge.Goals as goal

pub returns-in-Access-clause-value : goal.returns-in-Access-clause-value
returns-in-Access-clause-value c past meaning =
    judged_access past c.args.p.now c.args.memory.now (reading_of c.args.r.now) c.args.low.now c.in-Access.akf c.in-Access.aid c.in-Access.upper c.name_of-name.result
    (option_map opening_of c.open-opened.result) c.judge_opened-answer.result.answer c.requires.fit meaning c.in-Access.is c.name_of-name.ensures
    (subst (λ (l : List ℕ). IsOpenedUnder (keys_under c.args.memory.now.device c.args.r.now.fields.dst c.in-Access.akf)
    (fields_heard (reading_of c.args.r.now) c.name_of-name.result false) l (option_map opening_of c.open-opened.result)) c.as_slice.ensures.value c.open-opened.ensures.value) (c.judge_opened-answer.ensures.value past meaning)
