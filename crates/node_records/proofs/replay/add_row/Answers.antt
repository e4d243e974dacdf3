use Rattle.std.proofs.Common.{◌<◌, length, ◌∙◌, arith, true≢false, sym}
use Rattle.node_limits.specs.declared.TheConstants.{REPLAY_ENTRIES}
use Rattle.node_records.proofs.Room.{lacks_all}
use Rattle.node_records.proofs.Rows.{keeps_new, keeps_other}
use Rattle.node_records.proofs.Sources.{apart_by_source}
use Rattle.node_records.proofs.replay.add_row.Goals as goal

pub returns-in-Ok-clause-keeps : goal.returns-in-Ok-clause-keeps
returns-in-Ok-clause-keeps c = λ place.
    keeps_new c.args.current c.args.rows.now c.put_row.new.rows c.args.name.now (apart_by_source c.put_row.new.rows c.put_row.ensures.order) c.requires.none c.in-Ok.ensures.ok

pub returns-in-Some-clause-keeps : goal.returns-in-Some-clause-keeps
returns-in-Some-clause-keeps c = λ place.
    let seen = c.as_slice.ensures.value ∙ c.in-Err.ensures.unchanged in
    let some = rw seen at c.in-Some.ensures.some in
    let pairs = rw c.in-Err.ensures.unchanged at c.replace.ensures.value in
    keeps_other c.args.current c.args.rows.now c.replace.new.rows c.in-Some.place c.args.name.now c.args.name.now (apart_by_source c.args.rows.now c.requires.order)
    (apart_by_source c.replace.new.rows c.replace.ensures.order) some.0 c.requires.none (some.1 c.args.name.now) (λ src. pairs src c.args.name.now)

pub returns-in-None-clause-keeps : goal.returns-in-None-clause-keeps
returns-in-None-clause-keeps c = λ place.
    let seen = c.as_slice.ensures.value ∙ c.in-Err.ensures.unchanged in
    let live = rw seen at c.in-None.ensures.none in
    let full : length c.args.rows.now < REPLAY_ENTRIES → ⊥ = λ h. true≢false (sym (c.in-Err.ensures.variant.1 h)) in
    absurd (place (lacks_all c.args.current c.args.rows.now c.args.name.now c.requires.none (omega (arith, full)) live))
