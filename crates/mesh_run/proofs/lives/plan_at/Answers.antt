use Rattle.std.proofs.Common.{◌≡◌, ◌∙◌, [], sym, subst}
use Rattle.std.specs.Prelude.{All, slice_index_or}
use Rattle.std.proofs.lemmas.Result.{IfOk-weaker}
use Rattle.script_definitions.specs.Ranges.{IsLife}
use Rattle.script_events.specs.Happenings.{IsRead}
use Rattle.mesh_run.proofs.Living.{plan_is}
use Rattle.mesh_run.proofs.lives.plan_at.Goals as goal

pub plan_of-requires : goal.plan_of-requires
plan_of-requires g c =
    let script = g.S.LifeSource.script c.args.script.now in
    let are : c.as_slice.result.now ≡ slice_index_or script.lives c.args.i [] = c.as_slice.ensures.value ∙ c.in_ok-lines.ensures.value in
    record { ranges = subst (All IsRead) (sym are) (c.script_law.ensures.lives c.requires.read.0 script c.requires.read.1 c.args.i [] c.requires.place).0 }

pub returns-clause-value : goal.returns-clause-value
returns-clause-value g c =
    let lives = (g.S.LifeSource.script c.args.script.now).lives in
    let are = c.as_slice.ensures.value ∙ c.in_ok-lines.ensures.value in
    IfOk-weaker c.plan_of.result _ _ (λ plan h. plan_is lives c.args.i c.as_slice.result.now _ are c.requires.place h) c.plan_of.ensures.value

pub returns-clause-planned : goal.returns-clause-planned
returns-clause-planned g c =
    let script = g.S.LifeSource.script c.args.script.now in
    let are : c.as_slice.result.now ≡ slice_index_or script.lives c.args.i [] = c.as_slice.ensures.value ∙ c.in_ok-lines.ensures.value in
    c.plan_of.ensures.planned c.requires.read.0 script.provision.elements (subst (IsLife c.requires.read.0 script.provision.elements) (sym are) (c.script_law.ensures.lives c.requires.read.0 script c.requires.read.1 c.args.i [] c.requires.place).1)
