use Rattle.std.proofs.Common.{◌∙◌, ◌+◌, Err, Some, ap, refl, subst, sym}
use Rattle.life_plans.specs.Plans.{script_of}
use Rattle.report_definitions.specs.Record.{LifeOver}
use Rattle.report_writer.specs.Lives.{life_of}
use Rattle.report_writer.specs.Writing.{view_of}
use Rattle.mesh_run.specs.Kind.{kind_of}
use Rattle.mesh_run.specs.Ran.{RanFirst, RanFront}
use Rattle.mesh_run.proofs.Living.{is_past, is_within}
use Rattle.mesh_run.proofs.Progress.{all_lived, first_lost, first_more_left, front_more, progress_elements, progress_more, progress_none, same_more}
use Rattle.mesh_run.proofs.lives.live_all.Goals as goal

pub loop-i-init : goal.loop-i-init
loop-i-init g c =
    let kind = kind_of g.M.Machine.view g.M.Machine.stands g.M.Machine.role g.M.Machine.image in
    let view = view_of g.K.Sink.held g.K.Sink.pieces in
    let law = g.met.L.LifeSink in
    let told = g.L.LifeSink.told c.args.lives.now c.args.lives.now in
    record {
      progress = progress_none g.B.Flash.chip kind (script_of (g.S.LifeSource.script c.args.script.now)) told c.args.flash (view c.args.sink.now) c.requires.kind c.requires.provisioned
          (law.none c.args.lives.now (view c.args.sink.now));
      no_fault = refl;
    }

pub live-requires-clause-elements : goal.live-requires-clause-elements
live-requires-clause-elements g c κs within =
    let kind = kind_of g.M.Machine.view g.M.Machine.stands g.M.Machine.role g.M.Machine.image in
    let chip = g.B.Flash.chip in
    let view = view_of g.K.Sink.held g.K.Sink.pieces in
    progress_elements chip kind c.role_law.ensures.keeps (script_of (g.S.LifeSource.script c.args.script.now)) (g.L.LifeSink.told c.args.lives.now c.loop-i.lives) c.args.flash c.loop-i.flash
    (view c.args.sink.now) (view c.loop-i.sink) c.loop-i.i c.loop-i.invariant.progress

pub returns-in-Err-Fault-clause-front : goal.returns-in-Err-Fault-clause-front
returns-in-Err-Fault-clause-front g c = λ yes.
    let kind = kind_of g.M.Machine.view g.M.Machine.stands g.M.Machine.role g.M.Machine.image in
    let chip = g.B.Flash.chip in
    let view = view_of g.K.Sink.held g.K.Sink.pieces in
    let told = g.L.LifeSink.told c.args.lives.now in
    let broken = g.L.LifeSink.broken in
    let s = script_of (g.S.LifeSource.script c.args.script.now) in
    let law = g.met.B.Flash g.world.𝓛 g.world.𝓜 g.world.𝓡 ((λ s x. x), (λ x. x), (λ x. x), λ x. x) in
    let within = is_within (g.S.LifeSource.script c.args.script.now).lives c.count-i-end.result c.loop-i.i c.count-i-end.ensures.value c.loop-i-test.true in
    let lived = c.in-Ok.ensures.lived in
    let before = view c.args.sink.now in
    let after = view c.tell.new.sink in
    let ran : RanFront chip kind s (told c.loop-i.lives) (broken c.loop-i.lives) c.args.flash before c.in-Ok.lived.1 after =
    front_more chip kind c.requires.kind s (told c.loop-i.lives) (broken c.loop-i.lives) c.args.flash c.loop-i.flash c.in-Ok.lived.1
    before (view c.loop-i.sink) after c.loop-i.i (record { over = lived.0; life = life_of c.in-Ok.lived.0 })
    c.loop-i.invariant.progress (law.counts_now c.loop-i.flash) within lived.1 (law.reads_image c.in-Ok.lived.1 lived.1.lives.node.honest) c.in-Err-Fault.ensures.err in
    subst (λ now. RanFront chip kind s (told now) (broken now) c.args.flash before c.in-Ok.lived.1 after) (sym c.in-Err-Fault.ensures.kept) ran

pub returns-in-Err-clause-whole : goal.returns-in-Err-clause-whole
returns-in-Err-clause-whole g c = λ yes.
    let kind = kind_of g.M.Machine.view g.M.Machine.stands g.M.Machine.role g.M.Machine.image in
    let chip = g.B.Flash.chip in
    let view = view_of g.K.Sink.held g.K.Sink.pieces in
    let law = g.met.B.Flash g.world.𝓛 g.world.𝓜 g.world.𝓡 ((λ s x. x), (λ x. x), (λ x. x), λ x. x) in
    let within = is_within (g.S.LifeSource.script c.args.script.now).lives c.count-i-end.result c.loop-i.i c.count-i-end.ensures.value c.loop-i-test.true in
    let progress = c.loop-i.invariant.progress in
    first_lost chip kind c.requires.kind (script_of (g.S.LifeSource.script c.args.script.now)) (g.L.LifeSink.told c.args.lives.now c.loop-i.lives) c.args.flash c.loop-i.flash (view c.args.sink.now) (view c.loop-i.sink) c.loop-i.i
    progress within (law.reads_image c.loop-i.flash progress.ran.node.honest)

pub returns-in-Err-Memory-clause-whole : goal.returns-in-Err-Memory-clause-whole
returns-in-Err-Memory-clause-whole g c = λ yes.
    let kind = kind_of g.M.Machine.view g.M.Machine.stands g.M.Machine.role g.M.Machine.image in
    let chip = g.B.Flash.chip in
    let view = view_of g.K.Sink.held g.K.Sink.pieces in
    let told = g.L.LifeSink.told c.args.lives.now in
    let s = script_of (g.S.LifeSource.script c.args.script.now) in
    let law = g.met.B.Flash g.world.𝓛 g.world.𝓜 g.world.𝓡 ((λ s x. x), (λ x. x), (λ x. x), λ x. x) in
    let within = is_within (g.S.LifeSource.script c.args.script.now).lives c.count-i-end.result c.loop-i.i c.count-i-end.ensures.value c.loop-i-test.true in
    let progress = c.loop-i.invariant.progress in
    let lived = c.in-Ok.ensures.lived in
    let before = view c.args.sink.now in
    let ran : RanFirst chip kind s (told c.loop-i.lives) c.args.flash before (Some c.in-Ok.lived.1) (view c.loop-i.sink) =
    first_more_left chip kind c.requires.kind s (told c.loop-i.lives) c.args.flash c.loop-i.flash c.in-Ok.lived.1 before (view c.loop-i.sink) c.loop-i.i
    (record { over = lived.0; life = life_of c.in-Ok.lived.0 }) progress (law.counts_now c.loop-i.flash) within lived.1 (law.reads_image c.loop-i.flash progress.ran.node.honest) in
    subst (λ now. RanFirst chip kind s (told now) c.args.flash before (Some c.in-Ok.lived.1) (view c.tell.new.sink)) (sym c.in-Err-Memory.ensures.kept)
    (subst (RanFirst chip kind s (told c.loop-i.lives) c.args.flash before (Some c.in-Ok.lived.1))
    (sym (ap view (c.in-Err-Memory.ensures.memory (ap (λ e. Err e) c.in-Err-Memory.field-0-is)))) ran)

pub returns-in-Err-Memory-clause-frame : goal.returns-in-Err-Memory-clause-frame
returns-in-Err-Memory-clause-frame g c =
    let kind = kind_of g.M.Machine.view g.M.Machine.stands g.M.Machine.role g.M.Machine.image in
    let chip = g.B.Flash.chip in
    let law = g.met.B.Flash g.world.𝓛 g.world.𝓜 g.world.𝓡 ((λ s x. x), (λ x. x), (λ x. x), λ x. x) in
    let within = is_within (g.S.LifeSource.script c.args.script.now).lives c.count-i-end.result c.loop-i.i c.count-i-end.ensures.value c.loop-i-test.true in
    let progress = c.loop-i.invariant.progress in
    let lived = c.in-Ok.ensures.lived in
    same_more chip kind (script_of (g.S.LifeSource.script c.args.script.now)) c.args.flash c.loop-i.flash c.in-Ok.lived.1 c.loop-i.i progress.lives (record { over = lived.0; life = life_of c.in-Ok.lived.0 })
    progress.ran progress.same (law.counts_now c.loop-i.flash) within lived.1

pub loop-i-preserved : goal.loop-i-preserved
loop-i-preserved g c =
    let kind = kind_of g.M.Machine.view g.M.Machine.stands g.M.Machine.role g.M.Machine.image in
    let chip = g.B.Flash.chip in
    let law = g.met.B.Flash g.world.𝓛 g.world.𝓜 g.world.𝓡 ((λ s x. x), (λ x. x), (λ x. x), λ x. x) in
    let view = view_of g.K.Sink.held g.K.Sink.pieces in
    let told = g.L.LifeSink.told c.args.lives.now in
    let within = is_within (g.S.LifeSource.script c.args.script.now).lives c.count-i-end.result c.loop-i.i c.count-i-end.ensures.value c.loop-i-test.true in
    let progress = c.loop-i.invariant.progress in
    let lived = c.in-Ok.ensures.lived in
    let x : LifeOver = record { over = lived.0; life = life_of c.in-Ok.lived.0 } in
    record {
      progress = progress_more chip kind (script_of (g.S.LifeSource.script c.args.script.now)) (told c.loop-i.lives) (told c.tell.new.self) c.args.flash c.loop-i.flash c.in-Ok.lived.1
          (view c.args.sink.now) (view c.loop-i.sink) (view c.tell.new.sink) c.loop-i.i x progress (law.counts_now c.loop-i.flash) within lived.1
          (c.in-Ok-tell.ensures.ok c.args.lives.now progress.lives lived.0 (view c.args.sink.now) progress.report (ap (λ n. n + 1) (sym progress.count)));
      no_fault = c.in-Ok-tell.ensures.no_fault (λ e. cc) ∙ c.loop-i.invariant.no_fault;
    }

pub returns-clause-all : goal.returns-clause-all
returns-clause-all g c =
    let kind = kind_of g.M.Machine.view g.M.Machine.stands g.M.Machine.role g.M.Machine.image in
    let chip = g.B.Flash.chip in
    let view = view_of g.K.Sink.held g.K.Sink.pieces in
    let law = g.met.B.Flash g.world.𝓛 g.world.𝓜 g.world.𝓡 ((λ s x. x), (λ x. x), (λ x. x), λ x. x) in
    let progress = c.loop-i.invariant.progress in
    let past = is_past (g.S.LifeSource.script c.args.script.now).lives c.count-i-end.result c.loop-i.i c.count-i-end.ensures.value c.loop-i-test.false in
    all_lived chip kind c.requires.kind c.role_law.ensures.no_reuse c.role_law.ensures.at_most_once (script_of (g.S.LifeSource.script c.args.script.now)) (g.L.LifeSink.told c.args.lives.now c.loop-i.lives) c.args.flash c.loop-i.flash
    (view c.args.sink.now) (view c.loop-i.sink) c.loop-i.i past (law.reads_image c.loop-i.flash progress.ran.node.honest) progress
