use Rattle.mesh_run.specs.contracts.machine.ScriptMachine as ScriptMachine
use denote.Param.Send.{IsSend, sendable}
use Rattle.std.proofs.Common.{◌∙◌, ap, false}
use Rattle.life_plans.specs.Plans.{script_of}
use Rattle.report_writer.specs.Writing.{view_of}
use Rattle.run_steps.specs.Provisioned.{format_by}
use Rattle.run_summary.specs.Telling.{Summarizes, SummarizesFront}
use Rattle.script_definitions.specs.declared.kind.Grammar.TheVariants as Grammars
use Rattle.script_generator.specs.Generated.{generated}
use Rattle.store_definitions.specs.Provisioning.{provisioned}
use Rattle.mesh_run.specs.Kind.{node_kind}
use Rattle.mesh_run.proofs.Generating.{all_unwritten, front_summarized, left_then, silent_all, summarized}
use Rattle.mesh_run.proofs.Crossing.{script_machine_send}
use Rattle.mesh_run.proofs.generated.run_generated.Goals as goal

pub run_script-ended-requires-clause-read : goal.run_script-ended-requires-clause-read
run_script-ended-requires-clause-read g c κs within = (Grammars.Node, c.generated_law.ensures.read c.args.count c.args.start c.requires.few c.ranges.start.fits)

-- the summary of what was counted is written behind the lives
pub returns-in-Done-clause-done : goal.returns-in-Done-clause-done
returns-in-Done-clause-done g c = λ done.
    let chip = g.B.Flash.chip in
    let view = view_of g.K.Sink.held g.K.Sink.pieces in
    let s = script_of (generated c.args.count c.args.start) in
    let before = view c.args.sink.now in
    let mid = view c.run_script-ended.new.sink in
    let after = view c.sum_up.new.sink in
    left_then chip node_kind s (format_by false) (provisioned s.node) (chip c.args.flash) before _ Summarizes mid after
    (λ lives told. summarized c.new-summary.result c.run_script-ended.new.lives lives before mid after c.new-summary.ensures.value told (c.sum_up.ensures.done done))
    c.run_script-ended.result.flash (c.run_script-ended.ensures.done c.in-Done.is)

pub returns-in-Done-clause-front : goal.returns-in-Done-clause-front
returns-in-Done-clause-front g c = λ fault.
    let chip = g.B.Flash.chip in
    let view = view_of g.K.Sink.held g.K.Sink.pieces in
    let s = script_of (generated c.args.count c.args.start) in
    let before = view c.args.sink.now in
    let mid = view c.run_script-ended.new.sink in
    let after = view c.sum_up.new.sink in
    left_then chip node_kind s (format_by false) (provisioned s.node) (chip c.args.flash) before _ SummarizesFront mid after
    (λ lives told. front_summarized c.new-summary.result c.run_script-ended.new.lives lives before mid after c.new-summary.ensures.value told (c.sum_up.ensures.front fault))
    c.run_script-ended.result.flash (c.run_script-ended.ensures.done c.in-Done.is)

pub returns-in-Done-clause-memory : goal.returns-in-Done-clause-memory
returns-in-Done-clause-memory g c = λ memory.
    let chip = g.B.Flash.chip in
    let view = view_of g.K.Sink.held g.K.Sink.pieces in
    let s = script_of (generated c.args.count c.args.start) in
    all_unwritten chip node_kind s (format_by false) (provisioned s.node) (chip c.args.flash) (view c.args.sink.now) _ (view c.run_script-ended.new.sink) (view c.sum_up.new.sink)
    (λ lives told. ap view (c.sum_up.ensures.memory memory) ∙ told.0)
    c.run_script-ended.result.flash (c.run_script-ended.ensures.done c.in-Done.is)

pub returns-in-Done-clause-unwritten : goal.returns-in-Done-clause-unwritten
returns-in-Done-clause-unwritten g c = λ memory.
    let chip = g.B.Flash.chip in
    let view = view_of g.K.Sink.held g.K.Sink.pieces in
    let s = script_of (generated c.args.count c.args.start) in
    ap view (c.sum_up.ensures.memory memory)
    ∙ silent_all chip node_kind s (format_by false) (provisioned s.node) (chip c.args.flash) (view c.args.sink.now) _ (view c.run_script-ended.new.sink) (λ lives told. told.0)
    c.run_script-ended.result.flash (c.run_script-ended.ensures.done c.in-Done.is)

pub run_script-ended-requires-send-M : goal.run_script-ended-requires-send-M
run_script-ended-requires-send-M g c κs = let sent : IsSend ScriptMachine.the_row = script_machine_send in search sendable
