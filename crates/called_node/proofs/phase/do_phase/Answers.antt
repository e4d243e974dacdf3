use Rattle.std.proofs.Common.{◌∷◌, [], map}
use Rattle.file_flash.specs.Noted.{put_of}
use Rattle.mesh_node.specs.Told.{did_of}
use Rattle.called_node.proofs.Calling.{IsBehind, few_puts, phase_done, printed, story_more}
use Rattle.called_node.proofs.phase.do_phase.Goals as goal

pub report_text-requires : goal.report_text-requires
report_text-requires g c =
    record { room = printed g.M.Machine.role g.M.Machine.image _ c.args.life (did_of c.in_ok-done.done.log) c.requires.story c.in_ok-done.ensures.room }

pub returns-clause-story : goal.returns-clause-story
returns-clause-story g c =
    let said = c.in_ok-done.ensures in
    let out = c.take_writes-writes in
    let behind : IsBehind g.M.Machine.role g.M.Machine.image _ (c.args.events.now ∷ []) c.args.life c.in_ok-done.done.life out.new.self (did_of c.in_ok-done.done.log) (map put_of out.result.items) = record {
      part = said.part;
      held = said.held;
      saved = said.saved;
      called = said.called;
      programmed = said.programmed;
      moment = said.moment;
      writes = out.ensures.writes;
      on_chip = out.ensures.on_chip;
      fronts = out.ensures.fronts;
      few = few_puts out.result.items _ _ out.ensures.few;
      lean = out.ensures.lean;
      handed = out.ensures.flash;
      frame = out.ensures.frame;
      stays = out.ensures.held;
    } in
    story_more _ _ _ behind c.requires.story

pub returns-clause-done : goal.returns-clause-done
returns-clause-done g c =
    let said = c.in_ok-done.ensures in
    let out = c.take_writes-writes in
    let behind : IsBehind g.M.Machine.role g.M.Machine.image _ (c.args.events.now ∷ []) c.args.life c.in_ok-done.done.life out.new.self (did_of c.in_ok-done.done.log) (map put_of out.result.items) = record {
      part = said.part;
      held = said.held;
      saved = said.saved;
      called = said.called;
      programmed = said.programmed;
      moment = said.moment;
      writes = out.ensures.writes;
      on_chip = out.ensures.on_chip;
      fronts = out.ensures.fronts;
      few = few_puts out.result.items _ _ out.ensures.few;
      lean = out.ensures.lean;
      handed = out.ensures.flash;
      frame = out.ensures.frame;
      stays = out.ensures.held;
    } in
    phase_done _ _ _ behind _ c.in_ok-report.report.items c.requires.counted out.ensures.noted out.ensures.none c.in_ok-report.ensures.value
