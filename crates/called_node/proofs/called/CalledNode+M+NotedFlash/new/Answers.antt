use Rattle.std.proofs.Common.{◌∙◌, ap, map, sym}
use Rattle.file_flash.specs.Noted.{put_of}
use Rattle.flash_model.specs.Chip.{Setting}
use Rattle.called_node.specs.Called.{HasStory, is_erase}
use Rattle.called_node.proofs.Calling.{few_puts}
use Rattle.called_node.proofs.Lines.{begun_is, begun_story}
use Rattle.called_node.proofs.called.CalledNode+M+NotedFlash.new.Goals as goal

pub begun-requires-clause-story : goal.begun-requires-clause-story
begun-requires-clause-story g c κs within =
    let out = c.take_writes-writes in
    begun_story g.M.Machine.role g.M.Machine.image _ c.args.life out.new.self c.requires.begins out.ensures.held

pub begun-requires-clause-counted : goal.begun-requires-clause-counted
begun-requires-clause-counted g c κs within =
    let handed = c.take_writes-writes.ensures.flash in
    (ap (λ (s : Setting). s.called) handed.setting ∙ sym handed.changes, ap (λ (s : Setting). s.programmed) handed.setting ∙ sym handed.octets)

pub returns : goal.returns
returns g c =
    let out = c.take_writes-writes in
    record {
      begun = begun_is g.M.Machine.role g.M.Machine.image _ _ c.args.life out.new.self (map put_of out.result.items) (map is_erase out.result.items) _ c.begun.ensures.value c.requires.usable c.requires.begins
          out.ensures.held out.ensures.flash out.ensures.frame out.ensures.noted out.ensures.none out.ensures.writes
          out.ensures.on_chip out.ensures.fronts
          (few_puts out.result.items _ _ out.ensures.few) out.ensures.lean;
    }
