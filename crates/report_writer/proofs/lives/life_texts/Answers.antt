use Rattle.std.proofs.Common.{ap, map}
use Rattle.report_writer.specs.Lives.{life_of}
use Rattle.report_writer.proofs.Texts.{life_made}
use Rattle.report_writer.proofs.lives.life_texts.Goals as goal

pub returns : goal.returns
returns c = record {
  value = life_made c.args.hex c.args.number (life_of c.args.life.now) c.opened_line.result c.as_slice.result.now (map (λ v. v.items) c.as_slice-2.result.now) _ _ _ _ _
      c.opened_line.ensures.value c.as_slice.ensures.value (ap (map (λ v. v.items)) c.as_slice-2.ensures.value)
      c.new-texts.ensures.value c.in_ok-push_line.ensures.ok c.in_ok-push_entries.ensures.ok c.in_ok-push_sends.ensures.ok c.in_ok-push_end.ensures.ok;
}
