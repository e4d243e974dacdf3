use Rattle.std.proofs.Common.{◌+◌, ap, All}
use Rattle.report_writer.specs.Lives.{HasRoom}
use Rattle.report_writer.proofs.Parts.{next_bearer, room_at}
use Rattle.report_writer.proofs.Texts.{made_more}
use Rattle.report_writer.proofs.lives.push_sends.Goals as goal

pub push_bearer-requires : goal.push_bearer-requires
push_bearer-requires c =
    record { room = room_at (λ v. v.items) (All HasRoom) c.args.sends.now c.loop-sent.sent-index c.sent-item.result c.as_slice.result.now c.loop-sent-test.true c.sent-item.is c.as_slice.ensures.value c.requires.room }

pub loop-sent-preserved : goal.loop-sent-preserved
loop-sent-preserved c = record {
  place = ap (λ n. n + 1) c.loop-sent.invariant.place;
  texts = made_more _ _ _ _ _ _ _
      (next_bearer (λ v. v.items) c.args.hex c.args.sends.now c.loop-sent.sent-index c.loop-sent.bearer c.sent-item.result c.as_slice.result.now c.loop-sent-test.true c.sent-item.is c.loop-sent.invariant.place c.as_slice.ensures.value)
      c.loop-sent.invariant.texts c.in_ok-push_bearer.ensures.ok;
}
