use Rattle.std.proofs.Common.{arith}
use Rattle.upper_transport.proofs.labelled.decrypt.Goals as goal

pub returns-clause-some : goal.returns-clause-some
returns-clause-some c = record {
  long = omega (arith, c.mic_length-mic_length.ensures.value, c.if-upper-mic_length.false);
  trial =
      rw (c.schedule.ensures.value, c.nonce.ensures.value, c.key.ensures.value, c.buffer_of-text.ensures, c.split_at.ensures.front, c.mic_length-mic_length.ensures.value)
      at c.begin_in_place-trial.ensures.value;
}
