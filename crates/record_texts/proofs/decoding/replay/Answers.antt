use Rattle.std.proofs.Common.{refl}
use Rattle.record_texts.proofs.Fields.{back}
use Rattle.record_texts.proofs.decoding.replay.Goals as goal

pub returns : goal.returns
returns c = λ r h e. back (record { kind = 4; body = c.args.body.now }) _ r (rw (c.name_at.ensures, c.second_name.ensures) refl) h e
