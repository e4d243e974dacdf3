use Rattle.std.proofs.Common.{refl}
use Rattle.record_texts.proofs.Fields.{back}
use Rattle.record_texts.proofs.decoding.feature.Goals as goal

pub returns : goal.returns
returns c = λ r h e. back (record { kind = 9; body = c.args.body.now }) _ r (rw (c.two_at.ensures) refl) h e
