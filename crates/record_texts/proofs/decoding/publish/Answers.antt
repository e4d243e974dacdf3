use Rattle.std.proofs.Common.{refl}
use Rattle.record_texts.proofs.Fields.{back}
use Rattle.record_texts.proofs.decoding.publish.Goals as goal

pub returns : goal.returns
returns c = λ r h e. back (record { kind = 13; body = c.args.body.now }) _ r (rw (c.two_at.ensures, c.two_at-2.ensures, c.two_at-3.ensures, c.two_at-4.ensures) refl) h e
