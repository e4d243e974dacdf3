use Rattle.std.proofs.Common.{refl}
use Rattle.record_texts.proofs.Fields.{back}
use Rattle.record_texts.proofs.decoding.numbers.Goals as goal

pub returns : goal.returns
returns c = λ r h e. back (record { kind = 2; body = c.args.body.now }) _ r (rw (c.four_at.ensures, c.mark_at.ensures, c.two_at.ensures, c.two_at-2.ensures) refl) h e
