use Rattle.std.proofs.Common.{refl}
use Rattle.cipher_definitions.specs.Ccm.{ccm_text}
use Rattle.aes_ccm.proofs.Opening.{opens, sole, refuses}
use Rattle.aes_ccm.proofs.sealing.unseal.Goals as goal

pub returns-then-has_mic-clause-ok : goal.returns-then-has_mic-clause-ok
unfolding ccm_text
returns-then-has_mic-clause-ok c =
    opens c.args.schedule.now c.args.nonce.now c.args.additional.now c.add_stream.new.text c.args.text.now c.args.mic.now c.add_stream.ensures (c.if-has_mic.ensures.0 refl)

pub returns-then-has_mic-clause-only : goal.returns-then-has_mic-clause-only
unfolding ccm_text
returns-then-has_mic-clause-only c =
    sole c.args.schedule.now c.args.nonce.now c.args.additional.now c.add_stream.new.text c.args.text.now c.args.mic.now c.add_stream.ensures

pub returns-then-has_mic-clause-bad_mic : goal.returns-then-has_mic-clause-bad_mic
unfolding ccm_text
returns-then-has_mic-clause-bad_mic c = (
  (λ e. cc),
  (λ none. absurd (none c.add_stream.new.text
      (opens c.args.schedule.now c.args.nonce.now c.args.additional.now c.add_stream.new.text c.args.text.now c.args.mic.now c.add_stream.ensures (c.if-has_mic.ensures.0 refl)))),
)

pub returns-else-has_mic-clause-bad_mic : goal.returns-else-has_mic-clause-bad_mic
unfolding ccm_text
returns-else-has_mic-clause-bad_mic c = (
  (λ e. refuses c.args.schedule.now c.args.nonce.now c.args.additional.now c.add_stream.new.text c.args.text.now c.args.mic.now c.add_stream.ensures (λ m. cc (c.if-has_mic.ensures.1 m))),
  (λ none. refl),
)
