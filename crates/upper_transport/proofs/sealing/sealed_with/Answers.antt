-- The text and its MIC fit, and are what is sealed.
use Rattle.std.proofs.Common.{arith, refl}
use Rattle.cipher_definitions.proofs.Sealing.{length-ccm_text}
use Rattle.layer_definitions.specs.Upper.{upper_text}
use Rattle.upper_transport.proofs.sealing.sealed_with.Goals as goal

pub extend-requires-2 : goal.extend-requires-2
extend-requires-2 c = (
  omega arith,
  rw (c.extend.ensures.value, c.new-upper.ensures.value, c.as_slice.ensures.value, c.seal_in_place.ensures.text, length-ccm_text, c.buffer_of-text.ensures)
      (omega (arith, c.requires.payload, c.seal_in_place.auto.mic)),
)

pub returns : goal.returns
unfolding upper_text
returns c =
    rw (c.extend-2.ensures.value, c.extend.ensures.value, c.new-upper.ensures.value, c.as_slice.ensures.value, c.seal_in_place.ensures.text, c.seal_in_place.ensures.mic, c.schedule.ensures.value, c.nonce.ensures.value, c.key.ensures.value, c.label_of.ensures.value, c.buffer_of-text.ensures, c.requires.mic) refl
