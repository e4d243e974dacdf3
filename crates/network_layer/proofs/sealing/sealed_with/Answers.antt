-- The text and its MIC fit, and are what is sealed.
use Rattle.std.proofs.Common.{arith, refl}
use Rattle.std.proofs.lemmas.List.{length-append}
use Rattle.cipher_definitions.specs.Octets.{two_octets}
use Rattle.cipher_definitions.proofs.Sealing.{length-ccm_text}
use Rattle.layer_definitions.specs.Network.{sealed_part}
use Rattle.layer_definitions.proofs.NetworkLaws.{length-tpdu_and_mic-le}
use Rattle.network_layer.proofs.sealing.sealed_with.Goals as goal

pub extend-requires-2 : goal.extend-requires-2
extend-requires-2 c =
    let most = length-tpdu_and_mic-le c.args.f.now c.requires.fields in
    let text = length-append (two_octets c.args.f.now.dst.0) c.args.f.now.tpdu in (
      omega arith,
      rw (c.extend.ensures.value, c.new-sealed.ensures.value, c.as_slice.ensures.value, c.seal_in_place.ensures.text, length-ccm_text, c.plaintext-text.ensures.value)
          (omega (arith, most, text, c.requires.mic, c.seal_in_place.auto.mic)),
    )

pub returns : goal.returns
unfolding sealed_part
returns c =
    rw (c.extend-2.ensures.value, c.extend.ensures.value, c.new-sealed.ensures.value, c.as_slice.ensures.value, c.seal_in_place.ensures.text, c.seal_in_place.ensures.mic, c.encryption.ensures.value, c.nonce.ensures.value, c.header.ensures.value, c.plaintext-text.ensures.value, c.requires.mic) refl
