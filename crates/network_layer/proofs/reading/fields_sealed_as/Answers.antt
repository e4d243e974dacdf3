-- The octets split into text and MIC as the header's CTL says. What opens is what was sealed.
use Rattle.std.proofs.Common.{◌≡◌, ◌++◌, length, refl, sym, ap, ◌∙◌, arith}
use Rattle.std.proofs.lemmas.List.{take-append-drop}
use Rattle.layer_definitions.specs.Network.{net_mic_length, network_plaintext}
use Rattle.network_layer.specs.Opening.{has_control_bit}
use Rattle.network_layer.proofs.Openings.{length_opened, most_of_sealed, sealed_as, sealed_least, seals_of}
use Rattle.network_layer.proofs.reading.fields_sealed_as.Goals as goal

pub returns-then-sealed-mic_length-clause-none : goal.returns-then-sealed-mic_length-clause-none
returns-then-sealed-mic_length-clause-none c = λ _ f h.
    let least = sealed_least c.args.m.now c.args.iv c.args.header.now c.args.sealed.now f h in
    omega (arith, least, ap net_mic_length c.control_bit.ensures, c.mic_length-mic_length.ensures.value, c.if-sealed-mic_length.true)

pub returns-in_err-text-clause-none : goal.returns-in_err-text-clause-none
returns-in_err-text-clause-none c = λ _ f h.
    let split : c.args.sealed.now ≡ c.split_at.result.0.now ++ c.split_at.result.1.now =
    rw (c.split_at.ensures.front, c.split_at.ensures.back) (sym (take-append-drop _ c.args.sealed.now)) in
    let long : length c.split_at.result.1.now ≡ net_mic_length (has_control_bit c.args.header.now) =
    omega (arith, c.split_at.ensures.back_len, c.mic_length-mic_length.ensures.value, ap net_mic_length c.control_bit.ensures, c.if-sealed-mic_length.false) in
    c.in_err-text.ensures.none refl (network_plaintext f)
    (seals_of c.args.m.now c.args.iv c.args.header.now c.args.sealed.now c.nonce.result c.split_at.result.0.now c.split_at.result.1.now f h c.nonce.ensures.value split long)

pub fields_of-requires-clause-least : goal.fields_of-requires-clause-least
fields_of-requires-clause-least c =
    let opened = length_opened _ _ _ _ _ c.in_ok-text.ensures.some in
    omega (arith, opened, ap length c.as_slice.ensures.value, c.split_at.ensures.front_len, c.if-sealed-mic_length.false)

pub fields_of-requires-clause-most : goal.fields_of-requires-clause-most
fields_of-requires-clause-most c =
    let opened = length_opened _ _ _ _ _ c.in_ok-text.ensures.some in
    omega (
      arith,
      opened,
      ap length c.as_slice.ensures.value,
      c.split_at.ensures.front_len,
      c.if-sealed-mic_length.false,
      c.requires.most,
      c.mic_length-mic_length.ensures.value,
      ap net_mic_length c.control_bit.ensures,
      most_of_sealed (has_control_bit c.args.header.now),
    )

pub returns-clause-some : goal.returns-clause-some
returns-clause-some c =
    let split : c.args.sealed.now ≡ c.split_at.result.0.now ++ c.split_at.result.1.now =
    rw (c.split_at.ensures.front, c.split_at.ensures.back) (sym (take-append-drop _ c.args.sealed.now)) in
    let long : length c.split_at.result.1.now ≡ net_mic_length (has_control_bit c.args.header.now) =
    omega (arith, c.split_at.ensures.back_len, c.mic_length-mic_length.ensures.value, ap net_mic_length c.control_bit.ensures, c.if-sealed-mic_length.false) in
    let fields = c.fields_of.ensures in
    sealed_as c.args.m.now c.args.iv c.args.header.now c.args.sealed.now c.nonce.result c.in_ok-text.text.items c.split_at.result.0.now c.split_at.result.1.now c.fields_of.result
    fields.has_pdu fields.in_widths fields.iv fields.header (fields.text ∙ c.as_slice.ensures.value) c.in_ok-text.ensures.some c.nonce.ensures.value split long
