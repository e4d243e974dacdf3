-- The octets split into text and TransMIC. What opens is what was sealed.
use Rattle.std.proofs.Common.{◌≡◌, ◌++◌, length, List, ℕ, refl, sym, ◌∙◌, subst, arith}
use Rattle.std.proofs.lemmas.List.{take-append-drop}
use Rattle.layer_definitions.specs.Upper.{OpensUnder, trans_mic_length}
use Rattle.layer_definitions.proofs.UpperLaws.{length-opening, opens-from_seals, seals-from_opens}
use Rattle.upper_transport.proofs.opening.open_kept.Goals as goal

pub returns-then-upper-mic_length-clause-none : goal.returns-then-upper-mic_length-clause-none
returns-then-upper-mic_length-clause-none c = λ _ other h.
    let more = length-opening c.args.key.now c.args.f.now c.args.upper.now other h in
    omega (arith, more, c.mic_length-mic_length.ensures.value, c.if-upper-mic_length.true)

pub returns-in_err-text-clause-none : goal.returns-in_err-text-clause-none
returns-in_err-text-clause-none c = λ _ other h.
    let split : c.args.upper.now ≡ c.split_at.result.0.now ++ c.split_at.result.1.now =
    rw (c.split_at.ensures.front, c.split_at.ensures.back) (sym (take-append-drop _ c.args.upper.now)) in
    let long : length c.split_at.result.1.now ≡ trans_mic_length c.args.f.now.long_mic =
    omega (arith, c.split_at.ensures.back_len, c.mic_length-mic_length.ensures.value, c.if-upper-mic_length.false) in
    c.in_err-text.ensures.none refl other
    (seals-from_opens c.args.key.now c.args.f.now other c.split_at.result.0.now c.split_at.result.1.now long
    (subst (λ (u : List ℕ). OpensUnder c.args.key.now c.args.f.now u other) split h))

pub returns-clause-some : goal.returns-clause-some
returns-clause-some c =
    let split : c.args.upper.now ≡ c.split_at.result.0.now ++ c.split_at.result.1.now =
    rw (c.split_at.ensures.front, c.split_at.ensures.back) (sym (take-append-drop _ c.args.upper.now)) in
    let long : length c.split_at.result.1.now ≡ trans_mic_length c.args.f.now.long_mic =
    omega (arith, c.split_at.ensures.back_len, c.mic_length-mic_length.ensures.value, c.if-upper-mic_length.false) in
    let payload : c.extend.new.self ≡ c.in_ok-text.text.items = c.extend.ensures.value ∙ rw (c.new-payload.ensures.value, c.as_slice.ensures.value) refl in
    rw (payload, split)
    (opens-from_seals c.args.key.now c.args.f.now c.in_ok-text.text.items c.split_at.result.0.now c.split_at.result.1.now
    (omega (arith, c.split_at.ensures.front_len, c.if-upper-mic_length.false)) long c.in_ok-text.ensures.some)
