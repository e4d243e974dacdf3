use Rattle.std.proofs.Common.{◌≡◌, ◌-◌, length, drop, refl}
use Rattle.layer_definitions.specs.Upper.{trans_mic_length}
use Rattle.upper_transport.proofs.Labels.{tried, tried_none}
use Rattle.upper_transport.proofs.labelled.opened_by.Goals as goal

pub returns-then-opens-clause-some : goal.returns-then-opens-clause-some
returns-then-opens-clause-some c =
    let f = c.args.f.now in
    let upper = c.args.upper.now in
    let back : c.split_at.result.1.now ≡ drop (length upper - trans_mic_length f.long_mic) upper = (rw c.mic_length.ensures.value at c.split_at.ensures.back) in
    rw c.payload_of.ensures
    (tried c.args.key.now f c.args.label.now upper c.requires.decrypted.long c.schedule.result.now c.as_slice.result.now c.args.d.now.text.items c.split_at.result.1.now c.args.d.now.trial
    c.schedule.ensures.value c.as_slice.ensures.value back c.requires.decrypted.trial (c.if-opens.ensures.yes refl))

pub returns-else-opens-clause-none : goal.returns-else-opens-clause-none
returns-else-opens-clause-none c = λ _ address.
    let f = c.args.f.now in
    let upper = c.args.upper.now in
    let back : c.split_at.result.1.now ≡ drop (length upper - trans_mic_length f.long_mic) upper = (rw c.mic_length.ensures.value at c.split_at.ensures.back) in
    tried_none c.args.key.now f c.args.label.now upper c.requires.decrypted.long c.schedule.result.now c.as_slice.result.now c.args.d.now.text.items c.split_at.result.1.now c.args.d.now.trial
    c.schedule.ensures.value c.as_slice.ensures.value back c.requires.decrypted.trial (c.if-opens.ensures.no refl)
