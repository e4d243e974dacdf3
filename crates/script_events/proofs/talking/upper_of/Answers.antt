use Rattle.std.proofs.Common.{◌≡◌, ◌∙◌, ◌+◌, false, length, ap}
use Rattle.layer_definitions.specs.Upper.{trans_mic_length}
use Rattle.layer_definitions.proofs.UpperLaws.{length-upper_text}
use Rattle.mesh_base.specs.declared.upper.UpperFields.{UpperFields}
use Rattle.script_events.proofs.talking.upper_of.Goals as goal

pub returns-clause-length : goal.returns-clause-length
returns-clause-length c =
    let short : c.upper_fields.result.long_mic ≡ false = ap (λ (f : UpperFields). f.long_mic) c.upper_fields.ensures.value in
    ap length c.seal_kept.ensures.value
    ∙ length-upper_text c.schedule.result.now c.upper_fields.result c.as_slice.result.now
    ∙ ap (λ b. length c.as_slice.result.now + trans_mic_length b) short
    ∙ ap (λ o. length o + 4) c.as_slice.ensures.value
