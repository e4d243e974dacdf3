use Rattle.std.proofs.Common.{◌+◌, length, ap, ◌∙◌}
use Rattle.layer_definitions.proofs.UpperLaws.{length-upper_text}
use Rattle.layer_definitions.specs.Upper.{trans_mic_length}
use Rattle.mesh_base.specs.declared.upper.UpperFields.{UpperFields}
use Rattle.meshnode_c.proofs.upper.upper_of.Goals as goal

pub returns-clause-length : goal.returns-clause-length
returns-clause-length c =
    ap length c.seal_access.ensures.value ∙ length-upper_text _ _ _
    ∙ ap (λ (f : UpperFields). length c.args.payload.now + trans_mic_length f.long_mic) c.fields_of.ensures.value
