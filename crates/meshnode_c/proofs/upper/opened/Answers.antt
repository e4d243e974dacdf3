use Rattle.std.proofs.Common.{◌+◌, length, ap, sym, ◌∙◌}
use Rattle.std.proofs.lemmas.Option.{IfSome_then}
use Rattle.layer_definitions.proofs.UpperLaws.{length-upper_text}
use Rattle.layer_definitions.specs.Upper.{trans_mic_length}
use Rattle.mesh_base.specs.declared.upper.UpperFields.{UpperFields}
use Rattle.meshnode_c.proofs.upper.opened.Goals as goal

pub returns-clause-length : goal.returns-clause-length
returns-clause-length c =
    IfSome_then c.open_kept.result c.open_kept.ensures.some (λ payload h.
    ap (λ (f : UpperFields). length payload + trans_mic_length f.long_mic) (sym c.fields_of.ensures.value)
    ∙ sym (length-upper_text _ _ payload) ∙ ap length h.text)
