use Rattle.std.proofs.Common.{length, ap, ◌∙◌}
use Rattle.layer_definitions.proofs.UpperLaws.{length-upper_text}
use Rattle.job_sealing.proofs.messages.upper_of.Goals as goal

pub returns-clause-length : goal.returns-clause-length
returns-clause-length c = ap length c.seal_access.ensures.value ∙ length-upper_text _ _ _
