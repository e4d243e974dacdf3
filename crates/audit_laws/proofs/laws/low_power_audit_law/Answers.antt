use Rattle.low_power_role.specs.Role.{low_power_role}
use Rattle.audit_laws.proofs.Covered.{kind_reports_sound}
use Rattle.audit_laws.proofs.OwnedRoles.{low_power_owned}
use Rattle.audit_laws.proofs.Sound.{kind_reports_safe, kind_verdicts_safe}
use Rattle.audit_laws.proofs.laws.low_power_audit_law.Goals as goal

pub returns : goal.returns
returns c = record {
  safe = kind_reports_safe low_power_role low_power_owned;
  verdicts = kind_verdicts_safe low_power_role low_power_owned;
  sound = kind_reports_sound low_power_role low_power_owned;
}
