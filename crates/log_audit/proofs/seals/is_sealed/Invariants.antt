use Rattle.std.proofs.Common.{◌<◌, ℕ, Some, ◌≡◌}
use Rattle.std.specs.List.{slice_get}
use Rattle.mesh_base.specs.declared.fields.NetMaterial.{NetMaterial}
use Rattle.log_audit.specs.Told.{IsSealedBy}
use Rattle.log_audit.proofs.seals.is_sealed.Given as goal

abbrev pub invariant-loop-key : goal.invariant-loop-key
invariant-loop-key l = (k : ℕ) (m : NetMaterial) → k < l.key-index → slice_get l.keys k ≡ Some m → IsSealedBy m l.outcome l.octets → ⊥
