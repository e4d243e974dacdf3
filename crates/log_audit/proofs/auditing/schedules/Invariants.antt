use Rattle.std.proofs.Common.{◌≡◌, ◌<◌, ◌^◌, ℕ, Some, map, take}
use Rattle.std.specs.List.{slice_get}
use Rattle.mesh_base.specs.declared.fields.NetMaterial.{NetMaterial}
use Rattle.script_definitions.specs.Events.{material_of}
use Rattle.log_audit.proofs.auditing.schedules.Given as goal

abbrev pub invariant-loop-key : goal.invariant-loop-key
invariant-loop-key l = record {
  value : l.out.items ≡ map material_of (take l.key-index l.keys);
  nids : (k : ℕ) (m : NetMaterial) → slice_get l.out.items k ≡ Some m → m.nid < 2 ^ 7;
}
