use Rattle.std.proofs.Common.{◌<◌, ◌^◌, ◌∙◌, sym, subst}
use Rattle.mesh_base.specs.declared.fields.NetMaterial.{NetMaterial}
use Rattle.log_audit.proofs.Materials.{nids_push, materials_push}
use Rattle.log_audit.proofs.auditing.schedules.Goals as goal

pub loop-key-preserved : goal.loop-key-preserved
loop-key-preserved c = record {
  value = materials_push c.args.keys.now c.loop-key.key-index _ c.loop-key.out.items c.push.new.self.items c.new.result c.loop-key-test.true c.in_ok-push.ensures.items
      (c.new.ensures.value ∙ c.material.ensures.value) c.loop-key.invariant.value;
  nids = λ k m e.
      nids_push c.loop-key.out.items c.new.result c.loop-key.invariant.nids (subst (λ (y : NetMaterial). y.nid < 2 ^ 7) (sym c.new.ensures.value) c.material.ensures.nid) k m
      (rw c.in_ok-push.ensures.items at e);
}
