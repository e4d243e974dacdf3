-- Credentials and the fields of a network PDU as C gives them.
use Rattle.std.specs.Prelude.{ℕ, List}
use Rattle.mesh_base.specs.declared.fields.NetFields.{NetFields}
use Rattle.mesh_base.specs.declared.fields.NetMaterial.{NetMaterial}
use Rattle.meshnode_c.specs.declared.credentials.MeshnodeCredentials.{MeshnodeCredentials}
use Rattle.meshnode_c.specs.declared.network.MeshnodeHead.{MeshnodeHead}

abbrev pub material_of : MeshnodeCredentials → NetMaterial
material_of by = record { nid = by.nid; encryption = by.encryption; privacy = by.privacy }

abbrev pub fields_of : MeshnodeHead → List ℕ → NetFields
fields_of head tpdu = record {
  iv = head.iv;
  ctl = head.ctl;
  ttl = head.ttl;
  seq = head.seq;
  src = record { 0 = head.src };
  dst = record { 0 = head.dst };
  tpdu = tpdu;
}
