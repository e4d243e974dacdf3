-- What is true of all readings of network PDUs.
use Rattle.std.specs.Prelude.{◌≡◌, ℕ, ◌+◌, ◌<◌, ◌^◌, ◌⊎◌, List}
use Rattle.mesh_base.specs.declared.fields.NetFields.{NetFields}
use Rattle.mesh_base.specs.declared.fields.NetMaterial.{NetMaterial}
use Rattle.layer_definitions.specs.Network.{HasPdu, IsInWidths, ReadsUnder, net_text}

-- Under one material octets read as one set of fields at most.
abbrev pub HaveOneReading : Type 0
HaveOneReading =
    (m : NetMaterial) (current : ℕ) (octets : List ℕ) (f g : NetFields) → ReadsUnder m current octets f
    → ReadsUnder m current octets g → f ≡ g

-- The octets of a PDU read as its fields, where it is heard under its IV Index.
abbrev pub TextsReadBack : Type 0
TextsReadBack =
    (m : NetMaterial) (current : ℕ) (f : NetFields) → m.nid < 2 ^ 7 → HasPdu f → IsInWidths f
    → (f.iv ≡ current) ⊎ (f.iv + 1 ≡ current)
    → ReadsUnder m current (net_text m f) f
