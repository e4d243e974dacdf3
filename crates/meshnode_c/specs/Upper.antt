-- Access messages as C gives them (Mesh Profile 1.0.1, section 3.6.2).
use Rattle.std.specs.Prelude.{◌≡◌, ℕ, ◌⊎◌, Bool, if◌then◌else◌, List, [], ◌∷◌, length, Option, Some, None}
use Rattle.mesh_base.specs.declared.keys.UpperKey.{UpperKey}
use Rattle.mesh_base.specs.declared.keys.UpperKey.TheVariants.{Device, App}
use Rattle.mesh_base.specs.declared.upper.UpperFields.{UpperFields}
use Rattle.meshnode_c.specs.declared.upper.MeshnodeMessage.{MeshnodeMessage}

-- a device key or an application key; the index and the AID of this one don't go into what is sealed
abbrev pub key_of : Bool → List ℕ → UpperKey
key_of device key = if device then Device key else App 0 0 key

-- no octets stand for no label
abbrev pub label_of : List ℕ → Option (List ℕ)
label_of [] = None
label_of (first ∷ rest) = Some (first ∷ rest)

abbrev pub HasLabelLength : List ℕ → Type 0
HasLabelLength label = (length label ≡ 0) ⊎ (length label ≡ 16)

abbrev pub message_of : MeshnodeMessage → List ℕ → UpperFields
message_of m label = record {
  pair = record { iv = m.iv; seq = m.seq };
  src = record { 0 = m.src };
  dst = record { 0 = m.dst };
  long_mic = m.long_mic;
  label = label_of label;
}
