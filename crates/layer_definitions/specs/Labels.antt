-- Messages to virtual addresses (Mesh Profile 1.0.1, sections 3.4.2.3 and 3.8.7.1): the label that a virtual address stands for is the
-- additional data of the seal.
use Rattle.std.specs.Prelude.{◌≡◌, ℕ, ◌<◌, List, Option, Some}
use Rattle.std.specs.List.{slice_get}
use Rattle.cipher_definitions.specs.Kdf.{virtual_address}
use Rattle.layer_definitions.specs.Upper.{Opens, IsUnopened}
pub use Rattle.mesh_base.specs.Address.{is_virtual}
use Rattle.mesh_base.specs.declared.keys.UpperKey.{UpperKey}
use Rattle.mesh_base.specs.declared.upper.UpperFields.{UpperFields}

-- the fields with this label as additional data
abbrev pub with_label : List ℕ → UpperFields → UpperFields
with_label label f = record f { label = Some label }

-- A label of the list, and a key of the other one, by which the octets open to this payload: DST is the label's address. By no label before
-- it with this address, and by no key before that one with this label, do they open to anything.
pub record OpensLabel (keys : List UpperKey) (labels : List (List ℕ)) (f : UpperFields) (upper : List ℕ) (at place : ℕ)
    (payload : List ℕ) : Type 0 where
  pub label : List ℕ
  pub label_is : slice_get labels at ≡ Some label
  pub address : virtual_address label ≡ f.dst.0
  pub opens : Opens keys (with_label label f) upper place payload
  pub first : (i : ℕ) (earlier : List ℕ) → i < at → slice_get labels i ≡ Some earlier
      → virtual_address earlier ≡ f.dst.0
      → IsUnopened keys (with_label earlier f) upper

-- by no label and key do the octets open to anything
abbrev pub IsLabelUnopened : List UpperKey → List (List ℕ) → UpperFields → List ℕ → Type 0
IsLabelUnopened keys labels f upper =
    (i : ℕ) (label : List ℕ) → slice_get labels i ≡ Some label → virtual_address label ≡ f.dst.0
    → IsUnopened keys (with_label label f) upper
