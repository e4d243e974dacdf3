-- An access message to a virtual address under one key, and several labels (Mesh Profile 1.0.1, section 3.8.7.1).
use Rattle.std.specs.Prelude.{◌≡◌, ℕ, ◌-◌, ◌<◌, List, length, take, Some}
use Rattle.std.specs.List.{slice_get}
use Rattle.cipher_definitions.specs.Kdf.{virtual_address}
use Rattle.aes_ccm.specs.Trials.{IsTrialOf}
use Rattle.layer_definitions.specs.Labels.{with_label}
use Rattle.layer_definitions.specs.Upper.{OpensUnder, key_octets, trans_mic_length, upper_nonce}
use Rattle.mesh_base.specs.declared.keys.UpperKey.{UpperKey}
use Rattle.mesh_base.specs.declared.upper.UpperFields.{UpperFields}
use Rattle.upper_transport.specs.declared.labelled.Decrypted.{Decrypted}

-- With the label at this place the octets open to this payload: DST is its address. With no label before it that has this address do they
-- open to anything.
pub record OpensByLabel (key : UpperKey) (labels : List (List ℕ)) (f : UpperFields) (upper : List ℕ) (at : ℕ) (payload : List ℕ) : Type 0 where
  pub label : List ℕ
  pub label_is : slice_get labels at ≡ Some label
  pub address : virtual_address label ≡ f.dst.0
  pub opens : OpensUnder key (with_label label f) upper payload
  pub first : (i : ℕ) (earlier : List ℕ) (other : List ℕ) → i < at → slice_get labels i ≡ Some earlier → virtual_address earlier ≡ f.dst.0
      → OpensUnder key (with_label earlier f) upper other → ⊥

-- with no label do they
abbrev pub OpensByNone : UpperKey → List (List ℕ) → UpperFields → List ℕ → Type 0
OpensByNone key labels f upper =
    (i : ℕ) (label : List ℕ) (other : List ℕ) → slice_get labels i ≡ Some label → virtual_address label ≡ f.dst.0
    → OpensUnder key (with_label label f) upper other → ⊥

-- The octets but for TransMIC are decrypted, for trials of labels.
pub record IsDecrypted (key : UpperKey) (f : UpperFields) (upper : List ℕ) (d : Decrypted) : Type 0 where
  pub long : trans_mic_length f.long_mic < length upper
  pub trial : IsTrialOf (key_octets key) (upper_nonce key f) (take (length upper - trans_mic_length f.long_mic) upper) d.text.items
      (trans_mic_length f.long_mic) d.trial
