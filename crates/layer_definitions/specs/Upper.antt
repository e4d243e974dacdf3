-- Upper transport access PDUs (Mesh Profile 1.0.1). Section numbers are the profile's.
use Rattle.std.specs.Prelude.{◌≡◌, ℕ, ◌<◌, ◌≤◌, ◌^◌, Bool, Some, unwrap_or, List, [], ◌∷◌, ◌++◌, length, slice_get, if◌then◌else◌}
use Rattle.cipher_definitions.specs.Octets.{two_octets, three_octets, four_octets}
use Rattle.cipher_definitions.specs.Ccm.{ccm_text, ccm_mic}
use Rattle.mesh_base.specs.declared.keys.UpperKey.{UpperKey}
use Rattle.mesh_base.specs.declared.keys.UpperKey.TheVariants.{Device, App}
use Rattle.mesh_base.specs.declared.upper.UpperFields.{UpperFields}

-- the type of a nonce: 01 under an application key, 02 under the device key (3.8.5)
abbrev pub nonce_type : UpperKey → ℕ
nonce_type (App index aid key) = 1
nonce_type (Device key) = 2

-- the octets of the key
abbrev pub key_octets : UpperKey → List ℕ
key_octets (App index aid key) = key
key_octets (Device key) = key

-- The application nonce and the device nonce: the type, ASZMIC in bit 7, which is set for a TransMIC of 8 octets, and padding; SEQ, SRC, DST,
-- IV Index (3.8.5.2, 3.8.5.3). SEQ and IV Index are those of SeqAuth.
abbrev pub upper_nonce : UpperKey → UpperFields → List ℕ
upper_nonce key f =
    nonce_type key ∷ (if f.long_mic then 2 ^ 7 else 0) ∷ three_octets f.pair.seq ++ two_octets f.src.0
    ++ two_octets f.dst.0 ++ four_octets f.pair.iv

-- how many octets TransMIC has: 4, or 8 with SZMIC (3.6.2.2)
abbrev pub trans_mic_length : Bool → ℕ
trans_mic_length long_mic = if long_mic then 8 else 4

-- the additional data: the label of a virtual destination, and else none (3.8.7.1)
abbrev pub label_octets : UpperFields → List ℕ
label_octets f = unwrap_or f.label []

-- the octets of an upper transport access PDU: AES-CCM of the payload, and TransMIC (3.6.2, 3.8.7.1)
unfoldable pub upper_text : UpperKey → UpperFields → List ℕ → List ℕ
upper_text key f payload =
    let nonce = upper_nonce key f in
    ccm_text (key_octets key) nonce payload
    ++ ccm_mic (key_octets key) nonce (label_octets f) payload (trans_mic_length f.long_mic)

-- Under this key the octets open to this payload: they are its text. A payload has at least one octet (3.6.2.1).
pub record OpensUnder (key : UpperKey) (f : UpperFields) (upper payload : List ℕ) : Type 0 where
  pub least : 1 ≤ length payload
  pub text : upper_text key f payload ≡ upper

-- The octets open to this payload under the key at this place of the list, and to nothing under the keys before it.
pub record Opens (keys : List UpperKey) (f : UpperFields) (upper : List ℕ) (place : ℕ) (payload : List ℕ) : Type 0 where
  pub key : UpperKey
  pub key_is : slice_get keys place ≡ Some key
  pub opens : OpensUnder key f upper payload
  pub first : (k : ℕ) (earlier : UpperKey) (other : List ℕ) → k < place → slice_get keys k ≡ Some earlier
      → OpensUnder earlier f upper other → ⊥

-- Under no key of the list do the octets open to anything.
abbrev pub IsUnopened : List UpperKey → UpperFields → List ℕ → Type 0
IsUnopened keys f upper =
    (k : ℕ) (key : UpperKey) (payload : List ℕ) → slice_get keys k ≡ Some key → OpensUnder key f upper payload → ⊥
