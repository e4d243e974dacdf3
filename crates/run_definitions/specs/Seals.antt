-- What the node seals: the network PDU of a job's line, and the upper PDU of an access message.
use Rattle.std.specs.Prelude.{ℕ, Bool, true, false, List, None}
use Rattle.layer_definitions.specs.Lower.{lower_text}
use Rattle.layer_definitions.specs.Upper.{upper_text}
use Rattle.mesh_base.specs.declared.address.Address.{Address}
use Rattle.mesh_base.specs.declared.fields.NetFields.{NetFields}
use Rattle.mesh_base.specs.declared.keys.UpperKey.{UpperKey}
use Rattle.mesh_base.specs.declared.keys.UpperKey.TheVariants as U
use Rattle.mesh_base.specs.declared.lower.Lower.TheVariants.{Access}
use Rattle.mesh_base.specs.declared.pair.Pair.{Pair}
use Rattle.mesh_base.specs.declared.upper.UpperFields.{UpperFields}

-- the fields of a network PDU of this node
abbrev pub own_fields : Pair → Bool → ℕ → Address → Address → List ℕ → NetFields
own_fields pair ctl ttl src dst tpdu =
    record { iv = pair.iv; ctl = ctl; ttl = ttl; seq = pair.seq; src = src; dst = dst; tpdu = tpdu }

-- the fields of an access message of this node: its TransMIC has 4 octets, and no label is added
abbrev pub own_upper_fields : Pair → Address → Address → UpperFields
own_upper_fields pair src dst = record { pair = pair; src = src; dst = dst; long_mic = false; label = None }

-- the upper PDU of an access message of this node
abbrev pub own_upper : UpperKey → Pair → Address → Address → List ℕ → List ℕ
own_upper key pair src dst payload = upper_text key (own_upper_fields pair src dst) payload

-- whether an application key seals, and its AID, which is 0 for a device key
abbrev pub is_app_key : UpperKey → Bool
is_app_key (U.Device key) = false
is_app_key (U.App index aid key) = true

abbrev pub aid_of_key : UpperKey → ℕ
aid_of_key (U.Device key) = 0
aid_of_key (U.App index aid key) = aid

-- the transport PDU of an unsegmented access message
abbrev pub access_tpdu : UpperKey → List ℕ → List ℕ
access_tpdu key upper = lower_text (Access (is_app_key key) (aid_of_key key) upper)

-- the fields of the network PDU of an unsegmented access message of this node
abbrev pub message_fields : UpperKey → Pair → ℕ → Address → Address → List ℕ → NetFields
message_fields key pair ttl src dst payload =
    own_fields pair false ttl src dst (access_tpdu key (own_upper key pair src dst payload))
