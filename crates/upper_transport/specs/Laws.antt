-- What is true of all upper transport PDUs.
use Rattle.std.specs.Prelude.{◌≡◌, ℕ, ◌≤◌, ◌∷◌, false, List, length}
use Rattle.mesh_base.specs.declared.control.ControlMsg.{ControlMsg}
use Rattle.mesh_base.specs.declared.control.ControlMsg.TheVariants.{Acknowledgment}
use Rattle.mesh_base.specs.declared.keys.UpperKey.{UpperKey}
use Rattle.mesh_base.specs.declared.upper.UpperFields.{UpperFields}
use Rattle.layer_definitions.specs.Control.{control_text, FitsControl, IsControlInWidths, ReadsControl}
use Rattle.layer_definitions.specs.Lower.{acknowledgment, lower_text}
use Rattle.layer_definitions.specs.Upper.{Opens, OpensUnder, upper_text}

-- Under one key with some fields octets open to one payload at most.
abbrev pub HaveOneOpening : Type 0
HaveOneOpening =
    (key : UpperKey) (f : UpperFields) (upper payload other : List ℕ) → OpensUnder key f upper payload
    → OpensUnder key f upper other → payload ≡ other

-- By a list of keys they open by one place at most, and to one payload.
abbrev pub HaveOnePlace : Type 0
HaveOnePlace =
    (keys : List UpperKey) (f : UpperFields) (upper : List ℕ) (place elsewhere : ℕ) (payload other : List ℕ)
    → Opens keys f upper place payload → Opens keys f upper elsewhere other → (place ≡ elsewhere) × (payload ≡ other)

-- What was sealed opens to itself.
abbrev pub PayloadsOpen : Type 0
PayloadsOpen =
    (key : UpperKey) (f : UpperFields) (payload : List ℕ) → 1 ≤ length payload
    → OpensUnder key f (upper_text key f payload) payload

-- An opcode and parameters read as one control message at most.
abbrev pub HaveOneMessage : Type 0
HaveOneMessage =
    (opcode : ℕ) (params : List ℕ) (m other : ControlMsg) → ReadsControl opcode params m
    → ReadsControl opcode params other → m ≡ other

-- The text of a control message reads as that message.
abbrev pub MessagesReadBack : Type 0
MessagesReadBack =
    (opcode : ℕ) (params : List ℕ) (m : ControlMsg) → FitsControl m → IsControlInWidths m
    → control_text m ≡ opcode ∷ params → ReadsControl opcode params m

-- A Segment Acknowledgment with OBO 0 is the one that the lower transport layer's definitions write.
abbrev pub AcknowledgmentsAgree : Type 0
AcknowledgmentsAgree =
    (seq_zero block_ack : ℕ)
    → control_text (Acknowledgment (record { obo = false; seq_zero = seq_zero; block_ack = block_ack }))
    ≡ lower_text (acknowledgment seq_zero block_ack)
