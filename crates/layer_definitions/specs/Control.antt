-- Control messages (Mesh Profile 1.0.1). Section numbers are the profile's.
use Rattle.std.specs.Prelude.{◌≡◌, ℕ, ◌+◌, ◌*◌, ◌/◌, ◌%◌, ◌^◌, ◌<◌, ◌≤◌, ◌==◌, Bool, true, false, IsFalse, if◌then◌else◌, List, [], ◌∷◌, ◌++◌, length, map, All}
use Rattle.std.specs.List.{flat_map}
use Rattle.cipher_definitions.specs.Octets.{two_octets, three_octets, four_octets}
use Rattle.mesh_base.specs.declared.address.Address.{Address}
use Rattle.mesh_base.specs.declared.control.ControlMsg.{ControlMsg}
use Rattle.mesh_base.specs.declared.control.ControlMsg.TheVariants.{Acknowledgment, Poll, Update, Request, Offer, Clear, ClearConfirm, ListAdd, ListRemove, ListConfirm, Other}

-- addresses, one behind the other
abbrev pub address_octets : List Address → List ℕ
address_octets addresses = flat_map (λ (a : Address). two_octets a.0) addresses

-- The octets of a control message: its opcode, and its parameters (3.5.2.3.1, 3.6.5.1 to 3.6.5.9). The 7 bits before FSN and the 2 bits
-- before BlockAck are 0.
unfoldable pub control_text : ControlMsg → List ℕ
control_text (Acknowledgment a) =
    0 ∷ two_octets ((if a.obo then 2 ^ 15 else 0) + a.seq_zero * 2 ^ 2) ++ four_octets a.block_ack
control_text (Poll fsn) = 1 ∷ (if fsn then 1 else 0) ∷ []
control_text (Update u) = 2 ∷ u.flags ∷ four_octets u.iv ++ u.more_data ∷ []
control_text (Request r) =
    3 ∷ r.criteria ∷ r.receive_delay ∷ three_octets r.poll_timeout ++ two_octets r.previous.0
    ++ r.elements ∷ two_octets r.lpn_counter
control_text (Offer o) =
    4 ∷ o.receive_window ∷ o.queue_size ∷ o.subscription_list_size ∷ o.rssi ∷ two_octets o.friend_counter
control_text (Clear c) = 5 ∷ two_octets c.lpn.0 ++ two_octets c.lpn_counter
control_text (ClearConfirm c) = 6 ∷ two_octets c.lpn.0 ++ two_octets c.lpn_counter
control_text (ListAdd l) = 7 ∷ l.transaction ∷ address_octets l.addresses
control_text (ListRemove l) = 8 ∷ l.transaction ∷ address_octets l.addresses
control_text (ListConfirm transaction) = 9 ∷ transaction ∷ []
control_text Other = []

-- whether it is none of the messages that have a meaning
abbrev pub is_other : ControlMsg → Bool
is_other Other = true
is_other _ = false

-- a list message has 1 to 5 addresses (3.6.5.7, 3.6.5.8)
abbrev pub HasAddresses : List Address → Type 0
HasAddresses addresses = (1 ≤ length addresses) × (length addresses ≤ 5)

-- The message has a text: it isn't Other; SeqZero has 13 bits and PollTimeout 24; a list has 1 to 5 addresses.
abbrev pub FitsControl : ControlMsg → Type 0
FitsControl (Acknowledgment a) = a.seq_zero < 2 ^ 13
FitsControl (Request r) = r.poll_timeout < 2 ^ 24
FitsControl (ListAdd l) = HasAddresses l.addresses
FitsControl (ListRemove l) = HasAddresses l.addresses
FitsControl m = IsFalse (is_other m)

-- The other fields are within their widths, too. The Rust types say so of every value that code holds; here it is said of all fields that
-- there might be.
abbrev pub AreAddresses : List Address → Type 0
AreAddresses addresses = All (λ (a : Address). a.0 < 2 ^ 16) addresses

abbrev pub IsControlInWidths : ControlMsg → Type 0
IsControlInWidths (Acknowledgment a) = a.block_ack < 2 ^ 32
IsControlInWidths (Poll fsn) = Unit
IsControlInWidths (Update u) = (u.flags < 2 ^ 8) × (u.iv < 2 ^ 32) × (u.more_data < 2 ^ 8)
IsControlInWidths (Request r) =
    (r.criteria < 2 ^ 8) × (r.receive_delay < 2 ^ 8) × (r.previous.0 < 2 ^ 16) × (r.elements < 2 ^ 8)
    × (r.lpn_counter < 2 ^ 16)
IsControlInWidths (Offer o) =
    (o.receive_window < 2 ^ 8) × (o.queue_size < 2 ^ 8) × (o.subscription_list_size < 2 ^ 8) × (o.rssi < 2 ^ 8)
    × (o.friend_counter < 2 ^ 16)
IsControlInWidths (Clear c) = (c.lpn.0 < 2 ^ 16) × (c.lpn_counter < 2 ^ 16)
IsControlInWidths (ClearConfirm c) = (c.lpn.0 < 2 ^ 16) × (c.lpn_counter < 2 ^ 16)
IsControlInWidths (ListAdd l) = (l.transaction < 2 ^ 8) × AreAddresses l.addresses
IsControlInWidths (ListRemove l) = (l.transaction < 2 ^ 8) × AreAddresses l.addresses
IsControlInWidths (ListConfirm transaction) = transaction < 2 ^ 8
IsControlInWidths Other = Unit

-- Bits that have no meaning are read as zeros: the 2 bits before BlockAck (3.5.2.3.1), and the 7 bits before FSN (3.6.5.1).
abbrev pub without_reserved : List ℕ → List ℕ
without_reserved (first ∷ second ∷ block_ack) = first ∷ second / 2 ^ 2 * 2 ^ 2 ∷ block_ack
without_reserved params = params

abbrev pub params_as_read : ℕ → List ℕ → List ℕ
params_as_read opcode params =
    if opcode == 0 then without_reserved params else if opcode == 1 then map (λ octet. octet % 2) params else params

-- An opcode and parameters read as this control message.
pub record ReadsControl (opcode : ℕ) (params : List ℕ) (m : ControlMsg) : Type 0 where
  pub fits : FitsControl m
  pub in_widths : IsControlInWidths m
  pub text : control_text m ≡ opcode ∷ params_as_read opcode params

-- They read as no control message.
abbrev pub IsNoControl : ℕ → List ℕ → Type 0
IsNoControl opcode params = (m : ControlMsg) → ReadsControl opcode params m → ⊥
