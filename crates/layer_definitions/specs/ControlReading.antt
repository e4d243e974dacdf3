-- Control messages as their fields stand in the octets (Mesh Profile 1.0.1, sections 3.5.2.3.1 and 3.6.5.1 to 3.6.5.9): the one message that
-- an opcode and parameters read as. That it is the reading by texts is proved beside it.
use Rattle.std.specs.Prelude.{ℕ, ◌+◌, ◌*◌, ◌/◌, ◌%◌, ◌^◌, ◌==◌, ◌&&◌, ◌||◌, nat_le, Bool, true, false, if◌then◌else◌, List, [], ◌∷◌, length, drop, slice_index}
use Rattle.cipher_definitions.specs.Octets.{two_at, three_at, four_at}
use Rattle.mesh_base.specs.declared.address.Address.{Address}
use Rattle.mesh_base.specs.declared.control.ControlMsg.{ControlMsg}
use Rattle.mesh_base.specs.declared.control.ControlMsg.TheVariants.{Acknowledgment, Poll, Update, Request, Offer, Clear, ClearConfirm, ListAdd, ListRemove, ListConfirm, Other}
use Rattle.layer_definitions.specs.Control.{params_as_read}

abbrev pub address_at : List ℕ → ℕ → Address
address_at t i = record { 0 = two_at t i }

abbrev pub addresses_back : List ℕ → List Address
addresses_back [] = []
addresses_back (a ∷ []) = []
addresses_back (a ∷ b ∷ rest) = record { 0 = a * 256 + b } ∷ addresses_back rest

-- the message whose text this is
abbrev pub read_back : List ℕ → ControlMsg
read_back t =
    if slice_index t 0 == 0
    then Acknowledgment
    (record {
      obo = nat_le (2 ^ 15) (two_at t 1);
      seq_zero = two_at t 1 % 2 ^ 15 / 2 ^ 2;
      block_ack = four_at t 3;
    })
    else if slice_index t 0 == 1 then Poll (slice_index t 1 == 1)
    else if slice_index t 0 == 2
    then Update (record { flags = slice_index t 1; iv = four_at t 2; more_data = slice_index t 6 })
    else if slice_index t 0 == 3 then
    Request
    (record {
      criteria = slice_index t 1;
      receive_delay = slice_index t 2;
      poll_timeout = three_at t 3;
      previous = address_at t 6;
      elements = slice_index t 8;
      lpn_counter = two_at t 9;
    })
    else if slice_index t 0 == 4 then
    Offer
    (record {
      receive_window = slice_index t 1;
      queue_size = slice_index t 2;
      subscription_list_size = slice_index t 3;
      rssi = slice_index t 4;
      friend_counter = two_at t 5;
    })
    else if slice_index t 0 == 5 then Clear (record { lpn = address_at t 1; lpn_counter = two_at t 3 })
    else if slice_index t 0 == 6 then ClearConfirm (record { lpn = address_at t 1; lpn_counter = two_at t 3 })
    else if slice_index t 0 == 7
    then ListAdd (record { transaction = slice_index t 1; addresses = addresses_back (drop 2 t) })
    else if slice_index t 0 == 8
    then ListRemove (record { transaction = slice_index t 1; addresses = addresses_back (drop 2 t) })
    else ListConfirm (slice_index t 1)

-- whether an opcode has a message with so many
abbrev pub has_row : ℕ → ℕ → Bool
has_row opcode count =
    if opcode == 0 then count == 6
    else if opcode == 1 then count == 1
    else if opcode == 2 then count == 6
    else if opcode == 3 then count == 10
    else if opcode == 4 then count == 6
    else if opcode == 5 then count == 4
    else if opcode == 6 then count == 4
    else if opcode == 7 then nat_le 3 count && nat_le count 11 && count % 2 == 1
    else if opcode == 8 then nat_le 3 count && nat_le count 11 && count % 2 == 1
    else if opcode == 9 then count == 1
    else false

-- the message of an opcode and parameters, and Other where no row has them
abbrev pub control_of : ℕ → List ℕ → ControlMsg
control_of opcode params =
    if has_row opcode (length params) then read_back (opcode ∷ params_as_read opcode params) else Other
