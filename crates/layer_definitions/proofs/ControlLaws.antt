-- A control message is read back from its text, so octets read as one message at most.
use Rattle.std.proofs.Common.{◌≡◌, ℕ, ◌+◌, ◌*◌, ◌/◌, ◌%◌, ◌^◌, ◌<◌, ◌≤◌, nat_le, Bool, true, false, List, [], ◌∷◌, length, drop, map, refl, ap, ◌∙◌, sym, arith, zero-add}
use Rattle.std.specs.Prelude.{◌==◌, ◌&&◌, if◌then◌else◌, slice_index}
use Rattle.std.proofs.lemmas.Bool.Decides.{nat_tests}
use Rattle.std.proofs.lemmas.List.{length-map}
use Rattle.std.proofs.lemmas.List.Elements.{All-head, All-tail}
use Rattle.cipher_definitions.specs.Octets.{four_at, three_at, two_at}
use Rattle.cipher_definitions.proofs.Octets.{bit_back, four_back, three_back, two_back}
use Rattle.mesh_base.specs.declared.address.Address.{Address}
use Rattle.mesh_base.specs.declared.control.ControlMsg.{ControlMsg}
use Rattle.mesh_base.specs.declared.control.ControlMsg.TheVariants.{Acknowledgment, Poll, Update, Request, Offer, Clear, ClearConfirm, ListAdd, ListRemove, ListConfirm, Other}
use Rattle.layer_definitions.specs.Control.{AreAddresses, FitsControl, IsControlInWidths, ReadsControl, address_octets, control_text, is_other, params_as_read, without_reserved}
use Rattle.layer_definitions.specs.ControlReading.{addresses_back, control_of, has_row, read_back}
use Rattle.layer_definitions.specs.Lower.{acknowledgment, lower_text}

obo_back : (obo : Bool) (seq_zero : ℕ) → seq_zero < 2 ^ 13 → nat_le (2 ^ 15) ((if obo then 2 ^ 15 else 0) + seq_zero * 2 ^ 2) ≡ obo
obo_back true seq_zero h = grind (arith, nat_tests)
obo_back false seq_zero h = grind (arith, nat_tests)

seq_zero_back : (obo : Bool) (seq_zero : ℕ) → seq_zero < 2 ^ 13 → ((if obo then 2 ^ 15 else 0) + seq_zero * 2 ^ 2) % 2 ^ 15 / 2 ^ 2 ≡ seq_zero
seq_zero_back true seq_zero h = omega arith
seq_zero_back false seq_zero h = omega arith

first_small : (obo : Bool) (seq_zero : ℕ) → seq_zero < 2 ^ 13 → (if obo then 2 ^ 15 else 0) + seq_zero * 2 ^ 2 < 2 ^ 16
first_small true seq_zero h = omega arith
first_small false seq_zero h = omega arith

addresses-back : (addresses : List Address) → AreAddresses addresses → addresses_back (address_octets addresses) ≡ addresses
addresses-back [] h = refl
addresses-back (a ∷ rest) h =
    let small : a.0 < 2 ^ 16 = All-head (λ (b : Address). b.0 < 2 ^ 16) a rest h in
    rw (two_back a.0 small, addresses-back rest (All-tail (λ (b : Address). b.0 < 2 ^ 16) a rest h)) refl

-- what the text of a message is read back as is that message
pub text_back : (m : ControlMsg) → FitsControl m → IsControlInWidths m → read_back (control_text m) ≡ m
unfolding control_text
text_back (Acknowledgment a) h w =
    rw (two_back ((if a.obo then 2 ^ 15 else 0) + a.seq_zero * 2 ^ 2) (first_small a.obo a.seq_zero h), four_back a.block_ack w, obo_back a.obo a.seq_zero h, seq_zero_back a.obo a.seq_zero h) refl
text_back (Poll fsn) h w = rw (bit_back fsn) refl
text_back (Update u) h (_, i, _) = rw (four_back u.iv i) refl
text_back (Request r) h (_, _, p, _, l) = rw (three_back r.poll_timeout h, two_back r.previous.0 p, two_back r.lpn_counter l) refl
text_back (Offer o) h (_, _, _, _, c) = rw (two_back o.friend_counter c) refl
text_back (Clear c) h (l, n) = rw (two_back c.lpn.0 l, two_back c.lpn_counter n) refl
text_back (ClearConfirm c) h (l, n) = rw (two_back c.lpn.0 l, two_back c.lpn_counter n) refl
text_back (ListAdd l) h (_, a) = rw (addresses-back l.addresses a) refl
text_back (ListRemove l) h (_, a) = rw (addresses-back l.addresses a) refl
text_back (ListConfirm transaction) h w = refl
text_back Other h w = absurd (cc)

-- an opcode and parameters read as one message
pub reading-one : (opcode : ℕ) (params : List ℕ) (m other : ControlMsg) → ReadsControl opcode params m → ReadsControl opcode params other → m ≡ other
reading-one opcode params m other one two =
    sym (text_back m one.fits one.in_widths) ∙ ap read_back (one.text ∙ sym two.text) ∙ text_back other two.fits two.in_widths

-- the two bits before BlockAck are 0 in a text
low_bits_zero : (obo : Bool) (seq_zero : ℕ) → ((if obo then 2 ^ 15 else 0) + seq_zero * 2 ^ 2) % 256 / 2 ^ 2 * 2 ^ 2 ≡ ((if obo then 2 ^ 15 else 0) + seq_zero * 2 ^ 2) % 256
low_bits_zero true seq_zero = omega arith
low_bits_zero false seq_zero = omega arith

-- bits without meaning are 0 in a text, so it is read as it stands
params_of_text : (m : ControlMsg) → params_as_read (slice_index (control_text m) 0) (drop 1 (control_text m)) ≡ drop 1 (control_text m)
unfolding control_text
params_of_text (Acknowledgment a) = rw (low_bits_zero a.obo a.seq_zero) refl
params_of_text (Poll true) = refl
params_of_text (Poll false) = refl
params_of_text (Update u) = refl
params_of_text (Request r) = refl
params_of_text (Offer o) = refl
params_of_text (Clear c) = refl
params_of_text (ClearConfirm c) = refl
params_of_text (ListAdd l) = refl
params_of_text (ListRemove l) = refl
params_of_text (ListConfirm transaction) = refl
params_of_text Other = refl

-- the text of a message reads as that message
pub reading-own : (opcode : ℕ) (params : List ℕ) (m : ControlMsg) → FitsControl m → IsControlInWidths m → control_text m ≡ opcode ∷ params → ReadsControl opcode params m
reading-own opcode params m fits in_widths e =
    let same : params_as_read opcode params ≡ params =
    sym (ap (λ (t : List ℕ). params_as_read (slice_index t 0) (drop 1 t)) e) ∙ params_of_text m ∙ ap (λ (t : List ℕ). drop 1 t) e in
    record { fits = fits; in_widths = in_widths; text = e ∙ ap (λ (l : List ℕ). opcode ∷ l) (sym same) }

-- a Segment Acknowledgment with OBO 0 is the one of the lower transport layer
pub acknowledgment-same : (seq_zero block_ack : ℕ)
    → control_text (Acknowledgment (record { obo = false; seq_zero = seq_zero; block_ack = block_ack })) ≡ lower_text (acknowledgment seq_zero block_ack)
unfolding control_text lower_text
acknowledgment-same seq_zero block_ack = rw (zero-add (seq_zero * 4)) refl

-- How many octets of parameters an opcode has.

pub length-address_octets : (addresses : List Address) → length (address_octets addresses) ≡ 2 * length addresses
length-address_octets [] = refl
length-address_octets (a ∷ rest) = omega (arith, length-address_octets rest)

length-without_reserved : (params : List ℕ) → length (without_reserved params) ≡ length params
length-without_reserved [] = refl
length-without_reserved (a ∷ []) = refl
length-without_reserved (a ∷ b ∷ rest) = refl

pub length-params_as_read : (opcode : ℕ) (params : List ℕ) → length (params_as_read opcode params) ≡ length params
length-params_as_read opcode params =
    elim (opcode == 0) as (λ b. length (if b then without_reserved params else if opcode == 1 then map (λ octet. octet % 2) params else params) ≡ length params) [
      | true ↦ length-without_reserved params
      | false ↦ elim (opcode == 1) as (λ b. length (if b then map (λ octet. octet % 2) params else params) ≡ length params)
          [ true ↦ length-map params (λ octet. octet % 2) | false ↦ refl ]
    ]

list_row : (count : ℕ) → 1 ≤ count → count ≤ 5 → (nat_le 3 (1 + 2 * count) && nat_le (1 + 2 * count) 11 && (1 + 2 * count) % 2 == 1) ≡ true
list_row count h k = grind (arith, nat_tests)

text_row : (m : ControlMsg) → FitsControl m → has_row (slice_index (control_text m) 0) (length (drop 1 (control_text m))) ≡ true
unfolding control_text
text_row (Acknowledgment a) h = refl
text_row (Poll fsn) h = refl
text_row (Update u) h = refl
text_row (Request r) h = refl
text_row (Offer o) h = refl
text_row (Clear c) h = refl
text_row (ClearConfirm c) h = refl
text_row (ListAdd l) h =
    let count : length (drop 1 (control_text (ListAdd l))) ≡ 1 + 2 * length l.addresses = omega (arith, length-address_octets l.addresses) in
    rw count (list_row (length l.addresses) h.0 h.1)
text_row (ListRemove l) h =
    let count : length (drop 1 (control_text (ListRemove l))) ≡ 1 + 2 * length l.addresses = omega (arith, length-address_octets l.addresses) in
    rw count (list_row (length l.addresses) h.0 h.1)
text_row (ListConfirm transaction) h = refl
text_row Other h = absurd (cc)

-- octets that read as a message are as many as its opcode has
pub reading-row : (opcode : ℕ) (params : List ℕ) (m : ControlMsg) → ReadsControl opcode params m → has_row opcode (length params) ≡ true
reading-row opcode params m r =
    sym (ap (λ n. has_row opcode n) (length-params_as_read opcode params))
    ∙ sym (ap (λ (t : List ℕ). has_row (slice_index t 0) (length (drop 1 t))) r.text)
    ∙ text_row m r.fits

-- a message that octets read as isn't Other
pub fits-not-other : (m : ControlMsg) → FitsControl m → is_other m ≡ false
fits-not-other (Acknowledgment a) h = refl
fits-not-other (Poll fsn) h = refl
fits-not-other (Update u) h = refl
fits-not-other (Request r) h = refl
fits-not-other (Offer o) h = refl
fits-not-other (Clear c) h = refl
fits-not-other (ClearConfirm c) h = refl
fits-not-other (ListAdd l) h = refl
fits-not-other (ListRemove l) h = refl
fits-not-other (ListConfirm transaction) h = refl
fits-not-other Other h = absurd (cc)

-- the message that the octets read as is the one that stands in them
pub control_of_reading : (opcode : ℕ) (params : List ℕ) (m : ControlMsg) → ReadsControl opcode params m → control_of opcode params ≡ m
control_of_reading opcode params m r =
    rw (reading-row opcode params m r) (ap read_back (sym r.text) ∙ text_back m r.fits r.in_widths)
