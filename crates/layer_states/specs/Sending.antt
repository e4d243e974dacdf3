-- Own segmented messages (Mesh Profile 1.0.1, section 3.5.3.2). The state is the list of the messages that are held, in the order in which
-- they began. Times are ticks of 10 ms.
use Rattle.std.specs.Prelude.{ℕ, ◌+◌, ◌*◌, ◌/◌, ◌%◌, ◌^◌, ◌==◌, ◌||◌, ◌&&◌, not, nat_le, Bool, true, false, if◌then◌else◌, List, [], ◌∷◌, ◌++◌, length, map, filter, remove, slice_set, slice_get, fold, Option, Some, None}
use Rattle.std.specs.List.{flat_map, filter_map, position_or_len, range_with_len}
use Rattle.std.specs.Option.{option_map_or}
use Rattle.node_limits.specs.declared.TheConstants.{OWN_MESSAGES}
use Rattle.layer_definitions.specs.Lower.{last_segment}
use Rattle.layer_states.specs.Names.{is_unicast}
use Rattle.layer_states.specs.declared.sending.Acked.{Acked}
use Rattle.layer_states.specs.declared.sending.Acked.TheVariants.{Stranger, Part, Whole, Cancelled}
use Rattle.mesh_types.specs.declared.events.Outgoing.{Outgoing}
use Rattle.layer_states.specs.declared.sending.Sending.{Sending}
use Rattle.mesh_base.specs.declared.address.Address.{Address}
use Rattle.mesh_base.specs.declared.pair.Name.{Name}

-- SegO of every piece of a message
abbrev pub pieces_of : Outgoing → List ℕ
pieces_of m = range_with_len 0 (last_segment m.upper + 1)

-- the next round is due 200 + 50 x TTL milliseconds after the one before (the segment transmission timer, 3.5.3.2)
abbrev pub round_after : ℕ → Outgoing → ℕ
round_after now m = now + 20 + 5 * m.ttl

-- how many rounds there are in all: 4 to one element, 3 to several
abbrev pub rounds_of : Outgoing → ℕ
rounds_of m = if is_unicast m.dst then 4 else 3

-- A message when it begins: its first round is sent at once.
abbrev pub begun : ℕ → Outgoing → Sending
begun now m = record { message = m; left = pieces_of m; rounds = 1; due = round_after now m }

-- so many are held as have a place
abbrev pub is_full : List Sending → Bool
is_full rows = nat_le OWN_MESSAGES (length rows)

-- Acknowledgments (3.5.2.3.1, 3.5.3.3).

-- bit i of a BlockAck
abbrev pub has_bit : ℕ → ℕ → Bool
has_bit block i = block / 2 ^ i % 2 == 1

-- An acknowledgment belongs to a message with its SeqZero, where it comes from the message's DST, or from a Friend node on behalf of
-- another.
abbrev pub belongs_to : Address → Bool → ℕ → Sending → Bool
belongs_to from obo seq_zero s = s.message.name.pair.seq % 2 ^ 13 == seq_zero && (obo || s.message.dst.0 == from.0)

-- the place of the first message that it belongs to, or the number of all
abbrev pub place_of : Address → Bool → ℕ → List Sending → ℕ
place_of from obo seq_zero rows = position_or_len (belongs_to from obo seq_zero) rows

-- the pieces that it leaves
abbrev pub left_after : ℕ → Sending → List ℕ
left_after block s = filter (λ i. not (has_bit block i)) s.left

-- what it does to its message
abbrev pub ack_of : ℕ → Sending → Acked
ack_of block s = if block == 0 then Cancelled else if length (left_after block s) == 0 then Whole else Part

abbrev pub acked_at : List Sending → ℕ → ℕ → Acked
acked_at rows place block = option_map_or (ack_of block) (slice_get rows place) Stranger

abbrev pub acked : List Sending → Address → Bool → ℕ → ℕ → Acked
acked rows from obo seq_zero block = acked_at rows (place_of from obo seq_zero rows) block

abbrev pub ends : Acked → Bool
ends Stranger = false
ends Part = false
ends Whole = true
ends Cancelled = true

-- what it leaves of the message at a place
abbrev pub left_at : List Sending → ℕ → ℕ → Sending → List Sending
left_at rows place block s =
    if ends (ack_of block s) then remove rows place else slice_set rows place (record s { left = left_after block s })

abbrev pub rows_acked : List Sending → Address → Bool → ℕ → ℕ → List Sending
rows_acked rows from obo seq_zero block =
    let place = place_of from obo seq_zero rows in option_map_or (left_at rows place block) (slice_get rows place) rows

-- Rounds.

-- what a round sends: to one element the pieces that aren't acknowledged, to several all of them
abbrev pub round_of : Sending → List ℕ
round_of s = if is_unicast s.message.dst then s.left else pieces_of s.message

abbrev pub is_due : ℕ → Sending → Bool
is_due now s = nat_le s.due now

abbrev pub is_last : Sending → Bool
is_last s = nat_le (rounds_of s.message) s.rounds

-- the segments of a message that are due
abbrev pub segments_due : ℕ → Sending → List (Name × ℕ)
segments_due now s = if is_due now s && not (is_last s) then map (λ i. (s.message.name, i)) (round_of s) else []

abbrev pub all_due : ℕ → List Sending → List (Name × ℕ)
all_due now rows = flat_map (segments_due now) rows

-- a message at this time: one that has had its rounds goes when the next would be due
abbrev pub stepped : ℕ → Sending → Option Sending
stepped now s =
    if not (is_due now s) then Some s
    else if is_last s then None
    else Some (record s { rounds = s.rounds + 1; due = round_after now s.message })

-- The calls on the table, and what each leaves of the state: a message that begins, an acknowledgment heard, time that passed, and an IV
-- Index Recovery, after which nothing is held.
pub data SendCall : Type 0 where
  begin : ℕ → Outgoing → SendCall
  ack : Address → Bool → ℕ → ℕ → SendCall
  due : ℕ → SendCall
  clear : SendCall

abbrev pub after : List Sending → SendCall → List Sending
after rows (begin now m) = if is_full rows then rows else rows ++ begun now m ∷ []
after rows (ack from obo seq_zero block) = rows_acked rows from obo seq_zero block
after rows (due now) = filter_map (stepped now) rows
after rows clear = []

-- the state after a list of calls
abbrev pub sent : List SendCall → List Sending
sent calls = fold after [] calls
