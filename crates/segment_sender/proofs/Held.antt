-- The messages that are held stay as they are known to be, whatever call is made.
use Rattle.std.proofs.Common.{◌≡◌, ℕ, suc, ◌+◌, ◌≤◌, ◌<◌, Bool, true, false, cond, not, List, [], ◌∷◌, ◌++◌, take, drop, filter, remove, sym, subst, arith, Some, None}
use Rattle.std.specs.Prelude.{All, slice_get, slice_set}
use Rattle.std.specs.List.{AllByRecursion as Every, filter_map, range_with_len}
use Rattle.std.proofs.lemmas.List.Elements.{All-append, All-cons, All-drop, All-filter, All-from_get_or, All-from_recursion, All-nil, All-set, All-take, recursion_from_All}
use Rattle.std.proofs.lemmas.List.FromFn.{get_or-range_with_len, length-range_with_len}
use Rattle.layer_definitions.specs.Lower.{last_segment}
use Rattle.layer_states.specs.Sending.{ack, ack_of, after, begun, due, ends, has_bit, is_due, is_last, left_after, place_of, stepped}
use Rattle.mesh_types.specs.declared.events.Outgoing.{Outgoing}
use Rattle.layer_states.specs.declared.sending.Sending.{Sending}
use Rattle.mesh_base.proofs.Every.{Inside, every_consed, every_slot, option_cases}
use Rattle.mesh_base.specs.declared.address.Address.{Address}
use Rattle.segment_sender.specs.Held.{IsHeldWell, IsOutgoing, has_round}

pub numbers_up_to : (last : ℕ) → All (λ i. i ≤ last) (range_with_len 0 (last + 1))
numbers_up_to last =
    All-from_get_or (λ i. i ≤ last) (range_with_len 0 (last + 1)) 0 (λ i h.
    let within : i < last + 1 = omega (arith, h, length-range_with_len 0 (last + 1)) in
    omega (arith, get_or-range_with_len 0 (last + 1) i 0 within, within))

begun_well : (now : ℕ) (m : Outgoing) → IsOutgoing m → IsHeldWell (begun now m)
begun_well now m h = record { message = h; left = numbers_up_to (last_segment m.upper) }

by_test : {X : Type 0} (P : X → Type 0) (b : Bool) (x y : X) → P x → P y → P (cond b x y)
by_test P true x y h k = h
by_test P false x y h k = k

pub begun_more : (rows more : List Sending) (now : ℕ) (m : Outgoing) (s : Sending) → IsOutgoing m → s ≡ begun now m → more ≡ rows ++ s ∷ [] → All IsHeldWell rows → All IsHeldWell more
begun_more rows more now m s k is e h =
    subst (All IsHeldWell) (sym e)
    (All-append IsHeldWell rows (s ∷ []) h (All-cons IsHeldWell s [] (subst IsHeldWell (sym is) (begun_well now m k)) (All-nil IsHeldWell)))

-- Acknowledgments.

left_well : (block : ℕ) (s : Sending) → IsHeldWell s → IsHeldWell (record s { left = left_after block s })
left_well block s h = record { message = h.message; left = All-filter (λ i. not (has_bit block i)) (λ i. i ≤ last_segment s.message.upper) s.left h.left }

removed_well : (rows : List Sending) (place : ℕ) → All IsHeldWell rows → All IsHeldWell (remove rows place)
removed_well rows place h = All-append IsHeldWell (take place rows) (drop (suc place) rows) (All-take IsHeldWell place rows h) (All-drop IsHeldWell (suc place) rows h)

at_well : (rows : List Sending) (place block : ℕ) (s : Sending) → IsHeldWell s → All IsHeldWell rows
    → All IsHeldWell (cond (ends (ack_of block s)) (remove rows place) (slice_set rows place (record s { left = left_after block s })))
at_well rows place block s k h =
    by_test (All IsHeldWell) (ends (ack_of block s)) (remove rows place) (slice_set rows place (record s { left = left_after block s })) (removed_well rows place h)
    (All-set IsHeldWell rows place (record s { left = left_after block s }) (left_well block s k) h)

pub ack_well : (rows : List Sending) (from : Address) (obo : Bool) (seq_zero block : ℕ) → All IsHeldWell rows → All IsHeldWell (after rows (ack from obo seq_zero block))
ack_well rows from obo seq_zero block h =
    let place : ℕ = place_of from obo seq_zero rows in
    option_cases _ (slice_get rows place) (λ e. rw e h)
    (λ s e. let one : IsHeldWell s = subst (Inside IsHeldWell) e (every_slot IsHeldWell rows place (recursion_from_All IsHeldWell rows h)) in
    rw e (at_well rows place block s one h))

-- Rounds.

stepped_well : (now : ℕ) (s : Sending) → IsHeldWell s → Inside IsHeldWell (stepped now s)
stepped_well now s h =
    by_test (Inside IsHeldWell) (not (is_due now s)) (Some s) _ h
    (by_test (Inside IsHeldWell) (is_last s) None _ tt (record { message = h.message; left = h.left }))

every_stepped : (now : ℕ) (rows : List Sending) → Every IsHeldWell rows → Every IsHeldWell (filter_map (stepped now) rows)
every_stepped now [] h = tt
every_stepped now (s ∷ rows) h = every_consed IsHeldWell (stepped now s) (filter_map (stepped now) rows) (stepped_well now s h.0) (every_stepped now rows h.1)

pub due_well : (rows : List Sending) (now : ℕ) → All IsHeldWell rows → All IsHeldWell (after rows (due now))
due_well rows now h = All-from_recursion IsHeldWell (filter_map (stepped now) rows) (every_stepped now rows (recursion_from_All IsHeldWell rows h))

pub rounds_well : (rows : List Sending) (now : ℕ) → All IsHeldWell rows → All IsHeldWell (filter (has_round now) rows)
rounds_well rows now h = All-filter (has_round now) IsHeldWell rows h
