-- What is due of messages that time leaves as they are: nothing.
use Rattle.std.proofs.Common.{◌≡◌, ℕ, ◌-◌, Bool, true, false, not, filter, List, [], ◌∷◌, refl, sym}
use Rattle.std.proofs.lemmas.Bool.{or_parts}
use Rattle.std.specs.Prelude.{nat_lt}
use Rattle.std.specs.List.{flat_map, list_any}
use Rattle.layer_states.specs.Reassembly.{acks_due, after, tick}
use Rattle.layer_states.specs.Sending as sending
use Rattle.layer_states.specs.declared.reassembly.Assembly.{Assembly}
use Rattle.layer_states.specs.declared.sending.Sending.{Sending}
use Rattle.node_layers.specs.Sending.{round_jobs}
use Rattle.segment_reassembly.proofs.Still.{none_ends}
use Rattle.segment_reassembly.specs.Ends.{is_ending, is_timer_over}
use Rattle.segment_sender.proofs.Still.{none_due}
use Rattle.segment_sender.specs.Held.{has_round}
use Rattle.store_definitions.specs.Config.{Config}

negated : (b : Bool) → not b ≡ false → b ≡ true
negated true h = refl
negated false h = sym h

-- no acknowledgment
no_ack : (now : ℕ) (rows : List Assembly) → list_any (is_ending now) rows ≡ false → acks_due now rows ≡ []
no_ack now [] h = refl
no_ack now (a ∷ rows) h =
    let parts = or_parts (is_ending now a) (list_any (is_ending now) rows) h in
    let timers = or_parts (not (nat_lt (now - a.renewed) 1000)) (is_timer_over now a.timer) parts.0 in
    rw (negated (nat_lt (now - a.renewed) 1000) timers.0, timers.1) (no_ack now rows parts.1)

pub still_acks : (now : ℕ) (rows : List Assembly) → after rows (tick now) ≡ rows → acks_due now rows ≡ []
still_acks now rows h = no_ack now rows (none_ends now rows h)

-- no round
no_round : (c : Config) (now : ℕ) (rows : List Sending) → list_any (sending.is_due now) rows ≡ false → flat_map (round_jobs c now) rows ≡ []
no_round c now [] h = refl
no_round c now (s ∷ rows) h =
    let parts = or_parts (sending.is_due now s) (list_any (sending.is_due now) rows) h in
    rw parts.0 (no_round c now rows parts.1)

pub still_rounds : (c : Config) (now : ℕ) (rows : List Sending) → sending.after rows (sending.due now) ≡ rows → flat_map (round_jobs c now) rows ≡ []
still_rounds c now rows h = no_round c now rows (none_due now rows h)

-- and no message that sends one
no_sender : (now : ℕ) (rows : List Sending) → list_any (sending.is_due now) rows ≡ false → filter (has_round now) rows ≡ []
no_sender now [] h = refl
no_sender now (s ∷ rows) h =
    let parts = or_parts (sending.is_due now s) (list_any (sending.is_due now) rows) h in
    rw parts.0 (no_sender now rows parts.1)

pub still_senders : (now : ℕ) (rows : List Sending) → sending.after rows (sending.due now) ≡ rows → filter (has_round now) rows ≡ []
still_senders now rows h = no_sender now rows (none_due now rows h)
