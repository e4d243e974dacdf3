-- The record that shows that the table of the IV Index is needed: where beacons may take any step, the known IV Index
-- falls from one life to the next, and a message of an IV Index that was expired is accepted again.
use Rattle.std.proofs.Common.{◌≡◌, ℕ, zero, suc, ◌+◌, lit<, lit≤, inr, Bool, true, false, cond, eqb, List, [], ◌∷◌, ◌++◌, refl, sym, arith, append-nil, Some, None}
use Rattle.std.specs.List.{AllByRecursion}
use Rattle.std.proofs.lemmas.Bool.{true≢false}
use Rattle.layer_definitions.specs.Network.{net_text}
use Rattle.mesh_base.specs.IvState.{transmit_of}
use Rattle.mesh_base.specs.declared.iv_state.IvState.{IvState}
use Rattle.mesh_types.specs.declared.answers.Answer.TheVariants as A
use Rattle.mesh_types.specs.declared.events.Event.{Event}
use Rattle.mesh_types.specs.declared.events.Event.TheVariants as E
use Rattle.mesh_types.specs.declared.history.Entry.{Entry}
use Rattle.record_types.specs.declared.records.StoreRecord.{StoreRecord}
use Rattle.record_types.specs.declared.records.StoreRecord.TheVariants as R
use Rattle.mesh_types.specs.declared.report.End.TheVariants as F
use Rattle.mesh_types.specs.declared.report.Opened.TheVariants as W
use Rattle.event_definitions.specs.Answers.{answer_of}
use Rattle.store_definitions.specs.Config.{changed, config_of}
use Rattle.event_definitions.specs.Handling.{past_of}
use Rattle.event_definitions.specs.History.{Told}
use Rattle.event_definitions.specs.Jobs.{jobs_of}
use Rattle.run_safety.specs.Rules.{LeavesBy, LifeBy, Rules, all_rules}
use Rattle.run_definitions.specs.Order.{Does, IsOrdered, Part, ends, handles, phase, placed_from, stops, whole}
use Rattle.store_definitions.specs.Ranges.{IsInRange}
use Rattle.report_definitions.specs.Record.{Life, Run, Shown, list_at, shown, shown_by}
use Rattle.event_definitions.specs.Role.{node_role}
use Rattle.run_definitions.specs.RunOf.{IsNumbered, IsSpentRight, Opens, Script, draws, no_record, opens, past_at_end, words_told}
use Rattle.event_definitions.specs.Stores.{stores}
use Rattle.event_definitions.specs.Layers.{quiet_layers}
use Rattle.needed_rules.specs.WrittenRun.{material, net_key, node, opened_state, pair}
use Rattle.needed_rules.proofs.WrittenRun.{all_of, dev_key_is, net_key_is, others_none, others_placed, quiet_safe}
use Rattle.layer_definitions.specs.Beacon.{BeaconSource, beacon_text}
use Rattle.mesh_base.specs.declared.beacon.Beacon.{Beacon}
use Rattle.mesh_base.specs.declared.iv_state.IvStep.TheVariants as I
use Rattle.mesh_types.specs.declared.answers.KeyStep.TheVariants as S
use Rattle.store_definitions.specs.Entries.{entry_of}
use Rattle.event_definitions.specs.History.{OfBeacon}
use Rattle.needed_rules.specs.Needed.{AreHandledSo, HandlesButStep, Repeats}
use Rattle.event_definitions.specs.Readings.{IsBeacon, IsReading, sees_beacon, sees_pdu}
use Rattle.needed_rules.specs.WrittenRun.{key_heard}
use Rattle.needed_rules.proofs.NeededDraws.{first_list, first_opens, mark}
use Rattle.needed_rules.proofs.WrittenRun.{ivi, material_nid}
use Rattle.store_definitions.specs.Entries.{greatest_with, unexpired}
use Rattle.needed_rules.proofs.NeededNames.{control_entry, control_event, control_fields, control_insight, control_lower, control_name, has_pdu, in_widths, no_sends, nothing_drawn, twice}

-- The beacons: one tells the IV Index 6 in progress, the other 6.

abbrev beacon_event : ℕ → Event
beacon_event flags = E.Bcn (beacon_text net_key flags 6)

abbrev source : BeaconSource
source = record { index = 0; fresh = false; key = net_key }

abbrev told_beacon : Bool → Beacon
told_beacon update = record { index = 0; fresh = false; refresh = false; update = update; iv = 6 }

abbrev moved_state : IvState
moved_state = record { current = 6; progress = true; hours = 0; since = 192 }

abbrev begin_entry : ℕ → Entry
begin_entry number = record { bearer = 0; number = number; event = beacon_event 2; fills = 0; answer = A.Beacon 0 S.Same (I.Begin moved_state); jobs = [] }

abbrev fall_entry : ℕ → Entry
fall_entry number = record { bearer = 0; number = number; event = beacon_event 0; fills = 0; answer = A.Beacon 0 S.Same (I.Finish opened_state); jobs = [] }

abbrev any_step : Rules
any_step = record all_rules { are_handled = AreHandledSo HandlesButStep }

-- The first life: the message under the IV Index 4, and a step to 6 in progress. What it leaves has no entry of the
-- message, which is expired.

abbrev replay : StoreRecord
replay = R.Replay (control_name 4) None

abbrev begun : StoreRecord
begun = R.Numbers 6 true mark 0 192

abbrev after_message : List StoreRecord
after_message = first_list ++ replay ∷ []

abbrev first_left : List StoreRecord
first_left = first_list ++ begun ∷ []

abbrev first_life : Life
first_life = record { opened = W.On opened_state (mark + 0); entries = control_entry 1 4 ∷ begin_entry 2 ∷ []; refills = 0; sends = [] ∷ []; end = F.Ended }

abbrev first_events : List (List Event)
first_events = (control_event 4 ∷ beacon_event 2 ∷ []) ∷ []

abbrev message_told : Told
message_told = record { entry = control_entry 1 4; insight = control_insight 4; records = first_list }

abbrev begin_told : Told
begin_told = record { entry = begin_entry 2; insight = OfBeacon (Some (told_beacon true)); records = after_message }

message_reads : IsReading quiet_layers (past_of [] message_told) (net_text material (control_fields 4)) (Some (record { fields = control_fields 4; by = key_heard }))
unfolding changed
message_reads = (
  0,
  record {
    key = refl;
    reads = record { has_pdu = has_pdu 4; in_widths = in_widths 4 (lit< tt); iv = (inr refl, ivi material (control_fields 4) material_nid); text = refl };
    first = λ k h g lt is reads. absurd (omega arith);
  },
)

message_handled : HandlesButStep (node_role quiet_layers) (past_of [] message_told) message_told
unfolding changed answer_of stores jobs_of
message_handled = record { sees = sees_pdu refl message_reads control_lower refl; answer = refl; jobs = refl }

begin_reads : IsBeacon (past_of (message_told ∷ []) begin_told) (beacon_text net_key 2 6) (Some (told_beacon true))
unfolding changed
begin_reads = record {
  place = 0;
  by = source;
  by_is = refl;
  flags = 2;
  reads = record { flags_width = lit< tt; iv_width = lit< tt; text = refl };
  beacon = refl;
  first = λ k earlier f iv lt is reads. absurd (omega arith);
}

begin_handled : HandlesButStep (node_role quiet_layers) (past_of (message_told ∷ []) begin_told) begin_told
unfolding changed answer_of stores jobs_of
begin_handled = record { sees = sees_beacon refl begin_reads; answer = (refl, refl); jobs = refl }

first_handled : AreHandledSo HandlesButStep (node_role quiet_layers) first_list [] (message_told ∷ begin_told ∷ [])
unfolding changed stores
first_handled = (refl, message_handled, (refl, begin_handled, tt))

abbrev first_entries : List Entry
first_entries = control_entry 1 4 ∷ begin_entry 2 ∷ []

abbrev first_part : Part
first_part = record { entries = placed_from 0 first_entries; sends = [] ∷ [] }

first_does : (k : ℕ) → Does first_events first_part k []
first_does zero = handles (record { at = 0; entry = control_entry 1 4 }) refl (handles (record { at = 1; entry = begin_entry 2 }) refl stops)
first_does (suc k) = rw (others_placed k 0 first_entries (refl, (refl, tt))) stops

first_ordered : IsOrdered (phase first_events ∷ []) first_life
first_ordered = record { parts = first_part ∷ []; entries = refl; sends = λ k. sym (append-nil (list_at ([] ∷ []) k)); phases = whole first_does ends }

first_numbered : (k : ℕ) → IsNumbered first_life k
first_numbered zero = refl
first_numbered (suc k) = rw (others_none k first_entries (refl, (refl, tt))) refl

abbrev first_all : List StoreRecord
first_all = after_message ++ begun ∷ []

first_ranges : AllByRecursion IsInRange first_all
unfolding transmit_of
first_ranges = (
  (lit≤ tt, lit≤ tt, lit≤ tt, lit≤ tt, dev_key_is),
  (
    (lit< tt, (λ e. lit< tt), record { seq = 0; word = refl; most = lit≤ tt; block = refl }, lit< tt, lit< tt),
    (
      (lit≤ tt, lit≤ tt, lit≤ tt, net_key_is),
      (
        (record { src = lit< tt; iv = lit< tt; seq = lit< tt }, tt),
        ((lit< tt, (λ e. lit< tt), record { seq = 0; word = refl; most = lit≤ tt; block = refl }, lit< tt, lit< tt), tt),
      ),
    ),
  ),
)

-- the message's entry is expired under 6
expired_entry : (b : Bool) → None ≡ unexpired 6 (cond b (greatest_with None (control_name 4).pair) None)
expired_entry true = refl
expired_entry false = refl

same_entries : (src : ℕ) → entry_of first_left src ≡ entry_of first_all src
unfolding changed
same_entries src = expired_entry (eqb 0x0101 src)

first_leaves : LeavesBy any_step (node_role quiet_layers) (phase first_events ∷ []) first_life (past_at_end (node_role quiet_layers) first_list first_life (message_told ∷ begin_told ∷ [])) first_left
unfolding changed stores transmit_of
first_leaves = record { more = []; outlasts = no_record; ranges = all_of IsInRange first_all first_ranges; alike = record { config = refl; entries = same_entries } }

first_shows : (k : ℕ) → (draws (shown_by first_life k) ≡ []) × (words_told (shown_by first_life k) ≡ [])
first_shows k = rw (no_sends k) (refl, refl)

first_by : LifeBy any_step (node_role quiet_layers) (phase first_events ∷ []) first_list first_life first_left
first_by = record {
  opening = first_opens (pair 0) 0x7f;
  idle = λ e. absurd (true≢false e);
  told = message_told ∷ begin_told ∷ [];
  entries = refl;
  handled = first_handled;
  numbers = first_numbered;
  order = λ e. first_ordered;
  leaves = first_leaves;
  drawn = nothing_drawn first_list first_left first_life refl first_shows;
  spent = all_of (λ (s : Shown). IsSpentRight first_list first_left first_life s.outcome) (shown first_life) tt;
}

-- The second life: a step back to 5, and the message again.

abbrev fallen : StoreRecord
fallen = R.Numbers 5 false mark 0 192

abbrev after_fall : List StoreRecord
after_fall = first_left ++ fallen ∷ []

abbrev second_left : List StoreRecord
second_left = after_fall ++ replay ∷ []

abbrev second_entries : List Entry
second_entries = fall_entry 1 ∷ control_entry 2 4 ∷ []

abbrev second_life : Life
second_life = record { opened = W.On moved_state mark; entries = second_entries; refills = 0; sends = [] ∷ []; end = F.Ended }

abbrev second_events : List (List Event)
second_events = (beacon_event 0 ∷ control_event 4 ∷ []) ∷ []

abbrev fall_told : Told
fall_told = record { entry = fall_entry 1; insight = OfBeacon (Some (told_beacon false)); records = first_left }

abbrev again_told : Told
again_told = record { entry = control_entry 2 4; insight = control_insight 4; records = after_fall }

fall_reads : IsBeacon (past_of [] fall_told) (beacon_text net_key 0 6) (Some (told_beacon false))
unfolding changed
fall_reads = record {
  place = 0;
  by = source;
  by_is = refl;
  flags = 0;
  reads = record { flags_width = lit< tt; iv_width = lit< tt; text = refl };
  beacon = refl;
  first = λ k earlier f iv lt is reads. absurd (omega arith);
}

fall_handled : HandlesButStep (node_role quiet_layers) (past_of [] fall_told) fall_told
unfolding changed answer_of stores jobs_of
fall_handled = record { sees = sees_beacon refl fall_reads; answer = (refl, refl); jobs = refl }

again_reads : IsReading quiet_layers (past_of (fall_told ∷ []) again_told) (net_text material (control_fields 4)) (Some (record { fields = control_fields 4; by = key_heard }))
unfolding changed
again_reads = (
  0,
  record {
    key = refl;
    reads = record { has_pdu = has_pdu 4; in_widths = in_widths 4 (lit< tt); iv = (inr refl, ivi material (control_fields 4) material_nid); text = refl };
    first = λ k h g lt is reads. absurd (omega arith);
  },
)

again_handled : HandlesButStep (node_role quiet_layers) (past_of (fall_told ∷ []) again_told) again_told
unfolding changed answer_of stores jobs_of
again_handled = record { sees = sees_pdu refl again_reads control_lower refl; answer = refl; jobs = refl }

second_handled : AreHandledSo HandlesButStep (node_role quiet_layers) first_left [] (fall_told ∷ again_told ∷ [])
unfolding changed stores transmit_of
second_handled = (refl, fall_handled, (refl, again_handled, tt))

abbrev second_part : Part
second_part = record { entries = placed_from 0 second_entries; sends = [] ∷ [] }

second_does : (k : ℕ) → Does second_events second_part k []
second_does zero = handles (record { at = 0; entry = fall_entry 1 }) refl (handles (record { at = 1; entry = control_entry 2 4 }) refl stops)
second_does (suc k) = rw (others_placed k 0 second_entries (refl, (refl, tt))) stops

second_ordered : IsOrdered (phase second_events ∷ []) second_life
second_ordered = record { parts = second_part ∷ []; entries = refl; sends = λ k. sym (append-nil (list_at ([] ∷ []) k)); phases = whole second_does ends }

second_numbered : (k : ℕ) → IsNumbered second_life k
second_numbered zero = refl
second_numbered (suc k) = rw (others_none k second_entries (refl, (refl, tt))) refl

second_ranges : AllByRecursion IsInRange second_left
unfolding transmit_of
second_ranges = (
  (lit≤ tt, lit≤ tt, lit≤ tt, lit≤ tt, dev_key_is),
  (
    (lit< tt, (λ e. lit< tt), record { seq = 0; word = refl; most = lit≤ tt; block = refl }, lit< tt, lit< tt),
    (
      (lit≤ tt, lit≤ tt, lit≤ tt, net_key_is),
      (
        (lit< tt, (λ e. lit< tt), record { seq = 0; word = refl; most = lit≤ tt; block = refl }, lit< tt, lit< tt),
        (
          (lit< tt, (λ e. lit< tt), record { seq = 0; word = refl; most = lit≤ tt; block = refl }, lit< tt, lit< tt),
          ((record { src = lit< tt; iv = lit< tt; seq = lit< tt }, tt), tt),
        ),
      ),
    ),
  ),
)

second_leaves : LeavesBy any_step (node_role quiet_layers) (phase second_events ∷ []) second_life (past_at_end (node_role quiet_layers) first_left second_life (fall_told ∷ again_told ∷ [])) second_left
unfolding changed stores transmit_of
second_leaves = record { more = []; outlasts = no_record; ranges = all_of IsInRange second_left second_ranges; alike = record { config = refl; entries = λ src. refl } }

second_shows : (k : ℕ) → (draws (shown_by second_life k) ≡ []) × (words_told (shown_by second_life k) ≡ [])
second_shows k = rw (no_sends k) (refl, refl)

second_opening : Opens (config_of first_left) second_life.opened second_life.end
unfolding changed transmit_of
second_opening = opens refl

second_by : LifeBy any_step (node_role quiet_layers) (phase second_events ∷ []) first_left second_life second_left
second_by = record {
  opening = second_opening;
  idle = λ e. absurd (true≢false e);
  told = fall_told ∷ again_told ∷ [];
  entries = refl;
  handled = second_handled;
  numbers = second_numbered;
  order = λ e. second_ordered;
  leaves = second_leaves;
  drawn = nothing_drawn first_left second_left second_life refl second_shows;
  spent = all_of (λ (s : Shown). IsSpentRight first_left second_left second_life s.outcome) (shown second_life) tt;
}

abbrev script : Script
script = record { node = node; lives = (phase first_events ∷ []) ∷ (phase second_events ∷ []) ∷ [] }

abbrev run : Run
run = record { lives = record { over = first_list; life = first_life } ∷ record { over = first_left; life = second_life } ∷ []; last = second_left }

pub iv_table_needed : Repeats (record all_rules { are_handled = AreHandledSo HandlesButStep })
iv_table_needed = (quiet_layers, script, run, quiet_safe, record { first = refl; lives = (first_by, (second_by, tt)) }, twice (control_name 4))
