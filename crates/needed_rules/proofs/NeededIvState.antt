-- The record that shows that the IV state in what the next life opens over is needed: a life accepts a message of the IV
-- Index 4 under 5, and begins an update to 6, under which the message's entry is expired; the next life knows 5 again.
use Rattle.std.proofs.Common.{◌≡◌, ℕ, zero, suc, ◌+◌, ◌*◌, lit<, lit≤, inr, Bool, true, false, cond, eqb, List, [], ◌∷◌, ◌++◌, refl, sym, arith, append-nil, Some, None}
use Rattle.std.specs.List.{AllByRecursion}
use Rattle.std.proofs.lemmas.Bool.{true≢false}
use Rattle.layer_definitions.specs.Beacon.{BeaconSource, beacon_text}
use Rattle.layer_definitions.specs.IvIndex.{iv_due, iv_next}
use Rattle.layer_definitions.specs.Network.{net_text}
use Rattle.mesh_base.specs.IvState.{transmit_of}
use Rattle.mesh_base.specs.declared.beacon.Beacon.{Beacon}
use Rattle.mesh_base.specs.declared.iv_state.IvStep.TheVariants as I
use Rattle.mesh_types.specs.declared.answers.Answer.TheVariants as A
use Rattle.mesh_types.specs.declared.answers.KeyStep.TheVariants as S
use Rattle.mesh_types.specs.declared.events.Event.{Event}
use Rattle.mesh_types.specs.declared.events.Event.TheVariants as E
use Rattle.mesh_types.specs.declared.history.Entry.{Entry}
use Rattle.record_types.specs.declared.records.StoreRecord.{StoreRecord}
use Rattle.record_types.specs.declared.records.StoreRecord.TheVariants as R
use Rattle.mesh_types.specs.declared.report.End.TheVariants as F
use Rattle.mesh_types.specs.declared.report.Opened.TheVariants as W
use Rattle.event_definitions.specs.Answers.{answer_of}
use Rattle.store_definitions.specs.Config.{changed, config_of}
use Rattle.store_definitions.specs.Entries.{entry_of, greatest_with, unexpired}
use Rattle.event_definitions.specs.Handling.{AreHandled, Handles, past_of}
use Rattle.event_definitions.specs.History.{OfBeacon, OfNothing, Told}
use Rattle.event_definitions.specs.Jobs.{jobs_of}
use Rattle.run_definitions.specs.Order.{Does, IsOrdered, Part, Step, ends, handles, phase, placed_from, stops, whole}
use Rattle.store_definitions.specs.Ranges.{IsInRange}
use Rattle.event_definitions.specs.Readings.{IsBeacon, IsReading, sees_beacon, sees_nothing, sees_pdu}
use Rattle.report_definitions.specs.Record.{Life, Run, Shown, list_at, shown, shown_by}
use Rattle.event_definitions.specs.Role.{node_role}
use Rattle.run_definitions.specs.RunOf.{IsNumbered, IsSpentRight, Script, draws, no_record, past_at_end, words_told}
use Rattle.event_definitions.specs.Stores.{stores}
use Rattle.needed_rules.specs.Needed.{IsAlikeBut, Repeats, without_iv_state}
use Rattle.run_safety.specs.Rules.{LeavesBy, LifeBy, Rules, all_rules}
use Rattle.event_definitions.specs.Layers.{quiet_layers}
use Rattle.needed_rules.specs.WrittenRun.{key_heard, material, net_key, node, opened_state, pair}
use Rattle.needed_rules.proofs.NeededDraws.{first_list, first_opens, mark}
use Rattle.needed_rules.proofs.NeededNames.{control_entry, control_event, control_fields, control_insight, control_lower, control_name, has_pdu, in_widths, no_sends, nothing_drawn, twice}
use Rattle.needed_rules.proofs.WrittenRun.{all_of, dev_key_is, ivi, material_nid, net_key_is, others_none, others_placed, quiet_safe}

-- The message, 96 hours, and a beacon that tells the IV Index 6 in progress.

abbrev ticks : ℕ
ticks = 96 * 360000

abbrev tick_entry : Entry
tick_entry = record { bearer = 0; number = 2; event = E.Tick ticks; fills = 0; answer = A.Ticked ticks; jobs = [] }

abbrev beacon_event : Event
beacon_event = E.Bcn (beacon_text net_key 2 6)

abbrev beacon_entry : Entry
beacon_entry = record {
  bearer = 0;
  number = 3;
  event = beacon_event;
  fills = 0;
  answer = A.Beacon 0 S.Same (I.Begin (record { current = 6; progress = true; hours = 0; since = 288 }));
  jobs = [];
}

abbrev entries : List Entry
entries = control_entry 1 4 ∷ tick_entry ∷ beacon_entry ∷ []

abbrev events : List (List Event)
events = (control_event 4 ∷ E.Tick ticks ∷ beacon_event ∷ []) ∷ []

abbrev plan : List Step
plan = phase events ∷ []

abbrev life : Life
life = record { opened = W.On opened_state (mark + 0); entries = entries; refills = 0; sends = [] ∷ []; end = F.Ended }

abbrev after_message : List StoreRecord
after_message = first_list ++ R.Replay (control_name 4) None ∷ []

abbrev after_tick : List StoreRecord
after_tick = after_message ++ R.Hour 96 288 ∷ []

abbrev at_end : List StoreRecord
at_end = after_tick ++ R.Numbers 6 true mark 0 288 ∷ []

abbrev message_told : Told
message_told = record { entry = control_entry 1 4; insight = control_insight 4; records = first_list }

abbrev tick_told : Told
tick_told = record { entry = tick_entry; insight = OfNothing; records = after_message }

abbrev told_beacon : Beacon
told_beacon = record { index = 0; fresh = false; refresh = false; update = true; iv = 6 }

abbrev beacon_told : Told
beacon_told = record { entry = beacon_entry; insight = OfBeacon (Some told_beacon); records = after_tick }

abbrev told : List Told
told = message_told ∷ tick_told ∷ beacon_told ∷ []

abbrev source : BeaconSource
source = record { index = 0; fresh = false; key = net_key }

message_reads : IsReading quiet_layers (past_of [] message_told) (net_text material (control_fields 4)) (Some (record { fields = control_fields 4; by = key_heard }))
unfolding changed
message_reads = (
  0,
  record {
    key = refl;
    reads = record { has_pdu = has_pdu 4; in_widths = in_widths 4 (lit< tt); iv = (inr refl, ivi material (control_fields 4) material_nid); text = refl };
    first = λ k h g lt is reads. absurd (omega arith);
  },
)

message_handled : Handles (node_role quiet_layers) (past_of [] message_told) message_told
unfolding changed answer_of stores jobs_of
message_handled = record { sees = sees_pdu refl message_reads control_lower refl; answer = refl; jobs = refl }

tick_handled : Handles (node_role quiet_layers) (past_of (message_told ∷ []) tick_told) tick_told
unfolding changed answer_of stores jobs_of iv_due transmit_of
tick_handled = record { sees = sees_nothing refl; answer = refl; jobs = refl }

abbrev before_beacon : List Told
before_beacon = message_told ∷ tick_told ∷ []

beacon_reads : IsBeacon (past_of before_beacon beacon_told) (beacon_text net_key 2 6) (Some told_beacon)
unfolding changed
beacon_reads = record {
  place = 0;
  by = source;
  by_is = refl;
  flags = 2;
  reads = record { flags_width = lit< tt; iv_width = lit< tt; text = refl };
  beacon = refl;
  first = λ k earlier f iv lt is reads. absurd (omega arith);
}

beacon_handled : Handles (node_role quiet_layers) (past_of before_beacon beacon_told) beacon_told
unfolding changed answer_of stores jobs_of iv_next transmit_of
beacon_handled = record { sees = sees_beacon refl beacon_reads; answer = refl; jobs = refl }

handled : AreHandled (node_role quiet_layers) first_list [] told
unfolding changed stores transmit_of iv_due
handled = (refl, message_handled, (refl, tick_handled, (refl, beacon_handled, tt)))

abbrev part : Part
part = record { entries = placed_from 0 entries; sends = [] ∷ [] }

does : (k : ℕ) → Does events part k []
does zero =
    handles (record { at = 0; entry = control_entry 1 4 }) refl
    (handles (record { at = 1; entry = tick_entry }) refl (handles (record { at = 2; entry = beacon_entry }) refl stops))
does (suc k) = rw (others_placed k 0 entries (refl, (refl, (refl, tt)))) stops

ordered : IsOrdered plan life
ordered = record { parts = part ∷ []; entries = refl; sends = λ k. sym (append-nil (list_at ([] ∷ []) k)); phases = whole does ends }

numbered : (k : ℕ) → IsNumbered life k
numbered zero = refl
numbered (suc k) = rw (others_none k entries (refl, (refl, (refl, tt)))) refl

-- What is left says all but the IV state, and has no entry of the message.

ranges : AllByRecursion IsInRange at_end
unfolding transmit_of
ranges = (
  (lit≤ tt, lit≤ tt, lit≤ tt, lit≤ tt, dev_key_is),
  (
    (lit< tt, (λ e. lit< tt), record { seq = 0; word = refl; most = lit≤ tt; block = refl }, lit< tt, lit< tt),
    (
      (lit≤ tt, lit≤ tt, lit≤ tt, net_key_is),
      (
        (record { src = lit< tt; iv = lit< tt; seq = lit< tt }, tt),
        (
          (lit< tt, lit< tt),
          ((lit< tt, (λ e. lit< tt), record { seq = 0; word = refl; most = lit≤ tt; block = refl }, lit< tt, lit< tt), tt),
        ),
      ),
    ),
  ),
)

expired_entry : (b : Bool) → None ≡ unexpired 6 (cond b (greatest_with None (control_name 4).pair) None)
expired_entry true = refl
expired_entry false = refl

same_entries : (src : ℕ) → entry_of first_list src ≡ entry_of at_end src
unfolding changed
same_entries src = expired_entry (eqb 0x0101 src)

abbrev any_state : Rules
any_state = record all_rules { is_alike = IsAlikeBut without_iv_state }

leaves : LeavesBy any_state (node_role quiet_layers) plan life (past_at_end (node_role quiet_layers) first_list life told) first_list
unfolding changed stores transmit_of iv_due
leaves = record { more = []; outlasts = no_record; ranges = all_of IsInRange at_end ranges; alike = record { config = refl; entries = same_entries } }

shows_nothing : (k : ℕ) → (draws (shown_by life k) ≡ []) × (words_told (shown_by life k) ≡ [])
shows_nothing k = rw (no_sends k) (refl, refl)

life_by : LifeBy any_state (node_role quiet_layers) plan first_list life first_list
life_by = record {
  opening = first_opens (pair 0) 0x7f;
  idle = λ e. absurd (true≢false e);
  told = told;
  entries = refl;
  handled = handled;
  numbers = numbered;
  order = λ e. ordered;
  leaves = leaves;
  drawn = nothing_drawn first_list first_list life refl shows_nothing;
  spent = all_of (λ (s : Shown). IsSpentRight first_list first_list life s.outcome) (shown life) tt;
}

-- the same life twice
abbrev script : Script
script = record { node = node; lives = plan ∷ plan ∷ [] }

abbrev run : Run
run = record { lives = record { over = first_list; life = life } ∷ record { over = first_list; life = life } ∷ []; last = first_list }

pub iv_state_needed : Repeats (record all_rules { is_alike = IsAlikeBut without_iv_state })
iv_state_needed = (quiet_layers, script, run, quiet_safe, record { first = refl; lives = (life_by, (life_by, tt)) }, twice (control_name 4))
