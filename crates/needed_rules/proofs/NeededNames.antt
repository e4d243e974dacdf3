-- The record that shows that the replay list in what is left is needed: one control message is accepted in two lives.
use Rattle.std.proofs.Common.{◌≡◌, ◌≢◌, ℕ, zero, suc, ◌+◌, ◌^◌, ◌<◌, ◌≤◌, lit<, lit≤, inl, true, List, [], ◌∷◌, ◌++◌, refl, sym, arith, append-nil, Some, None}
use Rattle.std.specs.List.{AllByRecursion}
use Rattle.std.proofs.lemmas.Bool.{true≢false}
use Rattle.layer_definitions.specs.Network.{net_text}
use Rattle.mesh_base.specs.IvState.{transmit_of}
use Rattle.mesh_base.specs.declared.pair.Pair.{Pair}
use Rattle.mesh_types.specs.declared.answers.Answer.TheVariants as A
use Rattle.mesh_types.specs.declared.events.Event.{Event}
use Rattle.mesh_types.specs.declared.events.Event.TheVariants as E
use Rattle.mesh_types.specs.declared.history.Entry.{Entry}
use Rattle.mesh_types.specs.declared.history.Sent.{Sent}
use Rattle.record_types.specs.declared.records.StoreRecord.{StoreRecord}
use Rattle.record_types.specs.declared.records.StoreRecord.TheVariants as R
use Rattle.mesh_types.specs.declared.report.End.TheVariants as F
use Rattle.mesh_types.specs.declared.report.Opened.TheVariants as W
use Rattle.event_definitions.specs.Answers.{answer_of}
use Rattle.store_definitions.specs.Config.{changed, config_of}
use Rattle.event_definitions.specs.Handling.{AreHandled, past_of}
use Rattle.event_definitions.specs.History.{Told}
use Rattle.event_definitions.specs.Jobs.{jobs_of}
use Rattle.run_safety.specs.Rules.{LeavesBy, LifeBy, Rules, all_rules}
use Rattle.run_definitions.specs.Order.{Does, IsOrdered, Part, Step, ends, handles, phase, placed_from, stops, whole}
use Rattle.mesh_base.specs.Pairs.{word_of}
use Rattle.store_definitions.specs.Ranges.{IsInRange}
use Rattle.report_definitions.specs.Record.{Life, Run, Shown, list_at, shown, shown_by}
use Rattle.event_definitions.specs.Role.{node_role}
use Rattle.run_definitions.specs.RunOf.{IsNumbered, IsSpentRight, Script, draws, no_record, past_at_end, words_told}
use Rattle.event_definitions.specs.Stores.{stores}
use Rattle.event_definitions.specs.Layers.{quiet_layers}
use Rattle.needed_rules.specs.WrittenRun.{address, material, node, opened_state, pair}
use Rattle.run_safety.proofs.Lists.{pairs_from_apart}
use Rattle.needed_rules.proofs.WrittenRun.{all_of, dev_key_is, net_key_is, others_none, others_placed, quiet_safe}
use Rattle.layer_definitions.specs.Lower.{ReadsLower, lower_text}
use Rattle.layer_definitions.specs.Network.{HasPdu, IsInWidths}
use Rattle.mesh_base.specs.declared.fields.NetFields.{NetFields}
use Rattle.mesh_base.specs.declared.lower.Lower.TheVariants.{Control}
use Rattle.mesh_base.specs.declared.pair.Name.{Name}
use Rattle.event_definitions.specs.History.{Insight, OfPdu}
use Rattle.needed_rules.specs.Needed.{Repeats, SaysTheSame}
use Rattle.event_definitions.specs.Readings.{IsReading, sees_pdu}
use Rattle.run_definitions.specs.RunOf.{IsDrawn}
use Rattle.run_definitions.specs.Uses.{AtMostOnce}
use Rattle.needed_rules.specs.WrittenRun.{key_heard}
use Rattle.needed_rules.proofs.NeededDraws.{first_list, first_opens, mark}
use Rattle.needed_rules.proofs.WrittenRun.{ivi, material_nid}

-- A control message of the node 0101, under this IV Index.

abbrev pub control_fields : ℕ → NetFields
control_fields iv = record { iv = iv; ctl = true; ttl = 0; seq = 1; src = address 0x0101; dst = address 0x1201; tpdu = 0x7f ∷ [] }

abbrev pub control_event : ℕ → Event
control_event iv = E.Net (net_text material (control_fields iv))

abbrev pub control_name : ℕ → Name
control_name iv = record { src = address 0x0101; pair = record { iv = iv; seq = 1 } }

abbrev pub control_entry : ℕ → ℕ → Entry
control_entry number iv =
    record { bearer = 0; number = number; event = control_event iv; fills = 0; answer = A.Control (control_name iv) (address 0x1201) 0x7f []; jobs = [] }

abbrev pub control_insight : ℕ → Insight
control_insight iv = OfPdu (Some (record { fields = control_fields iv; by = key_heard })) (Some (Control 0x7f [])) None

pub has_pdu : (iv : ℕ) → HasPdu (control_fields iv)
has_pdu iv = record { ttl = lit< tt; seq = lit< tt; least = lit≤ tt; most = lit≤ tt }

pub in_widths : (iv : ℕ) → iv < 2 ^ 32 → IsInWidths (control_fields iv)
in_widths iv h = record { iv = h; src = lit< tt; dst = lit< tt; tpdu = all_of (λ x. x < 2 ^ 8) (0x7f ∷ []) (lit< tt, tt) }

pub control_lower : ReadsLower true (0x7f ∷ []) (Control 0x7f [])
unfolding lower_text
control_lower = record { kind = refl; fits = (lit< tt, lit≤ tt); text = refl }

zero_of : (e : Entry) → e.bearer ≡ 0 → AllByRecursion (λ (x : Entry). x.bearer ≡ 0) (e ∷ [])
zero_of e h = (h, tt)

pub nothing_drawn : (over next : List StoreRecord) (l : Life) → draws (shown l) ≡ [] → ((k : ℕ) → (draws (shown_by l k) ≡ []) × (words_told (shown_by l k) ≡ [])) → IsDrawn over next l
nothing_drawn over next l e f = record {
  seq = rw e (all_of (λ (p : Pair). p.seq < 2 ^ 24) [] tt);
  from = rw e (all_of (λ (p : Pair). (config_of over).mark ≤ word_of p) [] tt);
  below = rw e (all_of (λ (p : Pair). word_of p < (config_of next).mark) [] tt);
  once = rw e (pairs_from_apart (λ p q. word_of p ≢ word_of q) [] tt);
  rise = λ k. rw (f k).0 (pairs_from_apart (λ p q. word_of p < word_of q) [] tt);
  onward = λ k. rw (f k).1 (pairs_from_apart (λ x y. x ≤ y) [] tt);
}

pub no_sends : (k : ℕ) → list_at {A = Sent} ([] ∷ []) k ≡ []
no_sends zero = refl
no_sends (suc k) = refl

pub twice : (n : Name) → AtMostOnce (n ∷ n ∷ []) → ⊥
twice n h = h 0 1 n (lit< tt) (lit< tt) refl

-- A life with that message alone.

abbrev pub life : ℕ → Life
life iv = record { opened = W.On opened_state (mark + 0); entries = control_entry 1 iv ∷ []; refills = 0; sends = [] ∷ []; end = F.Ended }

abbrev pub plan : ℕ → List Step
plan iv = phase ((control_event iv ∷ []) ∷ []) ∷ []

abbrev pub told : ℕ → Told
told iv = record { entry = control_entry 1 iv; insight = control_insight iv; records = first_list }

pub reads : IsReading quiet_layers (past_of [] (told 5)) (net_text material (control_fields 5)) (Some (record { fields = control_fields 5; by = key_heard }))
unfolding changed
reads = (
  0,
  record {
    key = refl;
    reads = record { has_pdu = has_pdu 5; in_widths = in_widths 5 (lit< tt); iv = (inl refl, ivi material (control_fields 5) material_nid); text = refl };
    first = λ k h g lt is reads. absurd (omega arith);
  },
)

handled : AreHandled (node_role quiet_layers) first_list [] (told 5 ∷ [])
unfolding changed answer_of stores jobs_of
handled = (refl, record { sees = sees_pdu refl reads control_lower refl; answer = refl; jobs = refl }, tt)

abbrev part : ℕ → Part
part iv = record { entries = placed_from 0 (control_entry 1 iv ∷ []); sends = [] ∷ [] }

does : (iv k : ℕ) → Does ((control_event iv ∷ []) ∷ []) (part iv) k []
does iv zero = handles (record { at = 0; entry = control_entry 1 iv }) refl stops
does iv (suc k) = rw (others_placed k 0 (control_entry 1 iv ∷ []) (refl, tt)) stops

pub ordered : (iv : ℕ) → IsOrdered (plan iv) (life iv)
ordered iv = record { parts = part iv ∷ []; entries = refl; sends = λ k. sym (append-nil (list_at ([] ∷ []) k)); phases = whole (does iv) ends }

pub numbered : (iv k : ℕ) → IsNumbered (life iv) k
numbered iv zero = refl
numbered iv (suc k) = rw (others_none k (control_entry 1 iv ∷ []) (refl, tt)) refl

pub shows_nothing : (iv k : ℕ) → (draws (shown_by (life iv) k) ≡ []) × (words_told (shown_by (life iv) k) ≡ [])
shows_nothing iv k = rw (no_sends k) (refl, refl)

abbrev forgetful : Rules
forgetful = record all_rules { is_alike = SaysTheSame }

pub at_end_range : (iv : ℕ) → iv < 2 ^ 32 → AllByRecursion IsInRange (first_list ++ R.Replay (control_name iv) None ∷ [])
unfolding transmit_of
at_end_range iv h = (
  (lit≤ tt, lit≤ tt, lit≤ tt, lit≤ tt, dev_key_is),
  (
    (lit< tt, (λ e. lit< tt), record { seq = 0; word = refl; most = lit≤ tt; block = refl }, lit< tt, lit< tt),
    (
      (lit≤ tt, lit≤ tt, lit≤ tt, net_key_is),
      ((record { src = lit< tt; iv = h; seq = lit< tt }, tt), tt),
    ),
  ),
)

leaves : LeavesBy forgetful (node_role quiet_layers) (plan 5) (life 5) (past_at_end (node_role quiet_layers) first_list (life 5) (told 5 ∷ [])) first_list
unfolding changed stores
leaves = record { more = []; outlasts = no_record; ranges = all_of IsInRange (first_list ++ R.Replay (control_name 5) None ∷ []) (at_end_range 5 (lit< tt)); alike = record { config = refl } }

life_by : LifeBy forgetful (node_role quiet_layers) (plan 5) first_list (life 5) first_list
life_by = record {
  opening = first_opens (pair 0) 0x7f;
  idle = λ e. absurd (true≢false e);
  told = told 5 ∷ [];
  entries = refl;
  handled = handled;
  numbers = numbered 5;
  order = λ e. ordered 5;
  leaves = leaves;
  drawn = nothing_drawn first_list first_list (life 5) refl (shows_nothing 5);
  spent = all_of (λ (s : Shown). IsSpentRight first_list first_list (life 5) s.outcome) (shown (life 5)) tt;
}

-- the same life twice
abbrev script : Script
script = record { node = node; lives = plan 5 ∷ plan 5 ∷ [] }

abbrev run : Run
run = record { lives = record { over = first_list; life = life 5 } ∷ record { over = first_list; life = life 5 } ∷ []; last = first_list }

pub replay_list_needed : Repeats (record all_rules { is_alike = SaysTheSame })
replay_list_needed = (quiet_layers, script, run, quiet_safe, record { first = refl; lives = (life_by, (life_by, tt)) }, twice (control_name 5))
