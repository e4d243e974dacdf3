-- The record that shows that a rule for the pairs of two bearers is needed: each has a control PDU, and both draw one
-- pair.
use Rattle.std.proofs.Common.{◌≡◌, ℕ, zero, suc, ◌+◌, ◌^◌, ◌<◌, ◌≤◌, lit<, lit≤, eqb, List, [], ◌∷◌, refl, sym, append-nil}
use Rattle.std.specs.List.{AllPairs, filter}
use Rattle.std.proofs.lemmas.Bool.{true≢false}
use Rattle.mesh_base.specs.IvState.{transmit_of}
use Rattle.mesh_base.specs.declared.pair.Pair.{Pair}
use Rattle.mesh_types.specs.declared.events.Event.{Event}
use Rattle.mesh_types.specs.declared.history.Entry.{Entry}
use Rattle.mesh_types.specs.declared.history.Sent.{Sent}
use Rattle.mesh_types.specs.declared.report.End.TheVariants as F
use Rattle.mesh_types.specs.declared.report.Opened.TheVariants as W
use Rattle.event_definitions.specs.Answers.{answer_of}
use Rattle.store_definitions.specs.Config.{changed, config_of}
use Rattle.event_definitions.specs.Handling.{AreHandled}
use Rattle.event_definitions.specs.History.{OfNothing, Told}
use Rattle.event_definitions.specs.Jobs.{jobs_of}
use Rattle.run_definitions.specs.Lines.{shows_ctl}
use Rattle.needed_rules.specs.Needed.{DrawsTwice, Reuses}
use Rattle.run_safety.specs.Rules.{LeavesBy, LifeBy, all_rules}
use Rattle.run_definitions.specs.Order.{Does, IsOrdered, Part, Step, ends, handles, of_bearer, phase, placed_from, stops, whole, writes}
use Rattle.mesh_base.specs.Pairs.{word_of}
use Rattle.store_definitions.specs.Ranges.{IsInRange}
use Rattle.event_definitions.specs.Readings.{sees_nothing}
use Rattle.report_definitions.specs.Record.{Life, Run, Shown, list_at, shown, shown_by}
use Rattle.event_definitions.specs.Role.{node_role}
use Rattle.run_definitions.specs.RunOf.{IsNumbered, IsSpentRight, Script, draws, no_record, past_at_end, words_told}
use Rattle.event_definitions.specs.Stores.{stores}
use Rattle.run_definitions.specs.Uses.{seals_of, uses}
use Rattle.event_definitions.specs.Layers.{quiet_layers}
use Rattle.needed_rules.specs.WrittenRun.{node, opened_state, pair}
use Rattle.run_safety.proofs.Lists.{pairs_from_apart}
use Rattle.needed_rules.proofs.WrittenRun.{all_of, quiet_safe}
use Rattle.needed_rules.proofs.NeededDraws.{Clash, drawn_only, first_list, first_opens, first_range, mark, no_first, no_second, other_text, raw_entry, raw_event, raw_line, second_list, some_use}

abbrev entries : List Entry
entries = raw_entry 0 1 0 0x7f ∷ raw_entry 1 1 0 0x7e ∷ []

abbrev sends : List (List Sent)
sends = (raw_line 0 (pair 0) 0x7f ∷ []) ∷ (raw_line 1 (pair 0) 0x7e ∷ []) ∷ []

abbrev life : Life
life = record { opened = W.On opened_state (mark + 0); entries = entries; refills = 1; sends = sends; end = F.Ended }

abbrev events : List (List Event)
events = (raw_event 0x7f ∷ []) ∷ (raw_event 0x7e ∷ []) ∷ []

abbrev plan : List Step
plan = phase events ∷ []

abbrev told : List Told
told =
    record { entry = raw_entry 0 1 0 0x7f; insight = OfNothing; records = first_list }
    ∷ record { entry = raw_entry 1 1 0 0x7e; insight = OfNothing; records = first_list }
    ∷ []

handled : AreHandled (node_role quiet_layers) first_list [] told
unfolding changed answer_of stores jobs_of transmit_of
handled = (refl, record { sees = sees_nothing refl; answer = refl; jobs = refl }, (refl, record { sees = sees_nothing refl; answer = refl; jobs = refl }, tt))

abbrev part : Part
part = record { entries = placed_from 0 entries; sends = sends }

third_none : (k : ℕ) → filter (λ (e : Entry). eqb e.bearer (suc (suc k))) entries ≡ []
third_none k = rw (no_first k, no_second k) refl

third_placed : (k : ℕ) → of_bearer (suc (suc k)) (placed_from 0 entries) ≡ []
third_placed k = rw (no_first k, no_second k) refl

does : (k : ℕ) → Does events part k []
does zero = handles (record { at = 0; entry = raw_entry 0 1 0 0x7f }) refl (writes shows_ctl stops)
does (suc zero) = handles (record { at = 1; entry = raw_entry 1 1 0 0x7e }) refl (writes shows_ctl stops)
does (suc (suc k)) = rw (third_placed k) stops

ordered : IsOrdered plan life
ordered = record { parts = part ∷ []; entries = refl; sends = λ k. sym (append-nil (list_at sends k)); phases = whole does ends }

numbered : (k : ℕ) → IsNumbered life k
numbered zero = refl
numbered (suc zero) = refl
numbered (suc (suc k)) = rw (third_none k) refl

leaves : LeavesBy (drawn_only DrawsTwice) (node_role quiet_layers) plan life (past_at_end (node_role quiet_layers) first_list life told) second_list
unfolding changed stores transmit_of
leaves = record { more = []; outlasts = no_record; ranges = all_of IsInRange second_list first_range; alike = record { config = refl; entries = λ src. refl } }

rises : (k : ℕ) → AllPairs (λ p q. word_of p < word_of q) (draws (shown_by life k))
rises zero = pairs_from_apart (λ p q. word_of p < word_of q) (pair 0 ∷ []) (tt, tt)
rises (suc zero) = pairs_from_apart (λ p q. word_of p < word_of q) (pair 0 ∷ []) (tt, tt)
rises (suc (suc k)) = pairs_from_apart (λ p q. word_of p < word_of q) [] tt

onward : (k : ℕ) → AllPairs (λ x y. x ≤ y) (words_told (shown_by life k))
onward zero = pairs_from_apart (λ x y. x ≤ y) (word_of (pair 0) ∷ []) (tt, tt)
onward (suc zero) = pairs_from_apart (λ x y. x ≤ y) (word_of (pair 0) ∷ []) (tt, tt)
onward (suc (suc k)) = pairs_from_apart (λ x y. x ≤ y) [] tt

drawn : DrawsTwice first_list second_list life
unfolding changed transmit_of
drawn = record {
  seq = all_of (λ (p : Pair). p.seq < 2 ^ 24) (pair 0 ∷ pair 0 ∷ []) (lit< tt, (lit< tt, tt));
  from = all_of (λ (p : Pair). (config_of first_list).mark ≤ word_of p) (pair 0 ∷ pair 0 ∷ []) (lit≤ tt, (lit≤ tt, tt));
  below = all_of (λ (p : Pair). word_of p < (config_of second_list).mark) (pair 0 ∷ pair 0 ∷ []) (lit< tt, (lit< tt, tt));
  rise = rises;
  onward = onward;
}

life_by : LifeBy (drawn_only DrawsTwice) (node_role quiet_layers) plan first_list life second_list
life_by = record {
  opening = first_opens (pair 0) 0x7f;
  idle = λ e. absurd (true≢false e);
  told = told;
  entries = refl;
  handled = handled;
  numbers = numbered;
  order = λ e. ordered;
  leaves = leaves;
  drawn = drawn;
  spent = all_of (λ (s : Shown). IsSpentRight first_list second_list life s.outcome) (shown life) (tt, (tt, tt));
}

abbrev script : Script
script = record { node = node; lives = plan ∷ [] }

abbrev run : Run
run = record { lives = record { over = first_list; life = life } ∷ []; last = second_list }

clash : Clash (uses run)
unfolding changed seals_of
clash h = other_text _ _ refl refl (h 0 1 some_use (lit< tt) (lit< tt) refl refl)

pub once_needed : Reuses (record all_rules { is_drawn = DrawsTwice })
once_needed = (quiet_layers, script, run, quiet_safe, record { first = refl; lives = (life_by, tt) }, clash)
